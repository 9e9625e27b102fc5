-- Sums over the numbers below n, and how many numbers below n pass a test. Assumes nothing.
use Rattle.std.proofs.Common.{◌≡◌, ℕ, zero, suc, ◌+◌, ◌*◌, ◌<◌, Bool, eqb, sym, refl, ap, ◌∙◌, inl, inr, one-mul, zero-mul, arith}
use Rattle.std.proofs.lemmas.Bool.{eq-eqb, ne_eqb, cases_eq}
use Rattle.words.proofs.Evenness.{total_like}
use Rattle.words.proofs.Sequences.{total_none}
use Rattle.words.specs.Laws.{total}
use Rattle.pairing.specs.Rules.{bit, count_below}

pub total_add : (f g : ℕ → ℕ) (n : ℕ) → total (λ v. f v + g v) n ≡ total f n + total g n
unfolding total
total_add f g zero = refl
total_add f g (suc n) = omega (arith, total_add f g n)

-- terms that differ at one place
pub total_at : (f g : ℕ → ℕ) (p n : ℕ) → p < n → ((q : ℕ) → (q ≡ p → ⊥) → f q ≡ g q) → total f n + g p ≡ total g n + f p
unfolding total
total_at f g p zero within same = omega arith
total_at f g p (suc n) within same =
    elim (cases_eq n p) [
      | inl e ↦
          let here : f n ≡ f p = ap f e in
          let there : g n ≡ g p = ap g e in
          omega (arith, total_like f g n (λ v below. same v (λ e'. omega arith)))
      | inr ne ↦ omega (arith, same n ne, total_at f g p n (omega arith) same)
    ]

-- only the term at z counts
pub total_mark : (f : ℕ → ℕ) (z n : ℕ) → z < n → total (λ y. bit (eqb z y) * f y) n ≡ f z
total_mark f z n within =
    let off : (q : ℕ) → (q ≡ z → ⊥) → bit (eqb z q) * f q ≡ 0 = λ q ne. ap (λ b. bit b * f q) (ne_eqb z q (λ e. ne (sym e))) ∙ zero-mul (f q) in
    let at : bit (eqb z z) * f z ≡ f z = ap (λ b. bit b * f z) (eq-eqb z z refl) ∙ one-mul (f z) in
    omega (arith, total_at (λ y. bit (eqb z y) * f y) (λ y. 0) z n within off, total_none n)

-- ---- counts

pub count_total : (t : ℕ → Bool) (n : ℕ) → count_below t n ≡ total (λ v. bit (t v)) n
unfolding total count_below
count_total t zero = refl
count_total t (suc n) = ap (λ k. bit (t n) + k) (count_total t n)

pub count_at : (f g : ℕ → Bool) (p n : ℕ) → p < n → ((q : ℕ) → (q ≡ p → ⊥) → f q ≡ g q) → count_below f n + bit (g p) ≡ count_below g n + bit (f p)
count_at f g p n within same =
    omega (arith, count_total f n, count_total g n, total_at (λ q. bit (f q)) (λ q. bit (g q)) p n within (λ q ne. ap bit (same q ne)))

pub count_like : (f g : ℕ → Bool) (n : ℕ) → ((q : ℕ) → q < n → f q ≡ g q) → count_below f n ≡ count_below g n
count_like f g n same = count_total f n ∙ total_like (λ q. bit (f q)) (λ q. bit (g q)) n (λ q l. ap bit (same q l)) ∙ sym (count_total g n)
