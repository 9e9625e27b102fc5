-- The words below a limit fall evenly on the draws. Assumes nothing.
use Rattle.std.proofs.Common.{◌≡◌, ℕ, zero, suc, ◌+◌, ◌*◌, ◌/◌, ◌%◌, ◌^◌, ◌<◌, ◌≤◌, cond, eqb, sym, refl, ap, ◌∙◌, inl, inr, add-zero, add-suc, suc-mul, zero-mul, mul-div_cancel, arith}
use Rattle.std.proofs.lemmas.Nat.{mod-mul-add}
use Rattle.std.proofs.lemmas.Bool.{eq-eqb, ne_eqb, cond-true, cond-false, cases_eq}
use Rattle.words.specs.Laws.{total, WordsAreEven}

-- equal terms have an equal sum
pub total_like : (f g : ℕ → ℕ) (n : ℕ) → ((v : ℕ) → v < n → f v ≡ g v) → total f n ≡ total g n
unfolding total
total_like f g zero same = refl
total_like f g (suc n) same = omega (arith, same n (omega arith), total_like f g n (λ v below. same v (omega arith)))

-- a sum in two parts
pub total_parts : (f : ℕ → ℕ) (m n : ℕ) → total f (m + n) ≡ total f m + total (λ v. f (m + v)) n
unfolding total
total_parts f m zero = ap (total f) (add-zero m) ∙ sym (add-zero (total f m))
total_parts f m (suc n) = ap (total f) (add-suc m n) ∙ omega (arith, total_parts f m n)

-- one where v is r, and zero elsewhere
abbrev pub mark : ℕ → ℕ → ℕ
mark r v = cond (eqb v r) 1 0

mark_here : (r v : ℕ) → v ≡ r → mark r v ≡ 1
mark_here r v same = cond-true (eqb v r) 1 0 (eq-eqb v r same)

mark_off : (r v : ℕ) → (v ≡ r → ⊥) → mark r v ≡ 0
mark_off r v other = cond-false (eqb v r) 1 0 (ne_eqb v r other)

-- r is not among the numbers below n
marks_none : (r n : ℕ) → n ≤ r → total (mark r) n ≡ 0
unfolding total
marks_none r zero within = refl
marks_none r (suc n) within = omega (arith, mark_off r n (λ e. omega arith), marks_none r n (omega arith))

-- r is among them, once
marks_one : (r n : ℕ) → r < n → total (mark r) n ≡ 1
unfolding total
marks_one r zero within = omega arith
marks_one r (suc n) within =
    elim (cases_eq n r) [
      | inl e ↦ omega (arith, mark_here r n e, marks_none r n (omega arith))
      | inr ne ↦ omega (arith, mark_off r n ne, marks_one r n (omega arith))
    ]

-- in k rounds of the width each remainder stands k times
pub rounds : (width r k : ℕ) → r < width → total (λ v. mark r (v % width)) (k * width) ≡ k
unfolding total
rounds width r zero within = ap (total (λ v. mark r (v % width))) (zero-mul width)
rounds width r (suc k) within =
    let f : ℕ → ℕ = λ v. mark r (v % width) in
    let last : total (λ v. f (k * width + v)) width ≡ total (mark r) width =
    total_like (λ v. f (k * width + v)) (mark r) width (λ v below. ap (mark r) (mod-mul-add k width v below)) in
    ap (total f) (suc-mul k width)
    ∙ total_parts f (k * width) width
    ∙ omega (arith, rounds width r k within, last, marks_one r width within)

pub words_are_even : WordsAreEven
words_are_even width r positive within =
    rounds width r (2 ^ 32 / width) within ∙ sym (mul-div_cancel (2 ^ 32 / width) positive)
