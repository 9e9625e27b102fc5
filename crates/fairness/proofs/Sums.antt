-- Sums over the numbers below n, and tests of all of them. Assumes nothing.
use Rattle.std.proofs.Common.{◌≡◌, ℕ, zero, suc, ◌+◌, ◌-◌, ◌*◌, ◌<◌, ◌≤◌, min, Bool, true, false, not, ◌&&◌, ltb, sym, refl, ap, ◌∙◌, inl, inr, add-mul, zero-mul, arith}
use Rattle.std.proofs.lemmas.Bool.{cases_eq, cases_lt, lt-ltb, le-ltb, and_parts, and_left, and_right}
use Rattle.pairing.specs.Rules.{bit}
use Rattle.words.specs.Laws.{total}
use Rattle.fairness.specs.Laws.{every}

pub total_times : (f : ℕ → ℕ) (k n : ℕ) → total (λ v. f v * k) n ≡ total f n * k
unfolding total
total_times f k zero = sym (zero-mul k)
total_times f k (suc n) = omega (arith, total_times f k n, add-mul (f n) (total f n) k)

-- the first term first
pub total_front : (f : ℕ → ℕ) (n : ℕ) → total f (suc n) ≡ f 0 + total (λ v. f (suc v)) n
unfolding total
total_front f zero = refl
total_front f (suc n) = omega (arith, total_front f n)

-- terms from m on that are 0
pub total_tail : (f : ℕ → ℕ) (m n : ℕ) → m ≤ n → ((x : ℕ) → x < n → m ≤ x → f x ≡ 0) → total f n ≡ total f m
unfolding total
total_tail f m zero within off = ap (total f) {x = 0} {y = m} (omega arith)
total_tail f m (suc n) within off =
    elim (cases_eq m (suc n)) [
      | inl e ↦ ap (total f) (sym e)
      | inr ne ↦ omega (arith, off n (omega arith) (omega arith), total_tail f m n (omega arith) (λ x l above. off x (omega arith) above))
    ]

-- how many numbers are below c
pub total_below : (c n : ℕ) → total (λ x. bit (ltb x c)) n ≡ min c n
unfolding total
total_below c zero = omega arith
total_below c (suc n) =
    elim (cases_lt n c) [
      | inl l ↦ omega (arith, ap bit (lt-ltb n c l), total_below c n)
      | inr l ↦ omega (arith, ap bit (le-ltb n c l), total_below c n)
    ]

pub total_above : (c n : ℕ) → total (λ x. bit (not (ltb x c))) n ≡ n - c
unfolding total
total_above c zero = omega arith
total_above c (suc n) =
    elim (cases_lt n c) [
      | inl l ↦ omega (arith, ap (λ b. bit (not b)) (lt-ltb n c l), total_above c n)
      | inr l ↦ omega (arith, ap (λ b. bit (not b)) (le-ltb n c l), total_above c n)
    ]

-- ---- tests of all numbers below n

pub every_like : (f g : ℕ → Bool) (n : ℕ) → ((q : ℕ) → q < n → f q ≡ g q) → every f n ≡ every g n
unfolding every
every_like f g zero same = refl
every_like f g (suc n) same =
    ap (λ b. b && every f n) (same n (omega arith)) ∙ ap (λ b. g n && b) (every_like f g n (λ q below. same q (omega arith)))

pub every_true : (f : ℕ → Bool) (n : ℕ) → ((q : ℕ) → q < n → f q ≡ true) → every f n ≡ true
unfolding every
every_true f zero all = refl
every_true f (suc n) all = ap (λ b. b && every f n) (all n (omega arith)) ∙ every_true f n (λ q below. all q (omega arith))

pub every_at_each : (f : ℕ → Bool) (n : ℕ) → every f n ≡ true → (q : ℕ) → q < n → f q ≡ true
unfolding every
every_at_each f zero all q within = absurd (omega arith)
every_at_each f (suc n) all q within =
    elim (cases_eq n q) [
      | inl e ↦ sym (ap f e) ∙ (and_parts (f n) (every f n) all).0
      | inr ne ↦ every_at_each f n (and_parts (f n) (every f n) all).1 q (omega arith)
    ]

pub every_false : (f : ℕ → Bool) (p n : ℕ) → p < n → f p ≡ false → every f n ≡ false
unfolding every
every_false f p zero within off = absurd (omega arith)
every_false f p (suc n) within off =
    elim (cases_eq n p) [
      | inl e ↦ and_left (f n) (every f n) (ap f e ∙ off)
      | inr ne ↦ and_right (f n) (every f n) (every_false f p n (omega arith) off)
    ]

and_swap : (x y z : Bool) → (x && (y && z)) ≡ (y && (x && z))
and_swap true true z = refl
and_swap true false z = refl
and_swap false true z = refl
and_swap false false z = refl

-- a test that holds at p, but for which it is the other
pub every_at :
    (f g : ℕ → Bool) (p n : ℕ) → p < n → ((q : ℕ) → (q ≡ p → ⊥) → f q ≡ g q) → g p ≡ true → every f n ≡ (f p && every g n)
unfolding every
every_at f g p zero within same at = absurd (omega arith)
every_at f g p (suc n) within same at =
    elim (cases_eq n p) [
      | inl e ↦
          ap (λ b. f n && b) (every_like f g n (λ q below. same q (λ e'. omega arith)))
          ∙ ap (λ k. f k && every g n) e
          ∙ ap (λ b. f p && (b && every g n)) (sym (ap g e ∙ at))
      | inr ne ↦
          ap (λ b. b && every f n) (same n ne)
          ∙ ap (λ b. g n && b) (every_at f g p n (omega arith) same at)
          ∙ and_swap (g n) (f p) (every g n)
    ]
