-- Laws of binomials, and of the weights of groups. Assumes nothing.
use Rattle.std.proofs.Common.{◌≡◌, ℕ, zero, suc, ◌+◌, ◌-◌, ◌*◌, ◌<◌, ltb, sym, refl, ap, ◌∙◌, inl, inr, suc-mul, mul_comm, add-mul, mul-zero, zero-mul, mul-suc, mul-add, arith}
use Rattle.std.proofs.lemmas.Bool.{cases_eq, cases_lt, lt-ltb, le-ltb, cond-true, cond-false}
use Rattle.fairness.specs.Laws.{choose, weight}

pub choose_none : (n : ℕ) → choose n 0 ≡ 1
unfolding choose
choose_none zero = refl
choose_none (suc n) = refl

pub choose_more : (n k : ℕ) → choose (suc n) (suc k) ≡ choose n k + choose n (suc k)
unfolding choose
choose_more n k = refl

pub choose_of_none : (k : ℕ) → choose 0 (suc k) ≡ 0
unfolding choose
choose_of_none k = refl

choose_past : (n k : ℕ) → n < k → choose n k ≡ 0
choose_past n zero past = omega arith
choose_past zero (suc k) past = choose_of_none k
choose_past (suc n) (suc k) past = omega (arith, choose_more n k, choose_past n k (omega arith), choose_past n (suc k) (omega arith))

-- (n + 1 choose k + 1) (k + 1) = (n + 1) (n choose k)
chosen_in : (n k : ℕ) → choose (suc n) (suc k) * suc k ≡ suc n * choose n k
chosen_in zero zero =
    let a : choose 1 1 ≡ 1 = omega (arith, choose_more 0 0, choose_none 0, choose_of_none 0) in
    ap (λ x. x * 1) a ∙ sym (ap (λ x. 1 * x) (choose_none 0))
chosen_in zero (suc k) =
    ap (λ x. x * suc (suc k)) (choose_past 1 (suc (suc k)) (omega arith))
    ∙ zero-mul (suc (suc k))
    ∙ sym (ap (λ x. 1 * x) (choose_of_none k) ∙ mul-zero 1)
chosen_in (suc n) zero =
    let a : choose (suc (suc n)) 1 ≡ choose (suc n) 0 + choose (suc n) 1 = choose_more (suc n) 0 in
    let b : choose (suc n) 1 * 1 ≡ suc n * choose n 0 = chosen_in n 0 in
    let c : suc n * choose n 0 ≡ suc n * 1 = ap (λ x. suc n * x) (choose_none n) in
    let d : suc (suc n) * choose (suc n) 0 ≡ suc (suc n) * 1 = ap (λ x. suc (suc n) * x) (choose_none (suc n)) in
    omega (arith, choose_none (suc n))
chosen_in (suc n) (suc k) =
    let u : ℕ = choose (suc n) (suc k) in
    let v : ℕ = choose (suc n) (suc (suc k)) in
    let a : choose (suc (suc n)) (suc (suc k)) * suc (suc k) ≡ (u + v) * suc (suc k) = ap (λ x. x * suc (suc k)) (choose_more (suc n) (suc k)) in
    let b : (u + v) * suc (suc k) ≡ u * suc (suc k) + v * suc (suc k) = add-mul u v (suc (suc k)) in
    let c : u * suc (suc k) ≡ u * suc k + u = mul-suc u (suc k) in
    let d : u * suc k ≡ suc n * choose n k = chosen_in n k in
    let e : v * suc (suc k) ≡ suc n * choose n (suc k) = chosen_in n (suc k) in
    let f : suc n * (choose n k + choose n (suc k)) ≡ suc n * choose n k + suc n * choose n (suc k) = mul-add (suc n) (choose n k) (choose n (suc k)) in
    let g : suc n * u ≡ suc n * (choose n k + choose n (suc k)) = ap (λ x. suc n * x) (choose_more n k) in
    let i : suc (suc n) * u ≡ suc n * u + u = suc-mul (suc n) u in
    omega arith

-- (n + 1 choose k) (n + 1 - k) = (n + 1) (n choose k)
chosen_out : (n k : ℕ) → choose (suc n) k * (suc n - k) ≡ suc n * choose n k
chosen_out n zero =
    ap (λ x. x * (suc n - 0)) (choose_none (suc n)) ∙ omega (arith, ap (λ x. suc n * x) (choose_none n))
chosen_out n (suc k) =
    elim (cases_lt n k) [
      | inl l ↦
          ap (λ x. x * (suc n - suc k)) (choose_past (suc n) (suc k) (omega arith))
          ∙ zero-mul (suc n - suc k)
          ∙ sym (ap (λ x. suc n * x) (choose_past n (suc k) (omega arith)) ∙ mul-zero (suc n))
      | inr l ↦
          let u : ℕ = choose (suc n) (suc k) in
          let a : u * (suc n - suc k) + u * suc k ≡ u * (suc n - suc k + suc k) = sym (mul-add u (suc n - suc k) (suc k)) in
          let b : u * (suc n - suc k + suc k) ≡ u * suc n = ap (λ x. u * x) (omega arith) in
          let c : u * suc n ≡ suc n * u = mul_comm u (suc n) in
          let d : suc n * u ≡ suc n * (choose n k + choose n (suc k)) = ap (λ x. suc n * x) (choose_more n k) in
          let e : suc n * (choose n k + choose n (suc k)) ≡ suc n * choose n k + suc n * choose n (suc k) = mul-add (suc n) (choose n k) (choose n (suc k)) in
          let f : u * suc k ≡ suc n * choose n k = chosen_in n k in
          omega arith
    ]

-- ---- weights

pub weight_past : (t d s : ℕ) → t < s → weight t d s ≡ 0
weight_past t d s past = cond-true (ltb t s) 0 (choose d (t - s)) (lt-ltb t s past)

pub weight_within : (t d s k : ℕ) → t ≡ s + k → weight t d s ≡ choose d k
weight_within t d s k e = cond-false (ltb t s) 0 (choose d (t - s)) (le-ltb t s (omega arith)) ∙ ap (choose d) (omega arith)

-- a store that compensates: the group has the new pack
pub weight_in : (t d s : ℕ) → (t - s) * weight t (suc d) s ≡ suc d * weight t d (s + 1)
weight_in t d s =
    elim (cases_lt s t) [
      | inl l ↦
          let k : ℕ = t - s - 1 in
          let a : (t - s) * weight t (suc d) s ≡ suc k * choose (suc d) (suc k) =
          ap (λ x. x * weight t (suc d) s) (omega arith) ∙ ap (λ x. suc k * x) (weight_within t (suc d) s (suc k) (omega arith)) in
          a
          ∙ mul_comm (suc k) (choose (suc d) (suc k))
          ∙ chosen_in d k
          ∙ sym (ap (λ x. suc d * x) (weight_within t d (s + 1) k (omega arith)))
      | inr l ↦
          ap (λ x. x * weight t (suc d) s) (omega arith)
          ∙ zero-mul (weight t (suc d) s)
          ∙ sym (ap (λ x. suc d * x) (weight_past t d (s + 1) (omega arith)) ∙ mul-zero (suc d))
    ]

-- and it has not
pub weight_out : (t d s : ℕ) → (suc d - (t - s)) * weight t (suc d) s ≡ suc d * weight t d s
weight_out t d s =
    elim (cases_lt t s) [
      | inl l ↦
          ap (λ x. (suc d - (t - s)) * x) (weight_past t (suc d) s l)
          ∙ mul-zero (suc d - (t - s))
          ∙ sym (ap (λ x. suc d * x) (weight_past t d s l) ∙ mul-zero (suc d))
      | inr l ↦
          ap (λ x. (suc d - (t - s)) * x) (weight_within t (suc d) s (t - s) (omega arith))
          ∙ mul_comm (suc d - (t - s)) (choose (suc d) (t - s))
          ∙ chosen_out d (t - s)
          ∙ sym (ap (λ x. suc d * x) (weight_within t d s (t - s) (omega arith)))
    ]

-- a take: the groups with and without the taken pack
pub weight_take : (t d s : ℕ) → weight t d (s + 1) + weight t d s ≡ weight t (suc d) s
weight_take t d s =
    elim (cases_lt t s) [
      | inl l ↦ omega (arith, weight_past t d (s + 1) (omega arith), weight_past t d s l, weight_past t (suc d) s l)
      | inr l ↦
          elim (cases_eq t s) [
            | inl e ↦
                omega (
                  arith,
                  weight_past t d (s + 1) (omega arith),
                  weight_within t d s 0 (omega arith),
                  weight_within t (suc d) s 0 (omega arith),
                  choose_none d,
                  choose_none (suc d),
                )
            | inr ne ↦
                let k : ℕ = t - s - 1 in
                omega (
                  arith,
                  weight_within t d (s + 1) k (omega arith),
                  weight_within t d s (suc k) (omega arith),
                  weight_within t (suc d) s (suc k) (omega arith),
                  choose_more d k,
                )
          ]
    ]

-- with no deletions only the groups of the sample's size weigh
pub weight_full : (t s : ℕ) → t ≡ s → weight t 0 s ≡ 1
weight_full t s e = weight_within t 0 s 0 (omega arith) ∙ choose_none 0

pub weight_other : (t s : ℕ) → (t ≡ s → ⊥) → weight t 0 s ≡ 0
weight_other t s ne =
    elim (cases_lt t s) [
      | inl l ↦ weight_past t 0 s l
      | inr l ↦ weight_within t 0 s (suc (t - s - 1)) (omega arith) ∙ choose_of_none (t - s - 1)
    ]
