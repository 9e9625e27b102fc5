-- The counting law, over whole histories. Assumes nothing.
use Rattle.std.proofs.Common.{◌≡◌, ℕ, ◌+◌, ◌-◌, ◌*◌, ◌≤◌, Bool, cond, not, ◌||◌, ltb, List, [], ◌∷◌, sym, ap, ◌∙◌, inl, inr, mul-pos, one-mul, arith}
use mathlib.Core.Bool.{beq}
use native.Mathlib.Nat.{mul-lt-mul_of_pos_left}
use Rattle.std.proofs.lemmas.Bool.{cases_order, cond_both, ltb-true, ltb-false}
use Rattle.pairing.specs.Reservoir.{empty}
use Rattle.pairing.specs.Rules.{bit}
use Rattle.fairness.specs.Histories.{Call, Store, Take, stock_after}
use Rattle.fairness.specs.Laws.{holds, every, found, factor, product, weight_of, none, Counting, Fair}
use Rattle.fairness.proofs.Keeping.{keeps_empty}
use Rattle.fairness.proofs.Groups.{agree}
use Rattle.fairness.proofs.Counts.{law_start, law_after}
use Rattle.fairness.proofs.Enumerations.{counted}

pub counting : {X : Type 0} → Counting X
counting m h possible a =
    let l = law_after m 0 0 none 1 (λ f. f (empty m)) h possible (law_start 32768 m) in
    counted h m 0 0 none (empty m) (keeps_empty 32768 m) possible (found a)
    ∙ l.like (λ r. bit (found a r)) (λ r. bit (agree 32768 (stock_after none h) r.slots a))
    (λ r k. ap (λ (s : ℕ → Bool). bit (every (λ q. not (s q) || beq (holds r.slots q) (a q)) 32768)) k.stock)
    ∙ l.even a
    ∙ ap (λ k. k * weight_of m h a) (one-mul (product m 0 0 h))

factor_some : (m n d : ℕ) → 1 ≤ factor m n d
factor_some m n d =
    cond_both (ltb 0 d) d (cond (ltb n m) 1 (n + 1 - m)) (λ x. 1 ≤ x)
    (λ e. omega (arith, ltb-true 0 d e))
    (λ e. cond_both (ltb n m) 1 (n + 1 - m) (λ x. 1 ≤ x) (λ f. omega arith) (λ f. omega (arith, ltb-false n m f)))

product_some : {X : Type 0} (m n d : ℕ) (h : List (Call X)) → 1 ≤ product m n d h
product_some m n d [] = omega arith
product_some m n d (Store p x ∷ h) = mul-pos (factor_some m n d) (product_some m (n + 1) (d - 1) h)
product_some m n d (Take p ∷ h) = product_some m (n - 1) (d + 1) h

cancel : (k a b : ℕ) → 1 ≤ k → k * a ≡ k * b → a ≡ b
cancel k a b some e =
    elim (cases_order a b) [
      | inl same ↦ same
      | inr (inl less) ↦ absurd (omega (arith, mul-lt-mul_of_pos_left {k = k} less some))
      | inr (inr more) ↦ absurd (omega (arith, mul-lt-mul_of_pos_left {k = k} more some))
    ]

pub fair : {X : Type 0} → Fair X
fair m h possible = (
  product_some m 0 0 h,
  (λ a b e. cancel (product m 0 0 h) (weight_of m h a) (weight_of m h b) (product_some m 0 0 h) (sym (counting m h possible a) ∙ e ∙ counting m h possible b)),
  (λ a b e. counting m h possible a ∙ ap (λ w. product m 0 0 h * w) e ∙ sym (counting m h possible b)),
)
