-- Where a number first stands among the numbers of the slots.
-- Assumes nothing.
use Rattle.std.proofs.Common.{◌≡◌, ℕ, ◌+◌, Bool, true, false, cond, eqb, List, [], ◌∷◌, map, Some, refl, ap, ◌∙◌, arith, position}
use Rattle.std.specs.Option.{option_map}
use Rattle.pairing.specs.Reservoir.{Slot, slot_of}

module _ (p : ℕ) where
  step : (x : ℕ) (xs : List ℕ) (b : Bool) → eqb x p ≡ b →
      position (λ n. eqb n p) (x ∷ xs) ≡ cond b (Some 0) (option_map (λ i. 1 + i) (position (λ n. eqb n p) xs))
  step x xs true h = grind (arith, h)
  step x xs false h = grind (arith, h)

  pub position_is :
      {X : Type 0} (slots : List (Slot X)) → position (λ n. eqb n p) (map (λ x. x.number) slots) ≡ slot_of slots p
  position_is [] = refl
  position_is (x ∷ xs) =
      step x.number (map (λ x. x.number) xs) (eqb x.number p) refl
      ∙ ap (λ o. cond (eqb x.number p) (Some 0) (option_map (λ i. 1 + i) o)) (position_is xs)
