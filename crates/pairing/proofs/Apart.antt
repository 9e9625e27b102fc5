-- A number is found in the slot where it stands. Assumes nothing.
use Rattle.std.proofs.Common.{◌≡◌, ℕ, zero, suc, ◌+◌, ◌<◌, ◌≤◌, Bool, true, false, eqb, List, [], ◌∷◌, length, get_or, Some, unwrap_or, sym, refl, ap, ◌∙◌, one-add, arith}
use Rattle.std.specs.Option.{option_map}
use Rattle.std.proofs.lemmas.Bool.{eq-eqb, cond-true, cond-false}
use Rattle.pairing.specs.Reservoir.{Slot, slot_of}
use Rattle.pairing.specs.Rules.{bit, occurs, SlotsDistinct}

pub occurs_at : {X : Type 0} (p : ℕ) (xs : List (Slot X)) (h : ℕ) (d : Slot X) → h < length xs → (get_or xs h d).number ≡ p → 1 ≤ occurs p xs
occurs_at p [] h d low is = absurd (omega arith)
occurs_at p (x ∷ xs) zero d low is = let a : bit (eqb x.number p) ≡ 1 = ap bit (eq-eqb x.number p is) in omega (arith, a)
occurs_at p (x ∷ xs) (suc h) d low is = let a = occurs_at p xs h d (omega arith) is in omega (arith, a)

-- the first slot does not have a number that stands in a later one
not_first : {X : Type 0} (p : ℕ) (x : Slot X) (xs : List (Slot X)) (b : Bool) → eqb x.number p ≡ b → 1 ≤ occurs p xs → occurs p (x ∷ xs) ≤ 1 → b ≡ false
not_first p x xs true e later most = absurd (let a : bit (eqb x.number p) ≡ 1 = ap bit e in omega (arith, a, later, most))
not_first p x xs false e later most = refl

found_at : {X : Type 0} (p : ℕ) (xs : List (Slot X)) (h : ℕ) (d : Slot X) → h < length xs → (get_or xs h d).number ≡ p → occurs p xs ≤ 1 →
    slot_of xs p ≡ Some h
found_at p [] h d low is most = absurd (omega arith)
found_at p (x ∷ xs) zero d low is most = cond-true (eqb x.number p) _ _ (eq-eqb x.number p is)
found_at p (x ∷ xs) (suc h) d low is most =
    cond-false (eqb x.number p) _ _ (not_first p x xs (eqb x.number p) refl (occurs_at p xs h d (omega arith) is) most)
    ∙ ap (option_map (λ i. 1 + i)) (found_at p xs h d (omega arith) is (omega (arith, most)))
    ∙ ap (λ i. Some i) (one-add h)

pub distinct_slots : (X : Type 0) → SlotsDistinct X
distinct_slots X = record {
  slot_found = λ r l h d low. found_at _ r.slots h d low refl (l.distinct _);
  slots_apart = λ r l h i d low-h low-i same.
      ap (λ o. unwrap_or o 0)
      (sym (found_at (get_or r.slots i d).number r.slots h d low-h same (l.distinct _))
      ∙ found_at (get_or r.slots i d).number r.slots i d low-i refl (l.distinct _));
}
