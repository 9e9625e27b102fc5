-- The numbers after a call are those of the step on the numbers. Assumes nothing.
use Rattle.std.proofs.Common.{◌≡◌, ℕ, List, length, is_some, Some, None, Option, refl, ap}
use Rattle.words.specs.declared.draws.Drawn.{Drawn}
use Rattle.pairing.specs.declared.Effect.{Effect}
use Rattle.pairing.specs.declared.Effect.TheVariants.{Enters, Replaces, StaysOut}
use Rattle.pairing.specs.declared.counts.Counts.{Counts}
use Rattle.pairing.specs.Reservoir.{Slot, Reservoir, store, taken, effect, filled_by, slot_of}
use Rattle.pairing.specs.Steps.{counts_of, filled_of, after_store, after_take_in}
use Rattle.pairing.specs.Rules.{after_take, NumbersFollow}
use Rattle.pairing.proofs.Slots.{length_placed, length_freed}

-- the numbers with another k
abbrev sampling : Counts → ℕ → Counts
sampling n k = record {
  capacity = n.capacity;
  size = n.size;
  sampled = k;
  c1 = n.c1;
  c2 = n.c2;
  calls = n.calls;
  words = n.words;
}

pub store_follows : {X : Type 0} (r : Reservoir X) (number : ℕ) (item : X) (drawn : Drawn) →
    counts_of (store r number item drawn.value drawn.used) ≡ after_store (counts_of r) drawn
unfolding store
store_follows r number item drawn =
    ap (sampling (after_store (counts_of r) drawn)) (length_placed (effect r drawn.value) r.slots (record { number = number; item = item }))

take_by : {X : Type 0} (r : Reservoir X) (number : ℕ) (o : Option ℕ) → slot_of r.slots number ≡ o →
    counts_of (taken r number) ≡ after_take (is_some o) (counts_of r)
unfolding taken
take_by r number (Some i) e = simp e (ap (sampling (after_take_in (counts_of r))) (length_freed r.slots i))
take_by r number None e = simp e

pub take_follows : {X : Type 0} (r : Reservoir X) (number : ℕ) →
    counts_of (taken r number) ≡ after_take (is_some (slot_of r.slots number)) (counts_of r)
take_follows r number = take_by r number (slot_of r.slots number) refl

slot_by : {X : Type 0} (e : Effect) (xs : List (Slot X)) → filled_by e xs ≡ filled_of e (length xs)
slot_by Enters xs = refl
slot_by (Replaces i) xs = refl
slot_by StaysOut xs = refl

pub follow : (X : Type 0) → NumbersFollow X
follow X = record {
  width_follows = λ r. refl;
  effect_follows = λ r draw. refl;
  slot_follows = λ r draw. slot_by (effect r draw) r.slots;
  store_follows = store_follows;
  take_follows = take_follows;
}
