-- The rules that every reachable reservoir keeps, and the numbers after each call.
-- Assumes nothing.
use Rattle.std.specs.Prelude.{◌≡◌, ℕ, zero, suc, ◌+◌, ◌<◌, ◌≤◌, Bool, true, false, cond, List, [], ◌∷◌, length, is_some, Some, ◌==◌, slice_index_or}
use Rattle.words.specs.declared.draws.Drawn.{Drawn}
use Rattle.pairing.specs.declared.counts.Counts.{Counts}
use Rattle.pairing.specs.Ranges.{Ranges}
use Rattle.pairing.specs.Reservoir.{Slot, Reservoir, empty, store, taken, width, effect, filled_by, slot_of}
use Rattle.pairing.specs.Steps.{counts_of, width_at, effect_at, filled_at, after_store, after_take_in, after_take_out, CanCall, CanStore, CanTakeIn, CanTakeOut}

-- 1 for true
abbrev pub bit : Bool → ℕ
bit b = cond b 1 0

-- in how many slots a number stands
abbrev pub occurs : {X : Type 0} → ℕ → List (Slot X) → ℕ
occurs p [] = 0
occurs p (x ∷ xs) = bit (x.number == p) + occurs p xs

-- how many numbers below n are in a set
unfoldable pub count_below : (ℕ → Bool) → ℕ → ℕ
count_below s zero = 0
count_below s (suc n) = bit (s n) + count_below s n

pub record Lawful {X : Type 0} (r : Reservoir X) : Type 0 where
  -- the ranges, with the number of slots as k
  pub ranges : Ranges (counts_of r)
  -- no number stands in two slots, and each that stands in one is in stock
  pub distinct : (p : ℕ) → occurs p r.slots ≤ 1
  pub stocked : (p : ℕ) → 1 ≤ occurs p r.slots → r.stock p ≡ true
  -- the numbers in stock are below 32,768, and N is how many they are
  pub below : (p : ℕ) → 32768 ≤ p → r.stock p ≡ false
  pub counted : r.size ≡ count_below r.stock 32768

-- what comes from an empty reservoir by calls that can be made
pub data Reachable {X : Type 0} : Reservoir X → Type 0 where
  starts : (m : ℕ) → 1 ≤ m → m ≤ 512 → Reachable (empty m)
  stores : (r : Reservoir X) → Reachable r → (number : ℕ) (item : X) (draw used : ℕ) →
      number < 32768 → r.stock number ≡ false → draw < width r → used ≤ 64 → Reachable (store r number item draw used)
  takes : (r : Reservoir X) → Reachable r → (number : ℕ) → r.stock number ≡ true → Reachable (taken r number)

abbrev pub ReachableIsLawful : Type 0 → Type 0
ReachableIsLawful X = (r : Reservoir X) → Reachable r → Lawful r

-- ---- the numbers after a call are those of the step on the numbers

abbrev pub after_take : Bool → Counts → Counts
after_take true n = after_take_in n
after_take false n = after_take_out n

pub record NumbersFollow (X : Type 0) : Type 0 where
  pub width_follows : (r : Reservoir X) → width r ≡ width_at (counts_of r)
  pub effect_follows : (r : Reservoir X) (draw : ℕ) → effect r draw ≡ effect_at (counts_of r) draw
  pub slot_follows : (r : Reservoir X) (draw : ℕ) → filled_by (effect r draw) r.slots ≡ filled_at (counts_of r) draw
  pub store_follows : (r : Reservoir X) (number : ℕ) (item : X) (drawn : Drawn) →
      counts_of (store r number item drawn.value drawn.used) ≡ after_store (counts_of r) drawn
  pub take_follows : (r : Reservoir X) (number : ℕ) →
      counts_of (taken r number) ≡ after_take (is_some (slot_of r.slots number)) (counts_of r)

abbrev pub CanTake : Bool → Counts → Type 0
CanTake true n = CanTakeIn n
CanTake false n = CanTakeOut n

-- ---- in a lawful reservoir the numbers allow each call that comes before the last

pub record CallsPossible (X : Type 0) : Type 0 where
  -- a store of a number that is not in stock
  pub store_possible : (r : Reservoir X) → Lawful r → (number : ℕ) (drawn : Drawn) → CanCall (counts_of r) →
      number < 32768 → r.stock number ≡ false → drawn.value < width r → drawn.used ≤ 64 → CanStore (counts_of r) drawn
  -- a take of a number in stock, in a slot or in none
  pub take_possible : (r : Reservoir X) → Lawful r → (number : ℕ) → CanCall (counts_of r) → r.stock number ≡ true →
      CanTake (is_some (slot_of r.slots number)) (counts_of r)

-- ---- in a lawful reservoir a number is found in the slot where it stands, and in no other

pub record SlotsDistinct (X : Type 0) : Type 0 where
  pub slot_found : (r : Reservoir X) → Lawful r → (h : ℕ) (d : Slot X) → h < length r.slots →
      slot_of r.slots (slice_index_or r.slots h d).number ≡ Some h
  pub slots_apart : (r : Reservoir X) → Lawful r → (h i : ℕ) (d : Slot X) → h < length r.slots → i < length r.slots →
      (slice_index_or r.slots h d).number ≡ (slice_index_or r.slots i d).number → h ≡ i
