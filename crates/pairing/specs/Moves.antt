-- What each slot of the sample holds after a call.
-- Assumes nothing.
use Rattle.std.specs.Prelude.{◌≡◌, ℕ, ◌+◌, ◌-◌, ◌<◌, Bool, false, cond, List, length, Some, None, Option, ◌==◌, slice_index_or}
use Rattle.pairing.specs.declared.Effect.{Effect}
use Rattle.pairing.specs.Reservoir.{Slot, placed, freed, filled_by}

-- whether i is the number in the option
abbrev pub is_at : ℕ → Option ℕ → Bool
is_at i None = false
is_at i (Some j) = i == j

pub record SlotsFollow (X : Type 0) : Type 0 where
  -- a store puts the pack into the slot that it fills, and leaves every other slot
  pub store_slot : (e : Effect) (slots : List (Slot X)) (x : Slot X) (i : ℕ) (d : Slot X) → i < length (placed e slots x) →
      slice_index_or (placed e slots x) i d ≡ cond (is_at i (filled_by e slots)) x (slice_index_or slots i d)
  -- a take of the pack in slot h moves the last slot there, and leaves every other slot
  pub take_slot : (slots : List (Slot X)) (h i : ℕ) (d : Slot X) → h < length slots → i + 1 < length slots →
      slice_index_or (freed slots h) i d ≡ cond (i == h) (slice_index_or slots (length slots - 1) d) (slice_index_or slots i d)
