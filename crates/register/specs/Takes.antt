-- What the parts of a Take work out: the bytes of a block of slots with a slot changed, and what it changes.
-- Assumes nothing.
use Rattle.std.specs.Prelude.{◌≡◌, ℕ, ◌+◌, ◌/◌, ◌<◌, true, cond, not, List, [], ◌∷◌, length, Some, None, Ok, Option, Result, ◌==◌}
use Rattle.fault.specs.Refusals.{not_in_stock, last_call}
use Rattle.fault.specs.declared.Fault.{Fault}
use Rattle.pairing.specs.Reservoir.{Reservoir, slot_of}
use Rattle.layout.specs.Layout.{slot_at, with_slot}
use Rattle.layout.specs.Reading.{in_set}
use Rattle.plans.specs.Plans.{refused_if, slot_block_of}
use Rattle.reader.specs.declared.Found.{Found}

-- the j-th block of slots with new bytes in slot i, if that is one of its eight
abbrev pub changed_in : List ℕ → ℕ → ℕ → List ℕ → List ℕ
changed_in xs j i new = cond (i / 8 == j) (with_slot xs i new) xs

-- the slot blocks that a take writes
abbrev pub slot_targets : Option ℕ → ℕ → List ℕ
slot_targets (Some h) last = slot_block_of h ∷ (slot_block_of last ∷ [])
slot_targets None last = 14 ∷ (14 ∷ [])

-- the refusals of a take that depend on what was found
abbrev pub take_checks : Found → ℕ → Result (Unit {0}) Fault
take_checks f number =
    refused_if (f.counters.counts.calls == 4294967295) last_call (refused_if (not (in_set f.stock.bytes number)) not_in_stock (Ok tt))

-- a take frees slot h: the last slot, which moves into it, has these bytes
pub record Frees {X : Type 0} (form : X → List ℕ) (r : Reservoir X) (number h last : ℕ) (bytes : List ℕ) : Type 0 where
  pub slot : slot_of r.slots number ≡ Some h
  pub count : length r.slots ≡ last + 1
  pub moved : bytes ≡ slot_at form r.slots last

-- a take of the number can be made
pub record Allowed {X : Type 0} (r : Reservoir X) (number : ℕ) : Type 0 where
  pub low : number < 32768
  pub inside : r.stock number ≡ true
  pub early : r.calls < 4294967295
