-- A register at rest, as a call finds it.
-- Assumes nothing.
use Rattle.std.specs.Prelude.{ℕ, List, [], Ok, Err, Option, Result}
use Rattle.items.specs.declared.kind.Kind as trait_of
use Rattle.fault.specs.declared.Fault.{Fault}
use Rattle.device.specs.Disk.{Disk, entry_at}
use Rattle.pairing.specs.Reservoir.{Reservoir, empty}
use Rattle.layout.specs.Laws.{Storable}
use Rattle.layout.specs.Layout.{Holds}
use Rattle.plans.specs.Plans.{at_rest}
use Rattle.reader.specs.Reads.{Steady}

-- the device can be read, and its blocks hold the reservoir
pub record Rested {X : Type 0} (code : ℕ) (form : X → List ℕ) (d : Disk) (r : Reservoir X) : Type 0 where
  pub steady : Steady d 0 []
  pub storable : Storable r
  pub holds : Holds code form (entry_at d) r

-- the reservoir that was read, an empty one where there is none
abbrev pub held : {X : Type 0} → Result (Reservoir X) Fault → Reservoir X
held (Ok r) = r
held (Err f) = empty 1

-- the reservoir of a register at rest
abbrev pub resting : {X : Type 0} → ℕ → (List ℕ → Option X) → Disk → Reservoir X
resting code reading d = held (at_rest code reading d)

-- the same, for the kind of the items of a type, as its trait says
abbrev pub kept_on : {X : Type 0} → trait_of.Ghosts X → Disk → Reservoir X
kept_on k d = resting k.code k.reading d
