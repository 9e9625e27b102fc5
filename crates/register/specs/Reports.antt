-- What Report answers, and what it fills its page with.
-- Assumes nothing.
use Rattle.std.specs.Prelude.{◌≡◌, ℕ, List, Ok, Err, Option, Result}
use Rattle.fault.specs.declared.Fault.{Fault}
use Rattle.device.specs.Disk.{Disk}
use Rattle.pairing.specs.Reservoir.{Reservoir}
use Rattle.pairing.specs.Steps.{counts_of}
use Rattle.pairing.specs.declared.counts.Counts.{Counts}
use Rattle.plans.specs.Plans.{reporting, reported}

-- A Report of the disk d into a page: the answer, and the page after it.
pub data Shown {X : Type 0} (code : ℕ) (form : X → List ℕ) (reading : List ℕ → Option X) (d : Disk) (page : List ℕ) : Result Counts Fault → List ℕ → Type 0 where
  refused : {f : Fault} → reporting code reading d page ≡ Err f → Shown code form reading d page (Err f) page
  shown : {r : Reservoir X} → reporting code reading d page ≡ Ok r → Shown code form reading d page (Ok (counts_of r)) (reported code form r page)
