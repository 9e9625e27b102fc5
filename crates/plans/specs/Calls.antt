-- A call on a device: its answer, the events of its writes, and the disk after it.
-- Assumes nothing.
use Rattle.std.specs.Prelude.{◌≡◌, true, false, List, [], ◌∷◌, Some, None, Ok, Err, Option, Result}
use Rattle.fault.specs.Refusals.{offline}
use Rattle.fault.specs.declared.Fault.{Fault}
use Rattle.device.specs.Disk.{Disk, Event, online_done, online_refused, blocks, turned}
use Rattle.journal.specs.Writes.{Ran}
use Rattle.plans.specs.Plans.{Plan}

-- A planned call on the disk d.
pub data Performed {A : Type 0} (plan : Result (Plan A) Fault) (d : Disk) : Result A Fault → List Event → Disk → Type 0 where
  -- refused: it writes nothing
  refused : {f : Fault} → plan ≡ Err f → Performed plan d (Err f) [] d
  -- done, with all its writes
  done : {p : Plan A} {es : List Event} {d' : Disk} → plan ≡ Ok p → Ran p.writes d (Ok tt) es d' → Performed plan d (Ok p.answer) es d'
  -- interrupted at a write
  interrupted :
      {p : Plan A} {f : Fault} {es : List Event} {d' : Disk} → plan ≡ Ok p → Ran p.writes d (Err f) es d' →
      Performed plan d (Err f) es d'

-- A planned call that first brings the disk d online, unless it is refused early.
pub data PerformedOnline {A : Type 0} (early : Option Fault) (plan : Result (Plan A) Fault) (d : Disk) : Result A Fault → List Event → Disk → Type 0 where
  -- refused: nothing was tried
  refused_early : {f : Fault} → early ≡ Some f → PerformedOnline early plan d (Err f) [] d
  -- it could not be brought online
  stayed_offline : early ≡ None → PerformedOnline early plan d (Err (offline 0)) (online_refused ∷ []) (turned d false)
  -- it was brought online
  went_on :
      {a : Result A Fault} {es : List Event} {d' : Disk} → early ≡ None → Performed plan (turned d true) a es d' →
      PerformedOnline early plan d a (online_done ∷ es) d'

-- as the contracts cite them: with the events that there were, and with the count, which never changes
pub record Performs {A : Type 0} (plan : Result (Plan A) Fault) (d : Disk) (a : Result A Fault) (d' : Disk) : Type 0 where
  pub events : List Event
  pub performed : Performed plan d a events d'
  pub fixed : blocks d' ≡ blocks d

pub record PerformsOnline {A : Type 0} (early : Option Fault) (plan : Result (Plan A) Fault) (d : Disk) (a : Result A Fault) (d' : Disk) : Type 0 where
  pub events : List Event
  pub performed : PerformedOnline early plan d a events d'
  pub fixed : blocks d' ≡ blocks d
