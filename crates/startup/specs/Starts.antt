-- How a call begins: with a device that is large enough, and online.
-- Assumes nothing.
use Rattle.std.specs.Prelude.{◌≡◌, ◌≤◌, true, false, Some, None, Ok, Err, Result}
use Rattle.fault.specs.Refusals.{offline}
use Rattle.fault.specs.declared.Fault.{Fault}
use Rattle.device.specs.Disk.{Disk, blocks, turned}
use Rattle.plans.specs.Plans.{too_small}

-- The disk d was to be brought online: the answer, and the disk after it.
pub data Came (d : Disk) : Result (Unit {0}) Fault → Disk → Type 0 where
  came : Came d (Ok tt) (turned d true)
  stayed : Came d (Err (offline 0)) (turned d false)

-- the device is online, and has the blocks of a register
pub record Ready (d : Disk) : Type 0 where
  pub online : d.online ≡ true
  pub inside : 78 ≤ blocks d

-- A start on the disk d: the answer, and the disk after it.
pub data Started (d : Disk) : Result (Unit {0}) Fault → Disk → Type 0 where
  -- the device is too small: it is left as it is
  small : {f : Fault} → too_small d ≡ Some f → Started d (Err f) d
  -- it was brought online, or could not be
  tried : {a : Result (Unit {0}) Fault} {d' : Disk} → too_small d ≡ None → Came d a d' → Started d a d'
