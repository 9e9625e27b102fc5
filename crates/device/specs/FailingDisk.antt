-- The failing device: it lies in entries, does some writes, and loses every later one.
-- Assumes nothing.
use Rattle.std.specs.Prelude.{◌≡◌, ℕ, zero, suc, ◌<◌, Bool, true, List, [], ◌∷◌, take, Result}
use Rattle.device.specs.declared.DeviceError.{DeviceError}
use Rattle.device.specs.declared.Remains.{Remains}
use Rattle.device.specs.Disk.{Entry, Disk, Event, write_done, write_lost, Wrote, blocks}

-- its disk: at most 65,535 of the entries
unfoldable pub failing_disk : List Entry → Bool → Disk
failing_disk entries o = record { entries = take 65535 entries; online = o }

-- the event of a write that is tried: done while some are left, then lost
abbrev pub event_of : ℕ → Remains → Event
event_of zero m = write_lost m
event_of (suc n) m = write_done

-- a write to a block that it has, while it is online, has that event
abbrev pub Tried : ℕ → Remains → Disk → ℕ → List ℕ → Result (Unit {0}) DeviceError → Disk → Type 0
Tried good m d b new a d' = b < blocks d → d.online ≡ true → Wrote d b new a (event_of good m ∷ []) d'
