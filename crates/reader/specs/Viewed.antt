-- What is said of a device as a view shows it.
-- Assumes nothing.
use Rattle.std.specs.Prelude.{ℕ, List}
use Rattle.device.specs.Disk.{Disk, Entry}
use Rattle.device.specs.declared.Device as device_of
use Rattle.plans.specs.Views.{viewed}
use Rattle.reader.specs.declared.view.View.{View}

-- said of the disk of the view's device, the block of its first after-image and its targets
abbrev pub of_view : {D : Type 0} {A : Type 1} → (Disk → ℕ → List ℕ → A) → device_of.Ghosts D → View D → A
of_view f g v = f (g.meaning v.device.now) v.first v.targets.now

-- the entries that the view shows
abbrev pub shown_by : {D : Type 0} → device_of.Ghosts D → View D → ℕ → Entry
shown_by g v = viewed (g.meaning v.device.now) v.first v.targets.now
