-- A device's blocks, some of which are taken from their after-images.
-- Assumes nothing.
use Rattle.std.specs.Prelude.{ℕ, ◌+◌, min, cond, List, [], ◌∷◌, ◌==◌}
use Rattle.device.specs.Disk.{Entry, Disk, entry_at}

-- where block b is read, when the after-images of the targets stand from a block on: at the last that is its own, else at `place`
abbrev pub place_from : ℕ → ℕ → ℕ → List ℕ → ℕ
place_from b place image [] = place
place_from b place image (t ∷ targets) = place_from b (cond (t == b) image place) (min (image + 1) 65535) targets

-- the blocks of a disk, the targets from after-images that stand from the block `first` on
abbrev pub viewed : Disk → ℕ → List ℕ → ℕ → Entry
viewed d first targets b = entry_at d (place_from b b first targets)
