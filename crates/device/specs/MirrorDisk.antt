-- The mirror: two devices that stand for one.
-- Assumes nothing.
use Rattle.std.specs.Prelude.{◌≡◌, ℕ, ◌<◌, true, ◌&&◌, List, [], ◌∷◌, Ok, Err, Result, Some, None}
use Rattle.std.specs.Option.{option_or}
use Rattle.std.specs.Result.{result_and}
use Rattle.device.specs.declared.DeviceError.{DeviceError}
use Rattle.device.specs.Disk.{Entry, Disk, blocks, entry_at, reading, Writes, Brings}

-- ---- what it means

-- the left side's entry, or the right side's where the left is unreadable
abbrev pub preferred : Entry → Entry → Entry
preferred left right = option_or left right

-- block by block, as far as both sides go
abbrev pub merged : List Entry → List Entry → List Entry
merged [] rights = []
merged (l ∷ lefts) [] = []
merged (l ∷ lefts) (r ∷ rights) = preferred l r ∷ merged lefts rights

-- the mirror of two devices: online when both are
unfoldable pub mirror_of : Disk → Disk → Disk
mirror_of l r = record { entries = merged l.entries r.entries; online = l.online && r.online }

-- ---- what its calls do on its sides

-- The copy of an entry to block b of the disk d: its answer, and the disk after it.
pub data Copied (d : Disk) (b : ℕ) : Entry → Result (Unit {0}) DeviceError → Disk → Type 0 where
  -- readable: its bytes are written
  copied : {xs : List ℕ} {a : Result (Unit {0}) DeviceError} {d' : Disk} → Writes d b xs a d' → Copied d b (Some xs) a d'
  -- unreadable: nothing is done
  nothing : Copied d b None (Ok tt) d

-- Both sides have block b, and both are online.
pub record Ready (l r : Disk) (b : ℕ) : Type 0 where
  pub left_inside : b < blocks l
  pub right_inside : b < blocks r
  pub left_online : l.online ≡ true
  pub right_online : r.online ≡ true

-- The write of new bytes to block b of the mirror of l and r: its answer, and both sides after it.
pub data WroteBoth (l r : Disk) (b : ℕ) (new : List ℕ) : Result (Unit {0}) DeviceError → Disk → Disk → Type 0 where
  -- the mirror has no such block, or a side is offline: nothing changes
  refused : {e : DeviceError} → reading (mirror_of l r) b ≡ Err e → WroteBoth l r b new (Err e) l r
  -- the copy of the old left entry to the right side was lost
  copy_lost :
      {e : DeviceError} {r' : Disk} → Ready l r b → Copied r b (entry_at l b) (Err e) r' → WroteBoth l r b new (Err e) l r'
  -- after the copy, the write to the left side was lost
  left_lost :
      {e : DeviceError} {r₁ l' : Disk} → Ready l r b → Copied r b (entry_at l b) (Ok tt) r₁ → Writes l b new (Err e) l' →
      WroteBoth l r b new (Err e) l' r₁
  -- after both, the write to the right side answers for the mirror
  right_last :
      {a : Result (Unit {0}) DeviceError} {r₁ l' r' : Disk} → Ready l r b → Copied r b (entry_at l b) (Ok tt) r₁ →
      Writes l b new (Ok tt) l' → Writes r₁ b new a r' → WroteBoth l r b new a l' r'

-- Bringing the mirror of l and r online: both sides are tried, and it is done when both are.
pub record BroughtBoth (l r : Disk) (a : Result (Unit {0}) DeviceError) (l' r' : Disk) : Type 0 where
  pub left_answer : Result (Unit {0}) DeviceError
  pub left : Brings l left_answer l'
  pub right_answer : Result (Unit {0}) DeviceError
  pub right : Brings r right_answer r'
  pub answer : a ≡ result_and left_answer right_answer
