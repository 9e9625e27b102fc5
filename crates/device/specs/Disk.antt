-- What a device means to its caller, and what each of its calls answers and changes.
-- Assumes nothing.
use Rattle.std.specs.Prelude.{◌≡◌, ℕ, ◌<◌, ◌≤◌, Bool, true, false, cond, List, [], ◌∷◌, length, Ok, Err, Option, Result, nat_lt, slice_index_or, slice_set, Some, None}
use Rattle.device.specs.declared.DeviceError.{DeviceError}
use Rattle.device.specs.declared.DeviceError.TheVariants.{Outside, Offline}
use Rattle.device.specs.declared.Remains.{Remains}
use Rattle.device.specs.declared.Remains.TheVariants as remains

-- what a block holds: its bytes, or nothing that can be read
abbrev pub Entry : Type 0
Entry = Option (List ℕ)

-- the entry of each block, and whether the device is online
pub record Disk : Type 0 where
  pub entries : List Entry
  pub online : Bool

-- the count of blocks
abbrev pub blocks : Disk → ℕ
blocks d = length d.entries

-- the entry of block b
abbrev pub entry_at : Disk → ℕ → Entry
entry_at d b = slice_index_or d.entries b None

-- the disk with another entry in block b
abbrev pub put : Disk → ℕ → Entry → Disk
put d b e = record { entries = slice_set d.entries b e; online = d.online }

-- the disk, turned online or offline
abbrev pub turned : Disk → Bool → Disk
turned d o = record { entries = d.entries; online = o }

-- ---- Read

-- Outside at or above the count; else Offline where it is offline; else the entry
unfoldable pub reading : Disk → ℕ → Result Entry DeviceError
reading d b = cond (nat_lt b (blocks d)) (cond d.online (Ok (entry_at d b)) (Err Offline)) (Err Outside)

-- ---- Write and bring online

-- What the caller of a device sees of an operation that was tried.
pub data Event : Type 0 where
  -- a write was done
  write_done : Event
  -- a write was lost: the device went offline, and the block was left so
  write_lost : Remains → Event
  -- the device was brought online
  online_done : Event
  -- the device could not be brought online
  online_refused : Event

-- the entry that a lost write of new bytes leaves, where e was
abbrev pub left_by : Remains → Entry → List ℕ → Entry
left_by remains.Old e new = e
left_by remains.New e new = Some new
left_by remains.Unreadable e new = None

-- The write of new bytes to block b of the disk d: its answer, its events, and the disk after it.
pub data Wrote (d : Disk) (b : ℕ) (new : List ℕ) : Result (Unit {0}) DeviceError → List Event → Disk → Type 0 where
  -- a block at or above the count: nothing changes
  outside : blocks d ≤ b → Wrote d b new (Err Outside) [] d
  -- an offline device: nothing changes
  offline : b < blocks d → d.online ≡ false → Wrote d b new (Err Offline) [] d
  -- done: the block holds the new bytes
  done : b < blocks d → d.online ≡ true → Wrote d b new (Ok tt) (write_done ∷ []) (put d b (Some new))
  -- lost: the device is offline, and the block is left old, new or unreadable
  lost :
      (m : Remains) → b < blocks d → d.online ≡ true →
      Wrote d b new (Err Offline) (write_lost m ∷ []) (turned (put d b (left_by m (entry_at d b) new)) false)

-- Bringing the disk d online: the answer, the events, and the disk after it. No block changes.
pub data BroughtOnline (d : Disk) : Result (Unit {0}) DeviceError → List Event → Disk → Type 0 where
  -- done: it is online
  came : BroughtOnline d (Ok tt) (online_done ∷ []) (turned d true)
  -- refused: it is offline, whatever it was before
  stayed : BroughtOnline d (Err Offline) (online_refused ∷ []) (turned d false)

-- ---- as the contracts cite them: with the events that there were, and with the count, which never changes

pub record Writes (d : Disk) (b : ℕ) (new : List ℕ) (a : Result (Unit {0}) DeviceError) (d' : Disk) : Type 0 where
  pub events : List Event
  pub wrote : Wrote d b new a events d'
  pub fixed : blocks d' ≡ blocks d

pub record Brings (d : Disk) (a : Result (Unit {0}) DeviceError) (d' : Disk) : Type 0 where
  pub events : List Event
  pub brought : BroughtOnline d a events d'
  pub fixed : blocks d' ≡ blocks d
