-- Runs of writes on a device: what they answer and change, and the writes of a commit and of a replay.
-- Assumes nothing.
use Rattle.std.specs.Prelude.{◌≡◌, ℕ, zero, suc, ◌+◌, ◌<◌, min, Bool, true, false, ◌≢◌, List, [], ◌∷◌, ◌++◌, Ok, Err, Result, Some}
use Rattle.std.specs.List.{AllByRecursion}
use Rattle.fault.specs.declared.Fault.{Fault}
use Rattle.fault.specs.Refusals.{offline}
use Rattle.device.specs.declared.DeviceError.{DeviceError}
use Rattle.device.specs.declared.Remains.TheVariants as remains
use Rattle.device.specs.Disk.{Disk, blocks, put, Event, Wrote, write_done, write_lost, online_done, online_refused}
use Rattle.journal.specs.declared.Write.{Write}
use Rattle.journal.specs.Header.{free_bytes}

-- ---- runs

-- The writes in order on the disk d, up to the first that is refused: the answer, the events, and the disk after them.
pub data Ran : List Write → Disk → Result (Unit {0}) Fault → List Event → Disk → Type 0 where
  -- all are done
  finished : {d : Disk} → Ran [] d (Ok tt) [] d
  -- the first is done
  goes_on :
      {w : Write} {ws : List Write} {d d₁ d' : Disk} {a : Result (Unit {0}) Fault} {es : List Event} →
      Wrote d w.block w.bytes (Ok tt) (write_done ∷ []) d₁ → Ran ws d₁ a es d' → Ran (w ∷ ws) d a (write_done ∷ es) d'
  -- the first is refused: the answer names its block
  stops :
      {w : Write} {ws : List Write} {d d' : Disk} {x : DeviceError} {es : List Event} →
      Wrote d w.block w.bytes (Err x) es d' → Ran (w ∷ ws) d (Err (offline w.block)) es d'

-- as the contracts cite it: with the events that there were, and with the count, which never changes
pub record Runs (ws : List Write) (d : Disk) (a : Result (Unit {0}) Fault) (d' : Disk) : Type 0 where
  pub events : List Event
  pub ran : Ran ws d a events d'
  pub fixed : blocks d' ≡ blocks d

-- ---- what a run leaves

-- the event of a write that leaves the new bytes in the block
abbrev pub leaves_new : Event → Bool
leaves_new write_done = true
leaves_new (write_lost remains.Old) = false
leaves_new (write_lost remains.New) = true
leaves_new (write_lost remains.Unreadable) = false
leaves_new online_done = false
leaves_new online_refused = false

abbrev landed_at : ℕ → List Event → Bool
landed_at n [] = false
landed_at zero (e ∷ es) = leaves_new e
landed_at (suc n) (e ∷ es) = landed_at n es

-- the n-th of the events, counted from 1, left the new bytes in its block
abbrev pub landed : ℕ → List Event → Bool
landed zero es = false
landed (suc n) es = landed_at n es

-- the disk with the bytes of each write in its block
abbrev pub puts : List Write → Disk → Disk
puts [] d = d
puts (w ∷ ws) d = puts ws (put d w.block (Some w.bytes))

-- the disk has the block of each write
abbrev pub Inside : List Write → Disk → Type 0
Inside ws d = AllByRecursion (λ w. w.block < blocks d) ws

-- no write is to block k
abbrev pub Spares : ℕ → List Write → Type 0
Spares k ws = AllByRecursion (λ w. k ≢ w.block) ws

-- ---- the writes of a commit and of a replay

abbrev pub write_at : ℕ → List ℕ → Write
write_at b xs = record { block = b; bytes = xs }

-- the block after b, 65,535 at the end
abbrev pub next_block : ℕ → ℕ
next_block b = min (b + 1) 65535

-- the write of a journal header
abbrev pub header_write : List ℕ → Write
header_write header = write_at 1 header

-- the after-images of changes: their bytes, from a block on
abbrev pub images_from : ℕ → List Write → List Write
images_from b [] = []
images_from b (w ∷ ws) = write_at b w.bytes ∷ images_from (next_block b) ws

-- the changes, then the free header
abbrev pub replay_writes : List Write → List Write
replay_writes changes = changes ++ (header_write free_bytes ∷ [])

-- the after-images, the pending header, then as in a replay
abbrev pub commit_writes : ℕ → List ℕ → List Write → List Write
commit_writes first header changes = images_from first changes ++ (header_write header ∷ replay_writes changes)
