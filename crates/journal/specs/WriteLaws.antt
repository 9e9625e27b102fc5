-- The laws of runs of writes.
-- Assumes nothing.
use Rattle.std.specs.Prelude.{◌≡◌, ℕ, ◌+◌, ◌<◌, ◌≤◌, true, false, List, [], ◌∷◌, ◌++◌, length, replicate, Ok, Err, Result, Some}
use Rattle.fault.specs.declared.Fault.{Fault}
use Rattle.fault.specs.Refusals.{offline}
use Rattle.device.specs.declared.Remains.{Remains}
use Rattle.device.specs.Disk.{Disk, blocks, entry_at, put, turned, left_by, Event, write_done, write_lost}
use Rattle.journal.specs.declared.Write.{Write}
use Rattle.journal.specs.Writes.{Ran, puts, Inside, Spares, images_from}

-- A run that is done: each write was.
pub record Done (ws : List Write) (d : Disk) (es : List Event) (d' : Disk) : Type 0 where
  pub disk : d' ≡ puts ws d
  pub events : es ≡ replicate (length ws) write_done
  pub inside : Inside ws d
  pub needed : 0 < length ws → d.online ≡ true
  pub kept : d'.online ≡ d.online

-- A run that loses a write: those before it are done, those behind it are not tried, and the device is offline.
pub record Lost (ws : List Write) (d : Disk) (x : Fault) (es : List Event) (d' : Disk) : Type 0 where
  pub before : List Write
  pub write : Write
  pub behind : List Write
  pub remains : Remains
  pub parts : ws ≡ before ++ (write ∷ behind)
  pub answer : x ≡ offline write.block
  pub events : es ≡ replicate (length before) write_done ++ (write_lost remains ∷ [])
  pub disk :
      d'
      ≡ turned (put (puts before d) write.block (left_by remains (entry_at (puts before d) write.block) write.bytes)) false

pub record RunsAsTold : Type 0 where
  -- the events decide the answer and the disk
  pub decided :
      (ws : List Write) (d d₁ d₂ : Disk) (a b : Result (Unit {0}) Fault) (es : List Event) → Ran ws d a es d₁ → Ran ws d b es d₂ →
      (a ≡ b) × (d₁ ≡ d₂)
  -- no run changes a block that no write is to
  pub others :
      (ws : List Write) (d d' : Disk) (a : Result (Unit {0}) Fault) (es : List Event) → Ran ws d a es d' → (k : ℕ) → Spares k ws →
      entry_at d' k ≡ entry_at d k
  -- done, as the record above says; each block then holds the bytes of the last write to it
  pub done : (ws : List Write) (d d' : Disk) (es : List Event) → Ran ws d (Ok tt) es d' → Done ws d es d'
  pub last :
      (ws : List Write) (w : Write) (vs : List Write) (d : Disk) → w.block < blocks d → Spares w.block vs →
      entry_at (puts (ws ++ (w ∷ vs)) d) w.block ≡ Some w.bytes
  -- on an online device that has the blocks
  pub lost :
      (ws : List Write) (d d' : Disk) (x : Fault) (es : List Event) → Ran ws d (Err x) es d' → Inside ws d → d.online ≡ true →
      Lost ws d x es d'
  -- on an offline device that has the blocks nothing is done
  pub nothing :
      (ws : List Write) (d d' : Disk) (x : Fault) (es : List Event) → Ran ws d (Err x) es d' → Inside ws d → d.online ≡ false →
      (es ≡ []) × (d' ≡ d)

-- The after-images of changes lie in as many blocks from the first on.
pub record ImagesInPlace : Type 0 where
  pub before : (first k : ℕ) (ws : List Write) → k < first → first ≤ 65535 → Spares k (images_from first ws)
  pub behind :
      (first k : ℕ) (ws : List Write) → first + length ws ≤ k → first + length ws ≤ 65535 → Spares k (images_from first ws)
  pub inside :
      (first : ℕ) (ws : List Write) (d : Disk) → first + length ws ≤ blocks d → blocks d ≤ 65535 → Inside (images_from first ws) d
