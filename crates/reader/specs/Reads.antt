-- What the code that reads a register tells of the blocks that it reads.
-- Assumes nothing.
use Rattle.std.specs.Prelude.{◌≡◌, ℕ, ◌<◌, ◌≤◌, min, true, ◌&&◌, List, map, length, take, Some, None, Ok, Err, Option, Result, MatchResult, ◌==◌, slice_index}
use Rattle.std.specs.Result.{result_map_both}
use Rattle.fault.specs.Refusals.{offline}
use Rattle.fault.specs.declared.Fault.{Fault}
use Rattle.device.specs.Disk.{Entry, Disk, blocks, reading}
use Rattle.pairing.specs.Reservoir.{Reservoir}
use Rattle.pairing.specs.Rules.{occurs}
use Rattle.pairing.specs.Steps.{counts_of}
use Rattle.journal.specs.Header.{header_of}
use Rattle.journal.specs.declared.headers.Header.{Header}
use Rattle.layout.specs.Reading.{unless_fault, block_fault, bytes_of, first_of, slots_fault, left_at, number_in, in_set, stock_in}
use Rattle.layout.specs.declared.packs.PackSet.{PackSet}
use Rattle.plans.specs.Views.{place_from, viewed}
use Rattle.reader.specs.declared.Found.{Found}
use Rattle.reader.specs.declared.slots.Sampled.{Sampled}

-- the device is online, and has every block that the view reads
pub record Steady (d : Disk) (first : ℕ) (targets : List ℕ) : Type 0 where
  pub online : d.online ≡ true
  pub inside : (b : ℕ) → b < 78 → place_from b b first targets < blocks d

-- the journal header was read
abbrev pub HeaderRead : Disk → Result Header Fault → Type 0
HeaderRead d r = r ≡ result_map_both header_of (λ _. offline 1) (reading d 1)

-- a block of the view: its bytes, or that it is unreadable
abbrev pub BlockRead : Disk → ℕ → List ℕ → ℕ → Result (List ℕ) Fault → Type 0
BlockRead d first targets b r =
    Steady d first targets → b < 78 →
    r ≡ unless_fault (block_fault (viewed d first targets) b) (bytes_of (viewed d first targets b))

-- ---- the stock

-- the stock of the view was read: the first unreadable block, or the set of its numbers
abbrev pub StockRead : Disk → ℕ → List ℕ → Result PackSet Fault → Type 0
StockRead d first targets r =
    Steady d first targets →
    result_map_both (λ s. s.bytes) (λ f. f) r ≡ unless_fault (first_of (block_fault (viewed d first targets)) 6 8) (stock_in (viewed d first targets))

-- ---- the slots

-- what was gathered of the slots below i, of which those below k are in use
pub record Gathered (view : ℕ → Entry) (k i : ℕ) (s : Sampled) : Type 0 where
  -- the numbers in stock that none of them has
  pub unsampled : (p : ℕ) → in_set s.unsampled.bytes p ≡ left_at view (min i k) p
  -- the number of each
  pub numbers : (j : ℕ) → j < min i k → slice_index s.numbers j ≡ number_in view j

-- slots of the view were read: the first fault, or all is gathered up to the slot `next`
pub record SlotsRead (view : ℕ → Entry) (k next : ℕ) (fault : Option Fault) (r : Result (Unit {0}) Fault) (s : Sampled) : Type 0 where
  pub answer : r ≡ unless_fault fault tt
  pub gathered : r ≡ Ok tt → Gathered view k next s

-- all slots of the view were read, with its stock
abbrev pub SampleRead : {X : Type 0} → (List ℕ → Option X) → Disk → ℕ → List ℕ → ℕ → PackSet → Result Sampled Fault → Type 0
SampleRead reading d first targets k stock r =
    Steady d first targets → k ≤ 512 → stock.bytes ≡ stock_in (viewed d first targets) →
    MatchResult r
    (λ s. (first_of (slots_fault reading (viewed d first targets) k) 0 64 ≡ None) × Gathered (viewed d first targets) k 512 s)
    (λ f. first_of (slots_fault reading (viewed d first targets) k) 0 64 ≡ Some f)

-- ---- the whole register

-- what the reader found is the reservoir
pub record Finds {X : Type 0} (f : Found) (r : Reservoir X) : Type 0 where
  pub counts : f.counters.counts ≡ counts_of r
  pub stock : (p : ℕ) → in_set f.stock.bytes p ≡ r.stock p
  -- the numbers in stock that no slot has
  pub unsampled : (p : ℕ) → in_set f.sampled.unsampled.bytes p ≡ r.stock p && occurs p r.slots == 0
  -- the number of each slot
  pub numbers : take (length r.slots) f.sampled.numbers ≡ map (λ x. x.number) r.slots

-- the register was read as the blocks say
abbrev pub ReadAs : {X : Type 0} → Result (Reservoir X) Fault → Result Found Fault → Type 0
ReadAs {X} decoded (Ok f) = (r : Reservoir X) × (decoded ≡ Ok r) × Finds f r
ReadAs decoded (Err x) = decoded ≡ Err x
