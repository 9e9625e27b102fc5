-- What a power failure at any write leaves on the disk of a register, and what Open then finds.
-- Assumes nothing.
use Rattle.std.specs.Prelude.{◌≡◌, ℕ, ◌<◌, ◌≤◌, true, false, cond, ◌⊎◌, List, None, Ok, Err, Option, Result}
use Rattle.fault.specs.Refusals.{number_of}
use Rattle.fault.specs.declared.Fault.{Fault}
use Rattle.device.specs.Disk.{Disk, Event, blocks, entry_at}
use Rattle.words.specs.declared.draws.Drawn.{Drawn}
use Rattle.pairing.specs.Reservoir.{Reservoir, empty, store, taken, width}
use Rattle.journal.specs.Header.{header_of}
use Rattle.journal.specs.Writes.{Ran, landed}
use Rattle.journal.specs.declared.headers.Header.TheVariants as header
use Rattle.journal.specs.declared.headers.Pending.{Pending}
use Rattle.layout.specs.Laws.{Storable}
use Rattle.layout.specs.Layout.{Holds}
use Rattle.layout.specs.Reading.{block_fault, first_of}
use Rattle.plans.specs.Calls.{Performed}
use Rattle.plans.specs.Plans.{Finding, agrees, storing, taking, make_writes, open_plan, found}
use Rattle.plans.specs.Views.{viewed}

module _ {X : Type 0} (code : ℕ) (form : X → List ℕ) (reading : List ℕ → Option X) where
  -- a register at rest: its header is free, and its blocks hold the reservoir
  pub record Rests (d : Disk) (r : Reservoir X) : Type 0 where
    pub free : header_of (entry_at d 1) ≡ header.Free
    pub holds : Holds code form (entry_at d) r

  -- a register that Open can bring to rest
  pub data Stands (d : Disk) (r : Reservoir X) : Type 0 where
    resting : Rests d r → Stands d r
    -- the header is unreadable, and the blocks hold the reservoir
    torn : header_of (entry_at d 1) ≡ header.Unreadable → Holds code form (entry_at d) r → Stands d r
    -- a call is pending: the blocks hold the reservoir after it, when its targets, whatever they hold, are taken from their after-images
    pending :
        (p : Pending) → header_of (entry_at d 1) ≡ header.Pending p → first_of (block_fault (entry_at d)) 2 4 ≡ None →
        Holds code form (viewed d 2 p.blocks) r → agrees p r ≡ true → Stands d r

  -- the next reservoir from the moment that the fifth write is on the disk
  abbrev pub committed : List Event → Reservoir X → Reservoir X → Reservoir X
  committed es next r = cond (landed 5 es) next r

  -- what a Store or Take leaves, done or interrupted at any of its writes
  pub record Leaves (es : List Event) (a : Result (Unit {0}) Fault) (d' : Disk) (next r : Reservoir X) : Type 0 where
    pub stands : Stands d' (committed es next r)
    pub rests : a ≡ Ok tt → Rests d' next × (landed 5 es ≡ true)

  pub record Recovers : Type 0 where
    -- Open finds the reservoir that stands
    pub finds : (d : Disk) (r : Reservoir X) → Storable r → Stands d r → found code reading d ≡ Ok r
    -- Open, done or interrupted at any of its writes, changes nothing of that; done, it leaves the register at rest
    pub opens :
        (d d' : Disk) (r : Reservoir X) (a : Result (Finding X) Fault) (es : List Event) → Storable r → Stands d r → 78 ≤ blocks d →
        Performed (open_plan code reading d) d a es d' → Stands d' r × ((f : Finding X) → a ≡ Ok f → (f.reservoir ≡ r) × Rests d' r)
    -- a Store
    pub stores :
        (d d' : Disk) (r : Reservoir X) (number : ℕ) (item : X) (drawn : Drawn) (a : Result (Unit {0}) Fault) (es : List Event) →
        Storable r → Rests d r → 78 ≤ blocks d → number < 32768 → r.stock number ≡ false → r.calls < 4294967295 →
        drawn.value < width r → drawn.used ≤ 64 → Ran (storing code form r number item drawn).writes d a es d' →
        Leaves es a d' (store r number item drawn.value drawn.used) r × Storable (store r number item drawn.value drawn.used)
    -- a Take
    pub takes :
        (d d' : Disk) (r : Reservoir X) (number : ℕ) (a : Result (Unit {0}) Fault) (es : List Event) →
        Storable r → Rests d r → 78 ≤ blocks d → number < 32768 → r.stock number ≡ true → r.calls < 4294967295 →
        Ran (taking code form r number).writes d a es d' → Leaves es a d' (taken r number) r × Storable (taken r number)

  -- a Make: once its last write is on the disk the register is empty and at rest; before, Open finds what it would have found
  -- before, or answers 3
  pub record Makes : Type 0 where
    pub done :
        (d d' : Disk) (m : ℕ) (a : Result (Unit {0}) Fault) (es : List Event) → 1 ≤ m → m ≤ 512 → 78 ≤ blocks d →
        Ran (make_writes code m) d a es d' → landed 75 es ≡ true → Rests d' (empty m) × Storable {X = X} (empty m)
    pub interrupted :
        (d d' : Disk) (m : ℕ) (a : Result (Unit {0}) Fault) (es : List Event) → 1 ≤ m → m ≤ 512 → 78 ≤ blocks d →
        Ran (make_writes code m) d a es d' → landed 75 es ≡ false →
        (found code reading d' ≡ found code reading d) ⊎ ((f : Fault) × (found code reading d' ≡ Err f) × (number_of f ≡ 3))
