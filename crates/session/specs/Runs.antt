-- What a run is: a Make, or an Open of an old register, and then the calls.
-- Assumes nothing.
use Rattle.std.specs.Prelude.{◌≡◌, ℕ, ◌<◌, ◌≤◌, true, ◌⊎◌, List, ◌++◌, length, drop, Some, Ok, Err, Result, nat_lt}
use Rattle.fault.specs.Refusals.{too_short}
use Rattle.fault.specs.declared.Fault.{Fault}
use Rattle.device.specs.Disk.{Disk, Event, blocks}
use Rattle.octets.specs.Zeros.{every}
use Rattle.pairing.specs.Reservoir.{Reservoir, empty}
use Rattle.layout.specs.Laws.{Storable}
use Rattle.plans.specs.Calls.{PerformedOnline}
use Rattle.plans.specs.Plans.{make_refusal, make_plan, too_small, answering, open_answer, open_plan, found}
use Rattle.plans.specs.Recovery.{Rests, Stands}
use Rattle.plans.specs.declared.Opened.{Opened}
use Rattle.session.specs.Calls.{Kind, Call, Reply}
use Rattle.session.specs.Law.{Made}
use Rattle.session.specs.Steps.{Steps}

-- the laws of a kind
pub record KindLaws {X : Type 0} (kind : Kind X) : Type 0 where
  pub known : (kind.code ≡ 1) ⊎ (kind.code ≡ 2)
  pub sized : (x : X) → length (kind.form x) ≡ 60
  pub bounded : (x : X) → every (λ b. nat_lt b 256) (kind.form x) ≡ true
  pub round : (x : X) → kind.reading (kind.form x) ≡ Some x
  pub exact : (s : List ℕ) (x : X) → kind.reading s ≡ Some x → s ≡ kind.form x

-- what every call keeps: the register stands on the disk
pub record Keeps {X : Type 0} (kind : Kind X) (d : Disk) (r : Reservoir X) : Type 0 where
  pub stands : Stands kind.code kind.form kind.reading d r
  pub storable : Storable r
  pub large : 78 ≤ blocks d

module _ {X Y : Type 0} (own : Kind X) (other : Kind Y) (d : Disk) (page : List ℕ) (calls : List (Call X Y)) (table : List Reply) where
  -- Make with capacity m, then the calls: the answer, and the disk, the page and the table after it
  pub data RanFrom (m : ℕ) : Result (Unit {0}) Fault → Disk → List ℕ → List Reply → Type 0 where
    -- the table is too short: nothing is touched
    short : length table < length calls → RanFrom m (Err too_short) d page table
    -- Make is refused or interrupted, and no call is made
    unmade :
        {f : Fault} {es : List Event} {d' : Disk} → length calls ≤ length table →
        PerformedOnline (make_refusal m d) (make_plan own.code m) d (Err f) es d' → RanFrom m (Err f) d' page table
    -- Make is done, and the calls are made in their order
    ran :
        {es : List Event} {d₁ d' : Disk} {page' : List ℕ} {replies : List Reply} {ess : List (List Event)} {r' : Reservoir X} →
        length calls ≤ length table → PerformedOnline (make_refusal m d) (make_plan own.code m) d (Ok tt) es d₁ → Made own other d₁ m →
        Steps own other d₁ page (empty m) calls replies ess d' page' r' → RanFrom m (Ok tt) d' page' (replies ++ drop (length calls) table)

  -- Open, then the calls
  pub data ResumedFrom : Result Opened Fault → Disk → List ℕ → List Reply → Type 0 where
    short : length table < length calls → ResumedFrom (Err too_short) d page table
    unopened :
        {f : Fault} {es : List Event} {d' : Disk} → length calls ≤ length table →
        PerformedOnline (too_small d) (answering open_answer (open_plan own.code own.reading d)) d (Err f) es d' →
        ResumedFrom (Err f) d' page table
    -- the register that was found is at rest, and the calls go on from its reservoir
    resumed :
        {o : Opened} {es : List Event} {d₁ d' : Disk} {page' : List ℕ} {replies : List Reply} {ess : List (List Event)} {r r' : Reservoir X} →
        length calls ≤ length table →
        PerformedOnline (too_small d) (answering open_answer (open_plan own.code own.reading d)) d (Ok o) es d₁ →
        found own.code own.reading d ≡ Ok r → Rests own.code own.form own.reading d₁ r →
        Steps own other d₁ page r calls replies ess d' page' r' → ResumedFrom (Ok o) d' page' (replies ++ drop (length calls) table)
