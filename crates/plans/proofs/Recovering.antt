-- A Store and a Take, done or interrupted at any of their writes, and the law of recovery.
-- Assumes nothing.
use Rattle.std.proofs.Common.{◌≡◌, ℕ, ◌+◌, ◌-◌, ◌<◌, ◌≤◌, min, true, false, ltb, List, length, Option, Result, refl, arith}
use Rattle.std.proofs.lemmas.Bool.{and_from, eq-eqb}
use Rattle.fault.specs.declared.Fault.{Fault}
use Rattle.device.specs.Disk.{Disk, Event}
use Rattle.octets.specs.Zeros.{every}
use Rattle.words.specs.declared.draws.Drawn.{Drawn}
use Rattle.pairing.specs.Reservoir.{Slot, Reservoir, store, taken, width, filled_by, slot_of}
use Rattle.pairing.specs.Rules.{Lawful}
use Rattle.pairing.specs.declared.Effect.{Effect}
use Rattle.pairing.proofs.Keeping.{Way, pairs_in, pairs_out, fills, replaces, passes, way}
use Rattle.pairing.proofs.Lawfulness.{store_lawful, take_lawful, possible}
use Rattle.pairing.proofs.Slots.{Found, there, nowhere, search_found}
use Rattle.journal.specs.HeaderLaws.{Within, LawfulBlocks}
use Rattle.journal.specs.HeaderLaws as journal
use Rattle.journal.specs.Writes.{Ran}
use Rattle.journal.specs.declared.headers.Pending.{Pending}
use Rattle.journal.specs.declared.headers.PendingCall.TheVariants as pending
use Rattle.journal.proofs.HeaderLaws.{headers_read_back}
use Rattle.layout.specs.Laws.{Storable, ReadsBack}
use Rattle.plans.specs.Plans.{agrees, slot_block_of, stock_block_of, store_block, store_targets, filled_slot, storing, take_targets, taking}
use Rattle.plans.specs.Recovery.{Rests, Leaves, Recovers}
use Rattle.plans.proofs.Committing.{leaves}
use Rattle.plans.proofs.Contents.{content_is_block, store_kept, take_kept}
use Rattle.plans.proofs.Opening.{finds, opens}
use Rattle.plans.proofs.Standing.{four_lawful}

-- ---- the targets

slot_within : (i : ℕ) → i < 512 → Within 14 77 (slot_block_of i)
slot_within i h = (omega arith, omega arith)

stock_within : (number : ℕ) → number < 32768 → Within 6 13 (stock_block_of number)
stock_within number h = (omega arith, omega arith)

filled_within :
    {X : Type 0} (slots : List (Slot X)) (m n c1 c2 d : ℕ) {w : ℕ} {e : Effect} → Way m n c1 c2 d w e → m ≤ 512 →
    length slots + c1 ≡ min m (n + (c1 + c2)) → Within 14 77 (store_block (filled_by e slots))
filled_within slots m n c1 c2 d (pairs_in some low) most kept = slot_within (length slots) (omega arith)
filled_within slots m n c1 c2 d (pairs_out some high) most kept = (omega arith, omega arith)
filled_within slots m n c1 c2 d (fills none free) most kept = slot_within (length slots) (omega arith)
filled_within slots m n c1 c2 d (replaces none full low) most kept = slot_within d (omega arith)
filled_within slots m n c1 c2 d (passes none full high) most kept = (omega arith, omega arith)

pub store_blocks :
    {X : Type 0} (r : Reservoir X) → Lawful r → (number : ℕ) (drawn : Drawn) → number < 32768 →
    LawfulBlocks (store_targets (filled_slot r drawn) number)
store_blocks r l number drawn low =
    let ranges = l.ranges in
    let w = way r.capacity r.size r.c1 r.c2 drawn.value in
    let slot = filled_within r.slots r.capacity r.size r.c1 r.c2 drawn.value w ranges.limits.1 ranges.balance in
    record { four = refl; first = slot; second = slot; third = stock_within number low; fourth = refl }

found_blocks :
    {X : Type 0} (slots : List (Slot X)) (number : ℕ) {o : Option ℕ} → Found slots number o → length slots ≤ 512 → number < 32768 →
    LawfulBlocks (take_targets o (length slots) number)
found_blocks slots number (there h inside is) most low = record {
  four = refl;
  first = slot_within h (omega arith);
  second = slot_within (length slots - 1) (omega arith);
  third = stock_within number low;
  fourth = refl;
}
found_blocks slots number (nowhere none) most low = record {
  four = refl;
  first = (omega arith, omega arith);
  second = (omega arith, omega arith);
  third = stock_within number low;
  fourth = refl;
}

pub take_blocks :
    {X : Type 0} (r : Reservoir X) → Lawful r → (number : ℕ) → number < 32768 →
    LawfulBlocks (take_targets (slot_of r.slots number) (length r.slots) number)
take_blocks r l number low =
    let ranges = l.ranges in
    let most : length r.slots ≤ 512 = omega (arith, ranges.limits.1, ranges.sample.0) in
    found_blocks r.slots number (search_found r.slots number) most low

-- ---- the headers

abbrev pub store_header : {X : Type 0} → Reservoir X → ℕ → Drawn → Pending
store_header r number drawn = record {
  call = pending.Store (width r) drawn.value drawn.used;
  number = number;
  calls = r.calls + 1;
  words = r.words;
  blocks = store_targets (filled_slot r drawn) number;
}

abbrev pub take_header : {X : Type 0} → Reservoir X → ℕ → Pending
take_header r number = record {
  call = pending.Take;
  number = number;
  calls = r.calls + 1;
  words = r.words;
  blocks = take_targets (slot_of r.slots number) (length r.slots) number;
}

pub store_header_lem :
    {X : Type 0} (r : Reservoir X) → Lawful r → (number : ℕ) (drawn : Drawn) → number < 32768 → r.stock number ≡ false →
    r.calls < 4294967295 → drawn.value < width r → drawn.used ≤ 64 → journal.Lawful (store_header r number drawn)
store_header_lem {X} r l number drawn low out can below few =
    let usage = l.ranges.usage in
    let fits = ((possible X).store_possible r l number drawn can low out below few).1 in
    record {
      call = (omega arith, fits, below, few);
      number = low;
      calls = omega arith;
      words = omega (arith, usage);
      blocks = store_blocks r l number drawn low;
    }

pub take_header_lem :
    {X : Type 0} (r : Reservoir X) → Lawful r → (number : ℕ) → number < 32768 → r.calls < 4294967295 →
    journal.Lawful (take_header r number)
take_header_lem r l number low can =
    let usage = l.ranges.usage in
    record { call = tt; number = low; calls = omega arith; words = omega (arith, usage); blocks = take_blocks r l number low }

store_agrees :
    {X : Type 0} (r : Reservoir X) (number : ℕ) (item : X) (drawn : Drawn) →
    agrees (store_header r number drawn) (store r number item drawn.value drawn.used) ≡ true
unfolding store
store_agrees r number item drawn = and_from _ _ (eq-eqb (r.calls + 1) (r.calls + 1) refl) (eq-eqb (r.words + drawn.used) (r.words + drawn.used) refl)

take_agrees : {X : Type 0} (r : Reservoir X) (number : ℕ) → agrees (take_header r number) (taken r number) ≡ true
unfolding taken
take_agrees r number = and_from _ _ (eq-eqb (r.calls + 1) (r.calls + 1) refl) (eq-eqb (r.words + 0) r.words (omega arith))

-- ---- the next reservoir

store_storable :
    {X : Type 0} (r : Reservoir X) → Lawful r → (number : ℕ) (item : X) (drawn : Drawn) → number < 32768 → r.stock number ≡ false →
    r.calls < 4294967295 → drawn.value < width r → drawn.used ≤ 64 → Storable (store r number item drawn.value drawn.used)
unfolding store
store_storable r l number item drawn low out can below few = record {
  lawful = store_lawful r l number item drawn.value drawn.used low out below few;
  countable = omega arith;
}

take_storable :
    {X : Type 0} (r : Reservoir X) → Lawful r → (number : ℕ) → r.stock number ≡ true → r.calls < 4294967295 →
    Storable (taken r number)
unfolding taken
take_storable r l number inside can = record { lawful = take_lawful r l number inside; countable = omega arith }

-- ---- the law

module _ {X : Type 0} (code : ℕ) (form : X → List ℕ) (reading : List ℕ → Option X) (back : ReadsBack code form reading)
    (sized : (x : X) → length (form x) ≡ 60) (bounded : (x : X) → every (λ b. ltb b 256) (form x) ≡ true) where
  stores :
      (d d' : Disk) (r : Reservoir X) (number : ℕ) (item : X) (drawn : Drawn) (a : Result (Unit {0}) Fault) (es : List Event) →
      Storable r → Rests code form reading d r → number < 32768 → r.stock number ≡ false → r.calls < 4294967295 →
      drawn.value < width r → drawn.used ≤ 64 → Ran (storing code form r number item drawn).writes d a es d' →
      Leaves code form reading es a d' (store r number item drawn.value drawn.used) r
      × Storable (store r number item drawn.value drawn.used)
  unfolding storing
  stores d d' r number item drawn a es ok rests low out can below few run =
      let next = store r number item drawn.value drawn.used in
      let header = store_header_lem r ok.lawful number drawn low out can below few in (
        leaves code form reading r next (store_header r number drawn) (four_lawful _ header.blocks) (headers_read_back.pending _ header)
            (store_agrees r number item drawn) (λ b l. content_is_block code form sized bounded next b)
            (λ b l apart. store_kept code form sized r number item drawn.value drawn.used b l apart) rests run,
        store_storable r ok.lawful number item drawn low out can below few,
      )

  takes :
      (d d' : Disk) (r : Reservoir X) (number : ℕ) (a : Result (Unit {0}) Fault) (es : List Event) → Storable r →
      Rests code form reading d r → number < 32768 → r.stock number ≡ true → r.calls < 4294967295 →
      Ran (taking code form r number).writes d a es d' → Leaves code form reading es a d' (taken r number) r × Storable (taken r number)
  unfolding taking
  takes d d' r number a es ok rests low inside can run =
      let header = take_header_lem r ok.lawful number low can in (
        leaves code form reading r (taken r number) (take_header r number) (four_lawful _ header.blocks) (headers_read_back.pending _ header)
            (take_agrees r number) (λ b l. content_is_block code form sized bounded (taken r number) b)
            (λ b l apart. take_kept code form sized r number b l apart) rests run,
        take_storable r ok.lawful number inside can,
      )

  pub recovers : Recovers code form reading
  recovers = record {
    finds = finds code form reading back;
    opens = λ d d' r a es ok s many call. opens code form reading back d d' r a es ok s call;
    stores = λ d d' r number item drawn a es ok s many low out can below few run.
        stores d d' r number item drawn a es ok s low out can below few run;
    takes = λ d d' r number a es ok s many low inside can run. takes d d' r number a es ok s low inside can run;
  }
