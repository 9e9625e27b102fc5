-- What Open finds, without the writes that it plans, and the header that it finds it by.
-- Assumes nothing.
use Rattle.std.proofs.Common.{◌≡◌, ℕ, zero, suc, ◌+◌, ◌≤◌, min, Bool, true, false, cond, ◌&&◌, eqb, ltb, List, [], ◌∷◌, get_or, Some, None, Ok, Err, Option, Result, sym, refl, ap, subst, arith}
use Rattle.std.proofs.lemmas.Slice.Eq.{bytes_eq-Decides}
use Rattle.std.proofs.lemmas.Bool.{and_parts, cond-true, cond_both, eqb-true}
use Rattle.std.specs.Str.{bytes_eq}
use Rattle.fault.specs.Refusals.{not_register}
use Rattle.fault.specs.declared.Damage.TheVariants as damage
use Rattle.fault.specs.declared.Fault.{Fault}
use Rattle.device.specs.Disk.{Entry, Disk, entry_at}
use Rattle.pairing.specs.Reservoir.{Reservoir}
use Rattle.journal.specs.Header.{free_bytes, header_of, marked, fields_of, slot_block, stock_block, lawful_blocks, call_of, with_call, or_unlawful}
use Rattle.journal.specs.declared.headers.Header.{Header}
use Rattle.journal.specs.declared.headers.Header.TheVariants as header
use Rattle.journal.specs.declared.headers.Pending.{Pending}
use Rattle.journal.specs.declared.headers.PendingCall.{PendingCall}
use Rattle.std.specs.Option.{option_or}
use Rattle.layout.specs.Reading.{decode, readable, block_fault, first_of, unless, unless_fault}
use Rattle.plans.specs.Plans.{Plan, Finding, and_then, agrees, finishing, opened_by, open_plan, found}
use Rattle.plans.specs.Views.{place_from, viewed}

-- ---- the header

pub free_reads : header_of (Some free_bytes) ≡ header.Free
unfolding header_of
free_reads = cond-true _ _ _ ((bytes_eq-Decides free_bytes free_bytes).1 refl)

pub unreadable_reads : header_of None ≡ header.Unreadable
unfolding header_of
unreadable_reads = refl

abbrev targets_of : Header → List ℕ
targets_of header.Free = []
targets_of header.Unreadable = []
targets_of (header.Pending p) = p.blocks
targets_of header.Unlawful = []
targets_of header.Other = []

-- the targets of a pending header: three, then the head
pub record Targets (bs : List ℕ) : Type 0 where
  pub first : ℕ
  pub second : ℕ
  pub third : ℕ
  pub are : bs ≡ first ∷ second ∷ third ∷ 0 ∷ []

last_zero : (ts : List ℕ) → lawful_blocks ts ≡ true → get_or ts 3 0 ≡ 0
last_zero ts e =
    let third = stock_block (get_or ts 2 0) && eqb (get_or ts 3 0) 0 in
    let second = (and_parts (slot_block (get_or ts 0 0)) (slot_block (get_or ts 1 0) && third) e).1 in
    eqb-true (get_or ts 3 0) 0 (and_parts (stock_block (get_or ts 2 0)) _ (and_parts (slot_block (get_or ts 1 0)) third second).1).1

module _ (p : Pending) where
  with_call_lem : (bs : List ℕ) (c : Option PendingCall) → or_unlawful (with_call (fields_of bs) c) ≡ header.Pending p → p.blocks ≡ (fields_of bs).blocks
  with_call_lem bs None e = absurd (let z : ◌≡◌ {A = ℕ} 0 1 = cc in omega arith)
  with_call_lem bs (Some c) e = sym (ap targets_of e)

  lawful_targets : (bs : List ℕ) → lawful_blocks (fields_of bs).blocks ≡ true → Targets (fields_of bs).blocks
  lawful_targets bs e =
      let ts = (fields_of bs).blocks in
      record {
        first = get_or ts 0 0;
        second = get_or ts 1 0;
        third = get_or ts 2 0;
        are = ap (λ t. get_or ts 0 0 ∷ get_or ts 1 0 ∷ get_or ts 2 0 ∷ t ∷ []) (last_zero ts e);
      }

  bytes_targets :
      (bs : List ℕ) (s m t : Bool) → (ltb (fields_of bs).number 32768 && lawful_blocks (fields_of bs).blocks) ≡ t →
      cond s header.Free (cond m (or_unlawful (cond t (with_call (fields_of bs) (call_of (fields_of bs).call)) None)) header.Other)
      ≡ header.Pending p →
      Targets p.blocks
  bytes_targets bs true m t is e = absurd (let z : ◌≡◌ {A = ℕ} 0 1 = cc in omega arith)
  bytes_targets bs false false t is e = absurd (let z : ◌≡◌ {A = ℕ} 0 1 = cc in omega arith)
  bytes_targets bs false true false is e = absurd (let z : ◌≡◌ {A = ℕ} 0 1 = cc in omega arith)
  bytes_targets bs false true true is e =
      subst Targets (sym (with_call_lem bs _ e)) (lawful_targets bs (and_parts (ltb (fields_of bs).number 32768) _ is).1)

  pub pending_targets : (e : Entry) → header_of e ≡ header.Pending p → Targets p.blocks
  unfolding header_of
  pending_targets None h = absurd (let z : ◌≡◌ {A = ℕ} 0 1 = cc in omega arith)
  pending_targets (Some bs) h = bytes_targets bs (bytes_eq bs free_bytes) (marked bs) _ refl h

-- ---- where block 0 is read

-- a block that is read elsewhere than in block 0 stays so
place_some : (b place image : ℕ) (ts : List ℕ) → 1 ≤ place → 1 ≤ image → 1 ≤ place_from b place image ts
place_some b place image [] h k = h
place_some b place image (t ∷ ts) h k =
    place_some b (cond (eqb t b) image place) (min (image + 1) 65535) ts (cond_both (eqb t b) image place (λ x. 1 ≤ x) (λ _. k) (λ _. h)) (omega arith)

-- where block 0 is the last target, no block is read in it
pub place_none : (ts : List ℕ) → Targets ts → (b : ℕ) → 1 ≤ place_from b b 2 ts
place_none ts w b = subst (λ l. 1 ≤ place_from b b 2 l) (sym w.are) (by b)
  where
    by : (b : ℕ) → 1 ≤ place_from b b 2 (w.first ∷ w.second ∷ w.third ∷ 0 ∷ [])
    by zero = omega arith
    by (suc b) = place_some (suc b) (suc b) 2 (w.first ∷ w.second ∷ w.third ∷ 0 ∷ []) (omega arith) (omega arith)

-- ---- what Open finds

module _ {X : Type 0} (code : ℕ) (reading : List ℕ → Option X) where
  abbrev agreed : Pending → Reservoir X → Result (Reservoir X) Fault
  agreed p r = cond (agrees p r) (Ok r) (Err (not_register 1 damage.Disagreement))

  abbrev finished : (ℕ → Entry) → Pending → Result (Reservoir X) Fault
  finished blocks p =
      and_then (unless_fault (first_of (block_fault blocks) 2 4) (tt {0})) (λ _.
      and_then (decode code reading (λ b. blocks (place_from b b 2 p.blocks))) (agreed p))

  -- in these blocks, with this header
  abbrev pub found_in : (ℕ → Entry) → Header → Result (Reservoir X) Fault
  found_in blocks header.Free = decode code reading blocks
  found_in blocks header.Unreadable = decode code reading blocks
  found_in blocks (header.Pending p) = finished blocks p
  found_in blocks header.Unlawful = Err (not_register 1 damage.Range)
  found_in blocks header.Other = Err (not_register 1 damage.Mark)

  abbrev reservoir_of : Result (Plan (Finding X)) Fault → Result (Reservoir X) Fault
  reservoir_of plan = and_then plan (λ p. Ok p.answer.reservoir)

  plain : (r : Result (Reservoir X) Fault) (plan : Reservoir X → Plan (Finding X)) → ((x : Reservoir X) → (plan x).answer.reservoir ≡ x) →
      reservoir_of (and_then r (λ x. Ok (plan x))) ≡ r
  plain (Ok x) plan e = ap Ok (e x)
  plain (Err f) plan e = refl

  chosen : (t : Bool) (x : Plan (Finding X)) (f : Fault) → reservoir_of (cond t (Ok x) (Err f)) ≡ cond t (Ok x.answer.reservoir) (Err f)
  chosen true x f = refl
  chosen false x f = refl

  agreed_by : (d : Disk) (p : Pending) (r : Reservoir X) → reservoir_of (finishing d p r) ≡ agreed p r
  agreed_by d p r = chosen (agrees p r) _ _

  finished_by : (d : Disk) (p : Pending) (checked : Result (Unit {0}) Fault) (r : Result (Reservoir X) Fault) →
      reservoir_of (and_then checked (λ _. and_then r (λ x. finishing d p x))) ≡ and_then checked (λ _. and_then r (agreed p))
  finished_by d p (Ok u) (Ok x) = agreed_by d p x
  finished_by d p (Ok u) (Err f) = refl
  finished_by d p (Err f) r = refl

  found_by : (d : Disk) (h : Header) → reservoir_of (opened_by code reading d h) ≡ found_in (entry_at d) h
  found_by d header.Free = plain (decode code reading (entry_at d)) _ (λ x. refl)
  found_by d header.Unreadable = plain (decode code reading (entry_at d)) _ (λ x. refl)
  found_by d (header.Pending p) =
      finished_by d p (unless_fault (first_of (block_fault (entry_at d)) 2 4) (tt {0})) (decode code reading (viewed d 2 p.blocks))
  found_by d header.Unlawful = refl
  found_by d header.Other = refl

  pub found_is : (d : Disk) → found code reading d ≡ found_in (entry_at d) (header_of (entry_at d 1))
  unfolding found open_plan
  found_is d = found_by d (header_of (entry_at d 1))

  -- what a pending header finds does not depend on block 0
  faults_same : (blocks others : ℕ → Entry) → ((b : ℕ) → 1 ≤ b → others b ≡ blocks b) → (i n : ℕ) → 1 ≤ i →
      first_of (block_fault others) i n ≡ first_of (block_fault blocks) i n
  faults_same blocks others same i zero h = refl
  faults_same blocks others same i (suc n) h =
      λ j. option_or (unless (readable (same i h j)) i damage.Unreadable) (faults_same blocks others same (i + 1) n (omega arith) j)

  pub pending_same : (blocks others : ℕ → Entry) → ((b : ℕ) → 1 ≤ b → others b ≡ blocks b) → (p : Pending) → Targets p.blocks →
      found_in others (header.Pending p) ≡ found_in blocks (header.Pending p)
  pending_same blocks others same p w =
      λ j.
      and_then (unless_fault (faults_same blocks others same 2 4 (omega arith) j) (tt {0})) (λ _.
      and_then (decode code reading (λ b. same (place_from b b 2 p.blocks) (place_none p.blocks w b) j)) (agreed p))
