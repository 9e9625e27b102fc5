-- What each call of a session does and answers, by the reservoir before it and by its own events.
-- Assumes nothing.
use Rattle.std.specs.Prelude.{◌≡◌, ℕ, ◌+◌, ◌<◌, Bool, true, false, cond, List, [], ◌∷◌, ◌++◌, length, replicate, Some, None, Ok, Err, Option}
use Rattle.fault.specs.Refusals.{offline, not_register}
use Rattle.fault.specs.declared.Damage.TheVariants.{OtherKind}
use Rattle.fault.specs.declared.Fault.{Fault}
use Rattle.device.specs.Disk.{Disk, Event, write_done, write_lost, online_done, online_refused, entry_at}
use Rattle.device.specs.declared.Remains.{Remains}
use Rattle.words.specs.Draws.{draw_of}
use Rattle.words.specs.declared.draws.Drawn.{Drawn}
use Rattle.pairing.specs.Reservoir.{Reservoir, width, slot_of}
use Rattle.pairing.specs.Reservoir as pairing
use Rattle.pairing.specs.Steps.{counts_of}
use Rattle.journal.specs.Writes.{landed}
use Rattle.journal.specs.Header.{header_of}
use Rattle.journal.specs.declared.headers.Header.{Header}
use Rattle.journal.specs.declared.headers.Header.TheVariants as header
use Rattle.plans.specs.Plans.{filled_slot, finished_call}
use Rattle.plans.specs.Recovery.{Rests}
use Rattle.plans.specs.declared.Finished.{Finished}
use Rattle.session.specs.Calls.{Kind, Request, Store, Take, Report, Open, Call, Own, Other, Reply, DidCall, reported}
use Rattle.session.specs.Refused.{status_of, refusal, other_refusal}
use Rattle.session.specs.declared.Answer.{Answer}
use Rattle.session.specs.declared.Answer.TheVariants as answer

-- ---- committed calls

-- a Store or Take is committed exactly when its fifth write was done, or was lost and left new: its events alone tell
abbrev pub is_committed : List Event → Bool
is_committed es = landed 5 es

-- the reservoir after a Store that draws from these words
abbrev pub stored_by : {X : Type 0} → Reservoir X → ℕ → X → Option Drawn → Reservoir X
stored_by r number item (Some drawn) = pairing.store r number item drawn.value drawn.used
stored_by r number item None = r

-- the reservoir after a call: the published step of a committed Store or Take for the register's kind, else as before
abbrev pub after : {X Y : Type 0} → Call X Y → List Event → Reservoir X → Reservoir X
after (Own (Store number item words)) es r = cond (is_committed es) (stored_by r number item (draw_of words (width r) r.words)) r
after (Own (Take number)) es r = cond (is_committed es) (pairing.taken r number) r
after (Own Report) es r = r
after (Own Open) es r = r
after (Other q) es r = r

-- ---- outcomes

-- n writes were asked for: all were done, or one of them was lost and the device went offline
pub data Asked (n : ℕ) (d' : Disk) : List Event → (lost : Bool) → Type 0 where
  all_done : Asked n d' (replicate n write_done) false
  one_lost : (k : ℕ) (m : Remains) → k < n → d'.online ≡ false → Asked n d' (replicate k write_done ++ (write_lost m ∷ [])) true

-- the answer of a Store or Take that is done
abbrev pub store_reply : {X : Type 0} → Reservoir X → Drawn → Answer
store_reply r drawn = answer.Stored (r.calls + 1) (width r) drawn.value (filled_slot r drawn)

abbrev pub take_reply : {X : Type 0} → Reservoir X → ℕ → Answer
take_reply r number = answer.Taken (r.calls + 1) (slot_of r.slots number)

-- the writes that Open owes to a journal header, and the call that it finishes
abbrev pub owed : Header → ℕ
owed header.Free = 0
owed header.Unreadable = 1
owed (header.Pending p) = 5
owed header.Unlawful = 0
owed header.Other = 0

abbrev pub finished_on : Header → Option Finished
finished_on header.Free = None
finished_on header.Unreadable = None
finished_on (header.Pending p) = Some (finished_call p.call p.number)
finished_on header.Unlawful = None
finished_on header.Other = None

-- What became of a call on the disk d, with the reservoir r before it.
pub data Outcome {X Y : Type 0} (own : Kind X) (d : Disk) (page : List ℕ) (r : Reservoir X) : Call X Y → Reply → List Event → Disk → List ℕ → Type 0 where
  -- refused as the table says: nothing was tried
  refused : {q : Request X} {f : Fault} → refusal (status_of d) r (length page) q ≡ Some f → Outcome own d page r (Own q) (Err f) [] d page
  refused_other : {q : Request Y} {f : Fault} → other_refusal (status_of d) (length page) q ≡ Some f → Outcome own d page r (Other q) (Err f) [] d page
  -- a Store that is not refused asks for ten writes; done, it answers as the reservoir says
  store_done :
      {number : ℕ} {item : X} {words : ℕ → Option ℕ} {drawn : Drawn} {es : List Event} {d' : Disk} →
      refusal (status_of d) r (length page) (Store number item words) ≡ None → draw_of words (width r) r.words ≡ Some drawn →
      Asked 10 d' es false → Outcome own d page r (Own (Store number item words)) (Ok (store_reply r drawn)) es d' page
  store_lost :
      {number : ℕ} {item : X} {words : ℕ → Option ℕ} {b : ℕ} {es : List Event} {d' : Disk} →
      refusal (status_of d) r (length page) (Store number item words) ≡ None →
      Asked 10 d' es true → Outcome own d page r (Own (Store number item words)) (Err (offline b)) es d' page
  -- a Take
  take_done :
      {number : ℕ} {es : List Event} {d' : Disk} → refusal (status_of d) r (length page) (Take number) ≡ None →
      Asked 10 d' es false → Outcome own d page r (Own (Take number)) (Ok (take_reply r number)) es d' page
  take_lost :
      {number b : ℕ} {es : List Event} {d' : Disk} → refusal (status_of d) r (length page) (Take number) ≡ None →
      Asked 10 d' es true → Outcome own d page r (Own (Take number)) (Err (offline b)) es d' page
  -- a Report answers the counters and fills the page with the slots
  report_done :
      refusal (status_of d) r (length page) Report ≡ None →
      Outcome own d page r (Own Report) (Ok (answer.Reported (counts_of r))) [] d (reported own r page)
  -- an Open for the register's kind finds the reservoir: the counters, and every block
  open_done :
      {es : List Event} {d' : Disk} → Asked (owed (header_of (entry_at d 1))) d' es false →
      Rests own.code own.form own.reading d' r → d'.online ≡ true →
      Outcome own d page r (Own Open) (Ok (answer.Opened (record { counts = counts_of r; finished = finished_on (header_of (entry_at d 1)) }))) (online_done ∷ es) d' page
  -- or the device is offline then
  open_refused :
      {d' : Disk} → d'.online ≡ false → Outcome own d page r (Own Open) (Err (offline 0)) (online_refused ∷ []) d' page
  open_lost :
      {b : ℕ} {es : List Event} {d' : Disk} → Asked (owed (header_of (entry_at d 1))) d' es true → Outcome own d page r (Own Open) (Err (offline b)) (online_done ∷ es) d' page
  -- an Open for another kind writes nothing
  other_open :
      {d' : Disk} → d'.online ≡ true → Outcome own d page r (Other Open) (Err (not_register 0 OtherKind)) (online_done ∷ []) d' page
  other_offline :
      {d' : Disk} → d'.online ≡ false → Outcome own d page r (Other Open) (Err (offline 0)) (online_refused ∷ []) d' page

-- ---- runs

-- One call: what it did to the device, what became of it, and the reservoir after it.
pub record Step {X Y : Type 0} (own : Kind X) (other : Kind Y) (d : Disk) (page : List ℕ) (r : Reservoir X) (c : Call X Y) (a : Reply) (es : List Event)
    (d' : Disk) (page' : List ℕ) (r' : Reservoir X) : Type 0 where
  pub did : DidCall own other d page c a es d' page'
  pub outcome : Outcome own d page r c a es d' page'
  pub follows : r' ≡ after c es r

-- The calls in their order: their answers, the events of each, and the disk, the page and the reservoir after them.
pub data Steps {X Y : Type 0} (own : Kind X) (other : Kind Y) : Disk → List ℕ → Reservoir X → List (Call X Y) → List Reply → List (List Event) → Disk → List ℕ → Reservoir X → Type 0 where
  none : {d : Disk} {page : List ℕ} {r : Reservoir X} → Steps own other d page r [] [] [] d page r
  next :
      {d d₁ d' : Disk} {page page₁ page' : List ℕ} {r r₁ r' : Reservoir X} {c : Call X Y} {cs : List (Call X Y)} {a : Reply} {replies : List Reply}
      {es : List Event} {ess : List (List Event)} → Step own other d page r c a es d₁ page₁ r₁ →
      Steps own other d₁ page₁ r₁ cs replies ess d' page' r' → Steps own other d page r (c ∷ cs) (a ∷ replies) (es ∷ ess) d' page' r'
