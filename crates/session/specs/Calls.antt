-- The calls of a session, for the register's own kind or for another, and what each does to the disk and to the page.
-- Assumes nothing.
use Rattle.std.specs.Prelude.{◌≡◌, ℕ, List, [], Ok, Err, Option, Result}
use Rattle.std.specs.Result.{result_map_both}
use Rattle.items.specs.declared.kind.Kind as trait_of
use Rattle.fault.specs.declared.Fault.{Fault}
use Rattle.device.specs.Disk.{Disk, Event}
use Rattle.pairing.specs.Reservoir.{Reservoir}
use Rattle.pairing.specs.Steps.{counts_of}
use Rattle.plans.specs.Calls.{Performed, PerformedOnline}
use Rattle.plans.specs.Plans.{StoreAnswer, TakeAnswer, store_plan, take_plan, open_plan, answering, open_answer, too_small}
use Rattle.plans.specs.Plans as plans
use Rattle.plans.specs.declared.Opened.{Opened}
use Rattle.session.specs.declared.Answer.{Answer}
use Rattle.session.specs.declared.Answer.TheVariants as answer

-- a kind of item, by its code, its forms and their reading
pub record Kind (X : Type 0) : Type 0 where
  pub code : ℕ
  pub form : X → List ℕ
  pub reading : List ℕ → Option X

-- the kind of the items of a type, as its trait says
abbrev pub kind_of : {X : Type 0} → trait_of.Ghosts X → Kind X
kind_of k = record { code = k.code; form = k.form; reading = k.reading }

-- what is asked; a Store brings the words that it may draw from
pub data Request (X : Type 0) : Type 0 where
  Store : (number : ℕ) (item : X) (words : ℕ → Option ℕ) → Request X
  Take : (number : ℕ) → Request X
  Report : Request X
  Open : Request X

-- for the register's own kind of item, or for another
pub data Call (X Y : Type 0) : Type 0 where
  Own : Request X → Call X Y
  Other : Request Y → Call X Y

abbrev pub Reply : Type 0
Reply = Result Answer Fault

abbrev pub stored : StoreAnswer → Answer
stored a = answer.Stored a.0 a.1 a.2 a.3

abbrev pub taken : TakeAnswer → Answer
taken a = answer.Taken a.0 a.1

-- the page that Report fills, and the reservoir that it shows
abbrev pub reported : {X : Type 0} → Kind X → Reservoir X → List ℕ → List ℕ
reported kind r page = plans.reported kind.code kind.form r page

abbrev pub reporting : {X : Type 0} → Kind X → Disk → List ℕ → Result (Reservoir X) Fault
reporting kind d page = plans.reporting kind.code kind.reading d page

-- What a request for a kind does on the disk d with the page: its answer, its events, and the disk and the page after it.
pub data Did {X : Type 0} (kind : Kind X) (d : Disk) (page : List ℕ) : Request X → Reply → List Event → Disk → List ℕ → Type 0 where
  store_did :
      {number : ℕ} {item : X} {words : ℕ → Option ℕ} {a : Result StoreAnswer Fault} {es : List Event} {d' : Disk} →
      Performed (store_plan kind.code kind.form kind.reading d number item words) d a es d' →
      Did kind d page (Store number item words) (result_map_both stored (λ f. f) a) es d' page
  take_did :
      {number : ℕ} {a : Result TakeAnswer Fault} {es : List Event} {d' : Disk} →
      Performed (take_plan kind.code kind.form kind.reading d number) d a es d' →
      Did kind d page (Take number) (result_map_both taken (λ f. f) a) es d' page
  report_refused : {f : Fault} → reporting kind d page ≡ Err f → Did kind d page Report (Err f) [] d page
  report_did : {r : Reservoir X} → reporting kind d page ≡ Ok r → Did kind d page Report (Ok (answer.Reported (counts_of r))) [] d (reported kind r page)
  open_did :
      {a : Result Opened Fault} {es : List Event} {d' : Disk} →
      PerformedOnline (too_small d) (answering open_answer (open_plan kind.code kind.reading d)) d a es d' →
      Did kind d page Open (result_map_both answer.Opened (λ f. f) a) es d' page

-- the call, for one kind or for the other
pub data DidCall {X Y : Type 0} (own : Kind X) (other : Kind Y) (d : Disk) (page : List ℕ) : Call X Y → Reply → List Event → Disk → List ℕ → Type 0 where
  for_own : {q : Request X} {a : Reply} {es : List Event} {d' : Disk} {page' : List ℕ} → Did own d page q a es d' page' → DidCall own other d page (Own q) a es d' page'
  for_other : {q : Request Y} {a : Reply} {es : List Event} {d' : Disk} {page' : List ℕ} → Did other d page q a es d' page' → DidCall own other d page (Other q) a es d' page'
