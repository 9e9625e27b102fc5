-- What the code of a request and of a call does, from what it calls.
-- Assumes nothing.
use Rattle.std.proofs.Common.{◌≡◌, ℕ, List, [], Option, Ok, Err, Result, MatchResult, IsOkAnd, sym, ap, subst}
use Rattle.std.specs.Result.{result_map_both}
use Rattle.fault.specs.declared.Fault.{Fault}
use Rattle.device.specs.Disk.{Disk}
use Rattle.pairing.specs.declared.counts.Counts.{Counts}
use Rattle.plans.specs.Calls.{Performs, PerformsOnline}
use Rattle.plans.specs.Plans.{StoreAnswer, TakeAnswer, store_plan, take_plan, open_plan, answering, open_answer, too_small}
use Rattle.plans.specs.declared.Opened.{Opened}
use Rattle.register.specs.Reports.{Shown}
use Rattle.register.specs.Reports as shown
use Rattle.session.specs.Asked.{asked, asked_request, Does, DoesCall}
use Rattle.session.specs.Calls.{Kind, Request, Store, Take, Report, Open, Reply, stored, taken, store_did, take_did, report_refused, report_did, open_did, for_own, for_other}
use Rattle.session.specs.declared.Answer.TheVariants as answer
use Rattle.session.specs.declared.calls.Request as code
use Rattle.session.specs.declared.calls.Call.{Call}
use Rattle.session.specs.declared.calls.Call.TheVariants as call

-- ---- requests

module _ {X : Type 0} (kind : Kind X) {d d' : Disk} where
  -- with an answer that is equal
  pub does_as :
      {page page' : List ℕ} {q : Request X} {a b : Reply} → a ≡ b → Does kind d page q b d' page' → Does kind d page q a d' page'
  does_as {page} {page'} {q} e does = subst (λ x. Does kind d page q x d' page') (sym e) does

  pub store_does :
      (number : ℕ) (item : X) (words : ℕ → Option ℕ) (a : Result StoreAnswer Fault) →
      Performs (store_plan kind.code kind.form kind.reading d number item words) d a d' → (page : List ℕ) →
      Does kind d page (Store number item words) (result_map_both stored (λ f. f) a) d' page
  store_does number item words a call page = record { events = call.events; did = store_did call.performed }

  pub take_does :
      (number : ℕ) (a : Result TakeAnswer Fault) → Performs (take_plan kind.code kind.form kind.reading d number) d a d' →
      (page : List ℕ) → Does kind d page (Take number) (result_map_both taken (λ f. f) a) d' page
  take_does number a call page = record { events = call.events; did = take_did call.performed }

  pub open_does :
      (a : Result Opened Fault) →
      PerformsOnline (too_small d) (answering open_answer (open_plan kind.code kind.reading d)) d a d' → (page : List ℕ) →
      Does kind d page Open (result_map_both answer.Opened (λ f. f) a) d' page
  open_does a call page = record { events = call.events; did = open_did call.performed }

-- what a map answers
pub mapped :
    {A B : Type 0} (h : A → B) (a : Result A Fault) (r : Result B Fault) →
    MatchResult a (λ x. IsOkAnd r (λ y. y ≡ h x)) (λ e. r ≡ Err e) → r ≡ result_map_both h (λ f. f) a
mapped h (Ok x) (Ok y) told = ap Ok told
mapped h (Ok x) (Err e) told = absurd told
mapped h (Err e) r told = told

pub report_does :
    {X : Type 0} (kind : Kind X) {d : Disk} {page page' : List ℕ} (a : Result Counts Fault) → Shown kind.code kind.form kind.reading d page a page' →
    Does kind d page Report (result_map_both answer.Reported (λ f. f) a) d page'
report_does kind a (shown.refused e) = record { events = []; did = report_refused e }
report_does kind a (shown.shown e) = record { events = []; did = report_did e }

-- ---- calls

module _ {X Y S : Type 0} (own : Kind X) (other : Kind Y) (words : S → ℕ → Option ℕ) {d d' : Disk} {page page' : List ℕ} {a : Reply} where
  pub own_does :
      {c : Call X Y S} (q : code.Request X S) → c ≡ call.Own q → Does own d page (asked_request words q) a d' page' →
      DoesCall own other d page (asked words c) a d' page'
  own_does q e does =
      subst (λ c. DoesCall own other d page (asked words c) a d' page') (sym e) (record { events = does.events; did = for_own does.did })

  pub other_does :
      {c : Call X Y S} (q : code.Request Y S) → c ≡ call.Other q → Does other d page (asked_request words q) a d' page' →
      DoesCall own other d page (asked words c) a d' page'
  other_does q e does =
      subst (λ c. DoesCall own other d page (asked words c) a d' page') (sym e) (record { events = does.events; did = for_other does.did })
