-- A call for another kind than the register's: it is refused, and writes nothing.
-- Assumes nothing.
use Rattle.std.proofs.Common.{◌≡◌, ℕ, ◌^◌, ◌<◌, Bool, true, false, eqb, ltb, List, [], ◌∷◌, length, Some, None, Ok, Err, Option, Result, sym, refl, ap, ◌∙◌, subst}
use Rattle.std.specs.Result.{result_map_both}
use Rattle.std.proofs.lemmas.Bool.{cond-false, eqb-true, ne_eqb}
use Rattle.fault.specs.Refusals.{not_register, number_too_large, too_short}
use Rattle.fault.specs.declared.Damage.TheVariants as damage
use Rattle.fault.specs.declared.Fault.{Fault}
use Rattle.device.specs.Disk.{Entry, Disk, Event, online_done, entry_at, turned}
use Rattle.pairing.specs.Ranges.{Ranges}
use Rattle.pairing.specs.Reservoir.{Reservoir}
use Rattle.pairing.specs.Steps.{counts_of}
use Rattle.pairing.specs.declared.counts.Counts.{Counts}
use Rattle.layout.specs.Layout.{Holds, head_of}
use Rattle.std.specs.Option.{option_or}
use Rattle.layout.specs.Reading.{unless_fault, bytes_of, kind_in, head_fault, fault_in, spelled, decode}
use Rattle.layout.proofs.Faults.{unless_none, block_reads}
use Rattle.layout.proofs.HeadLaws.{Known, head_reads, head_passed, head_is_block}
use Rattle.layout.proofs.LayoutLaws.{parts_held}
use Rattle.plans.specs.Calls as calls
use Rattle.plans.specs.Calls.{Performed, PerformedOnline}
use Rattle.plans.specs.Plans.{Plan, StoreAnswer, TakeAnswer, and_then, refused_if, answering, at_rest, store_plan, take_plan, open_answer, finishing, opened_by, open_plan, too_small}
use Rattle.plans.specs.Recovery.{resting, torn, pending}
use Rattle.plans.specs.Views.{viewed}
use Rattle.plans.specs.declared.Opened.{Opened}
use Rattle.plans.proofs.Standing.{err_ok}
use Rattle.session.specs.Calls.{Kind, Request, Store, Take, Report, Open, Other, reporting, stored, taken}
use Rattle.session.specs.Refused.{Status, down, busy, ready, status_of, fault_if, when_ready, other_refusal}
use Rattle.session.specs.Runs.{Keeps, KindLaws}
use Rattle.session.specs.Steps.{Outcome, refused_other, other_open, other_offline}
use Rattle.session.specs.declared.Answer.{Answer}
use Rattle.session.specs.declared.Answer.TheVariants as answer
use Rattle.session.proofs.OwnOpen.{turned_keeps}
use Rattle.session.proofs.Statuses.{StandsOn, rested_by, then_rested, rest_by, ready_rests, stands_header, not_small, some_none, err_same}

abbrev other_kind : Fault
other_kind = not_register 0 damage.OtherKind

-- ---- the head of another kind

or_else_next : (a b : Option Fault) → a ≡ None → option_or a b ≡ b
or_else_next a b e = ap (λ x. option_or x b) e

or_else_found : (a b later : Option Fault) (f : Fault) → a ≡ None → b ≡ Some f → option_or a (option_or b later) ≡ Some f
or_else_found a b later f h k = λ i. option_or (h i) (option_or (k i) later)

-- its own kind is told last
head_other :
    (code other : ℕ) (n : Counts) → Known code → Ranges n → n.calls < 2 ^ 32 → (code ≡ other → ⊥) →
    head_fault other (head_of code n) ≡ Some other_kind
unfolding head_fault
head_other code other n known ranges few apart =
    let xs = head_of code n in
    let f = head_passed code xs (head_reads code n known ranges few).0 in
    or_else_next _ _ (unless_none _ 0 damage.Mark f.marks)
    ∙ or_else_next _ _ (unless_none _ 0 damage.Range f.known)
    ∙ or_else_next _ _ (unless_none _ 0 damage.Range f.ranges)
    ∙ or_else_next _ _ (unless_none _ 0 damage.Disagreement f.balance)
    ∙ cond-false (eqb (kind_in xs) other) _ _ (ne_eqb (kind_in xs) other (λ e. apart (sym (eqb-true (kind_in xs) code f.kind) ∙ e)))

-- ---- plans that are refused

then_refused : {A B : Type 0} (x : Result A Fault) (f : Fault) (next : A → Result B Fault) → x ≡ Err f → and_then x next ≡ Err f
then_refused x f next e = ap (λ x. and_then x next) e

module _ {A : Type 0} where
  -- the table and the plan refuse alike
  record Alike (refusal : Option Fault) (x : Result A Fault) : Type 0 where
    fault : Fault
    told : refusal ≡ Some fault
    is : x ≡ Err fault

  alike : (early : Fault) (t : Bool) (s : Status) → Alike (fault_if t early (when_ready s (Some other_kind))) (refused_if t early (rested_by s (Err other_kind)))
  alike early true s = record { fault = early; told = refl; is = refl }
  alike early false down = record { fault = _; told = refl; is = refl }
  alike early false busy = record { fault = _; told = refl; is = refl }
  alike early false ready = record { fault = _; told = refl; is = refl }

module _ {X Y : Type 0} (own : Kind X) (other : Kind Y) (laws : KindLaws own) (apart : own.code ≡ other.code → ⊥)
    (d : Disk) (r : Reservoir X) (keeps : Keeps own d r) (page : List ℕ) where
  decode_other : (blocks : ℕ → Entry) → Holds own.code own.form blocks r → decode other.code other.reading blocks ≡ Err other_kind
  unfolding decode fault_in
  decode_other blocks holds =
      let n = counts_of r in
      let head = (parts_held own.code own.form blocks r holds).head in
      let ok = keeps.storable in
      let fault = ap (head_fault other.code) (ap bytes_of head)
      ∙ head_other own.code other.code n laws.known ok.lawful.ranges ok.countable apart in
      ap (λ f. unless_fault f (spelled other.reading blocks))
      (or_else_found _ _ _ other_kind (block_reads blocks 0 (head_of own.code n) head (head_is_block own.code n)) fault)

  -- ---- Store, Take and Report

  rested_other : (s : Status) → status_of d ≡ s →
      rested_by s (decode other.code other.reading (entry_at d)) ≡ rested_by s (Err other_kind)
  rested_other down e = refl
  rested_other busy e = refl
  rested_other ready e = decode_other (entry_at d) (ready_rests own keeps.stands e).0.holds

  rest_other : at_rest other.code other.reading d ≡ rested_by (status_of d) (Err other_kind)
  rest_other =
      rest_by other.code other.reading d keeps.large (stands_header own keeps.stands) ∙ rested_other (status_of d) refl

  then_other :
      {A : Type 0} (t : Bool) (next : Reservoir Y → Result A Fault) →
      refused_if t number_too_large (and_then (at_rest other.code other.reading d) next)
      ≡ refused_if t number_too_large (rested_by (status_of d) (Err other_kind))
  then_other t next =
      ap (λ x. refused_if t number_too_large (and_then x next)) rest_other
      ∙ ap (refused_if t number_too_large) (then_rested (status_of d) (Err other_kind) next)

  refused_law :
      {A : Type 0} {a : Result A Fault} {es : List Event} {d' : Disk} (q : Request Y) (answered : A → Answer) (plan : Result (Plan A) Fault) →
      Alike (other_refusal (status_of d) (length page) q) plan → Performed plan d a es d' →
      Outcome {Y = Y} own d page r (Other q) (result_map_both answered (λ f. f) a) es d' page × Keeps own d' r
  refused_law q answered plan k (calls.refused e) = (refused_other (k.told ∙ ap Some (err_same (sym k.is ∙ e))), keeps)
  refused_law q answered plan k (calls.done e run) = absurd (err_ok (sym k.is ∙ e))
  refused_law q answered plan k (calls.interrupted e run) = absurd (err_ok (sym k.is ∙ e))

  alike_as : {A : Type 0} {refusal : Option Fault} {x y : Result A Fault} → x ≡ y → Alike refusal y → Alike refusal x
  alike_as e k = record { fault = k.fault; told = k.told; is = e ∙ k.is }

  module _ (number : ℕ) where
    other_store :
        (item : Y) (words : ℕ → Option ℕ) →
        store_plan other.code other.form other.reading d number item words
        ≡ refused_if (ltb 32767 number) number_too_large (rested_by (status_of d) (Err other_kind))
    unfolding store_plan
    other_store item words = then_other (ltb 32767 number) _

    other_take :
        take_plan other.code other.form other.reading d number
        ≡ refused_if (ltb 32767 number) number_too_large (rested_by (status_of d) (Err other_kind))
    unfolding take_plan
    other_take = then_other (ltb 32767 number) _

    pub store_law :
        {a : Result StoreAnswer Fault} {es : List Event} {d' : Disk} (item : Y) (words : ℕ → Option ℕ) →
        Performed (store_plan other.code other.form other.reading d number item words) d a es d' →
        Outcome {Y = Y} own d page r (Other (Store number item words)) (result_map_both stored (λ f. f) a) es d' page × Keeps own d' r
    store_law item words call =
        refused_law (Store number item words) stored _
        (alike_as (other_store item words) (alike number_too_large (ltb 32767 number) (status_of d))) call

    pub take_law :
        {a : Result TakeAnswer Fault} {es : List Event} {d' : Disk} →
        Performed (take_plan other.code other.form other.reading d number) d a es d' →
        Outcome {Y = Y} own d page r (Other (Take number)) (result_map_both taken (λ f. f) a) es d' page × Keeps own d' r
    take_law call = refused_law (Take number) taken _ (alike_as other_take (alike number_too_large (ltb 32767 number) (status_of d))) call

  report_alike : Alike (other_refusal {Y = Y} (status_of d) (length page) Report) (reporting other d page)
  report_alike =
      alike_as (ap (refused_if (ltb (length page) 32768) too_short) rest_other) (alike too_short (ltb (length page) 32768) (status_of d))

  pub report_refused_lem : (f : Fault) → reporting other d page ≡ Err f → Outcome {Y = Y} own d page r (Other Report) (Err f) [] d page
  report_refused_lem f e = refused_other (report_alike.told ∙ ap Some (err_same (sym report_alike.is ∙ e)))

  pub report_never : (q : Reservoir Y) → reporting other d page ≡ Ok q → ⊥
  report_never q e = err_ok (sym report_alike.is ∙ e)

  -- ---- Open

  opens_other : StandsOn own d r → open_plan other.code other.reading d ≡ Err other_kind
  unfolding open_plan
  opens_other (resting s) =
      ap (opened_by other.code other.reading d) s.free ∙ then_refused _ other_kind _ (decode_other (entry_at d) s.holds)
  opens_other (torn u h) =
      ap (opened_by other.code other.reading d) u ∙ then_refused _ other_kind _ (decode_other (entry_at d) h)
  opens_other (pending p u i h a) =
      ap (opened_by other.code other.reading d) u
      ∙ ap (λ x. and_then (unless_fault x (tt {0})) (λ _. and_then (decode other.code other.reading (viewed d 2 p.blocks)) (λ r. finishing d p r))) i
      ∙ then_refused _ other_kind _ (decode_other (viewed d 2 p.blocks) h)

  answer_other : answering open_answer (open_plan other.code other.reading d) ≡ Err other_kind
  answer_other = ap (answering open_answer) (opens_other keeps.stands)

  online_law :
      {a : Result Opened Fault} {es : List Event} {d' : Disk} →
      Performed (answering open_answer (open_plan other.code other.reading d)) (turned d true) a es d' →
      Outcome {Y = Y} own d page r (Other Open) (result_map_both answer.Opened (λ f. f) a) (online_done ∷ es) d' page × Keeps own d' r
  online_law (calls.refused e) = (
    subst (λ f. Outcome {Y = Y} own d page r (Other Open) (Err f) (online_done ∷ []) (turned d true) page) (err_same (sym answer_other ∙ e)) (other_open refl),
    turned_keeps own true keeps,
  )
  online_law (calls.done e run) = absurd (err_ok (sym answer_other ∙ e))
  online_law (calls.interrupted e run) = absurd (err_ok (sym answer_other ∙ e))

  pub open_law :
      {a : Result Opened Fault} {es : List Event} {d' : Disk} →
      PerformedOnline (too_small d) (answering open_answer (open_plan other.code other.reading d)) d a es d' →
      Outcome {Y = Y} own d page r (Other Open) (result_map_both answer.Opened (λ f. f) a) es d' page × Keeps own d' r
  open_law (calls.refused_early e) = absurd (some_none (sym e ∙ not_small d keeps.large))
  open_law (calls.stayed_offline e) = (other_offline refl, turned_keeps own false keeps)
  open_law (calls.went_on e call) = online_law call
