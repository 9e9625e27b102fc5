-- An Open for the register's own kind.
-- Assumes nothing.
use Rattle.std.proofs.Common.{◌≡◌, ℕ, ◌+◌, ◌<◌, ◌≤◌, Bool, true, false, cond, List, [], ◌∷◌, length, Some, None, Ok, Err, Option, Result, sym, refl, ap, ◌∙◌, subst, arith}
use Rattle.std.specs.Result.{result_map_both}
use Rattle.fault.specs.Refusals.{not_register}
use Rattle.fault.specs.declared.Damage.TheVariants as damage
use Rattle.fault.specs.declared.Fault.{Fault}
use Rattle.device.specs.Disk.{Disk, Event, online_done, blocks, entry_at, turned}
use Rattle.pairing.specs.Reservoir.{Reservoir}
use Rattle.pairing.specs.Steps.{counts_of}
use Rattle.journal.specs.Header.{free_bytes, header_of}
use Rattle.journal.specs.Writes.{Ran, Inside, write_at, replay_writes}
use Rattle.journal.specs.declared.headers.Header.{Header}
use Rattle.journal.specs.declared.headers.Header.TheVariants as header
use Rattle.journal.proofs.Writes.{ran_blocks, ran_ok}
use Rattle.layout.specs.Layout.{Laid}
use Rattle.layout.specs.Reading.{bytes_of, block_fault, first_of, unless_fault, decode}
use Rattle.plans.specs.Calls as calls
use Rattle.plans.specs.Calls.{Performed, PerformedOnline}
use Rattle.plans.specs.Plans.{Plan, Finding, and_then, answering, open_answer, agrees, pending_changes, opened_by, open_plan, too_small}
use Rattle.plans.specs.Recovery.{resting, torn, pending}
use Rattle.plans.specs.Views.{viewed}
use Rattle.plans.specs.declared.Opened.{Opened}
use Rattle.plans.proofs.Opening.{ok_same, free_plan, torn_plan, pending_plan}
use Rattle.plans.proofs.Standing.{err_ok, header_four}
use Rattle.plans.proofs.Viewing.{Four, four}
use Rattle.session.specs.Calls.{Kind, Open, Own}
use Rattle.session.specs.Runs.{Keeps, KindLaws}
use Rattle.session.specs.Steps.{Outcome, open_done, open_refused, open_lost, owed, finished_on}
use Rattle.session.specs.declared.Answer.TheVariants as answer
use Rattle.session.proofs.Asking.{asked_done, asked_lost}
use Rattle.session.proofs.Commits.{laid_low}
use Rattle.session.proofs.Statuses.{StandsOn, RestsOn, back, recovery, not_small, some_none, stands_turned}

-- ---- the five writes of a replay

replay_long : (d : Disk) {ts : List ℕ} → Four ts → length (replay_writes (pending_changes d 2 ts)) ≡ 5
replay_long d (four t₀ t₁ t₂ t₃ l₀ l₁ l₂ l₃) = refl

replay_inside : (d e : Disk) {ts : List ℕ} → Four ts → 78 ≤ blocks e → Inside (replay_writes (pending_changes d 2 ts)) e
replay_inside d e (four t₀ t₁ t₂ t₃ l₀ l₁ l₂ l₃) large =
    let n = blocks e in
    let low : (t : ℕ) → Laid t → t < n = (λ t l. laid_low t n l large) in
    (low t₀ l₀, (low t₁ l₁, (low t₂ l₂, (low t₃ l₃, (omega arith, tt)))))

-- ---- a disk that was turned online has the same blocks

pub turned_keeps : {X : Type 0} (kind : Kind X) {d : Disk} {r : Reservoir X} (o : Bool) → Keeps kind d r → Keeps kind (turned d o) r
turned_keeps kind o k = record { stands = stands_turned kind o k.stands; storable = k.storable; large = k.large }

changes_turned : (d : Disk) (o : Bool) (first : ℕ) (ts : List ℕ) → pending_changes (turned d o) first ts ≡ pending_changes d first ts
changes_turned d o first [] = refl
changes_turned d o first (t ∷ ts) = ap (λ ws. write_at t (bytes_of (entry_at d first)) ∷ ws) (changes_turned d o (first + 1) ts)

opened_turned :
    {X : Type 0} (code : ℕ) (reading : List ℕ → Option X) (d : Disk) (o : Bool) (h : Header) →
    opened_by code reading (turned d o) h ≡ opened_by code reading d h
opened_turned code reading d o header.Free = refl
opened_turned code reading d o header.Unreadable = refl
opened_turned code reading d o (header.Pending p) =
    ap (λ ws.
    and_then (unless_fault (first_of (block_fault (entry_at d)) 2 4) (tt {0})) (λ _.
    and_then (decode code reading (viewed d 2 p.blocks)) (λ r.
    cond (agrees p r)
    (Ok (record { answer = record { reservoir = r; finished = Some p }; writes = replay_writes ws }))
    (Err (not_register 1 damage.Disagreement)))))
    (changes_turned d o 2 p.blocks)
opened_turned code reading d o header.Unlawful = refl
opened_turned code reading d o header.Other = refl

pub plan_turned :
    {X : Type 0} (code : ℕ) (reading : List ℕ → Option X) (d : Disk) (o : Bool) →
    open_plan code reading (turned d o) ≡ open_plan code reading d
unfolding open_plan
plan_turned code reading d o = opened_turned code reading d o (header_of (entry_at d 1))

module _ {X : Type 0} (own : Kind X) (laws : KindLaws own) (d : Disk) (r : Reservoir X) (keeps : Keeps own d r) where
  abbrev opened : Opened
  opened = record { counts = counts_of r; finished = finished_on (header_of (entry_at d 1)) }

  -- what Open plans: so many writes as the header is owed, and the answer
  record Opens : Type 0 where
    plan : Plan (Finding X)
    is : open_plan own.code own.reading d ≡ Ok plan
    long : length plan.writes ≡ owed (header_of (entry_at d 1))
    inside : Inside plan.writes d
    answers : open_answer plan.answer ≡ opened

  opens_by : StandsOn own d r → Opens
  opens_by (resting s) = record {
    plan = record { answer = record { reservoir = r; finished = None }; writes = [] };
    is = free_plan own.code own.form own.reading (back own laws) d r s.free (back own laws (entry_at d) r keeps.storable s.holds);
    long = sym (ap owed s.free);
    inside = tt;
    answers = ap (λ h. record { counts = counts_of r; finished = finished_on h }) (sym s.free);
  }
  opens_by (torn u h) = record {
    plan = record { answer = record { reservoir = r; finished = None }; writes = write_at 1 free_bytes ∷ [] };
    is = torn_plan own.code own.form own.reading (back own laws) d r u (back own laws (entry_at d) r keeps.storable h);
    long = sym (ap owed u);
    inside = (let large = keeps.large in omega (arith, large), tt);
    answers = ap (λ h. record { counts = counts_of r; finished = finished_on h }) (sym u);
  }
  opens_by (pending p u i h a) =
      let targets = header_four (entry_at d 1) p u in
      record {
        plan = record { answer = record { reservoir = r; finished = Some p }; writes = replay_writes (pending_changes d 2 p.blocks) };
        is = pending_plan own.code own.form own.reading (back own laws) d p r u i
            (back own laws (viewed d 2 p.blocks) r keeps.storable h) a;
        long = replay_long d targets ∙ sym (ap owed u);
        inside = replay_inside d d targets keeps.large;
        answers = ap (λ h. record { counts = counts_of r; finished = finished_on h }) (sym u);
      }

  opens : Opens
  opens = opens_by keeps.stands

  planned :
      answering open_answer (open_plan own.code own.reading d)
      ≡ Ok (record { answer = opened; writes = opens.plan.writes })
  planned = ap (answering open_answer) opens.is ∙ ap (λ x. Ok (record { answer = x; writes = opens.plan.writes })) opens.answers

  same_plan : open_plan own.code own.reading (turned d true) ≡ Ok opens.plan
  same_plan = plan_turned own.code own.reading d true ∙ opens.is

  after_done :
      {es : List Event} {d' : Disk} → Ran opens.plan.writes (turned d true) (Ok tt) es d' →
      RestsOn own d' r × Keeps own d' r
  after_done {es} {d'} run =
      let on = turned_keeps own true keeps in
      let call : Performed (open_plan own.code own.reading (turned d true)) (turned d true) (Ok opens.plan.answer) es d' = calls.done same_plan run in
      let q = (recovery own laws).opens (turned d true) d' r (Ok opens.plan.answer) es keeps.storable on.stands on.large call in
      let large = keeps.large in
      ((q.1 opens.plan.answer refl).1, record { stands = q.0; storable = keeps.storable; large = omega (arith, large, ran_blocks run) })

  after_lost :
      {x : Fault} {es : List Event} {d' : Disk} → Ran opens.plan.writes (turned d true) (Err x) es d' → Keeps own d' r
  after_lost {x} {es} {d'} run =
      let on = turned_keeps own true keeps in
      let call : Performed (open_plan own.code own.reading (turned d true)) (turned d true) (Err x) es d' = calls.interrupted same_plan run in
      let q = (recovery own laws).opens (turned d true) d' r (Err x) es keeps.storable on.stands on.large call in
      let large = keeps.large in
      record { stands = q.0; storable = keeps.storable; large = omega (arith, large, ran_blocks run) }

  module _ {Y : Type 0} (page : List ℕ) where
    online_law :
        {a : Result Opened Fault} {es : List Event} {d' : Disk} →
        Performed (answering open_answer (open_plan own.code own.reading d)) (turned d true) a es d' →
        Outcome {Y = Y} own d page r (Own Open) (result_map_both answer.Opened (λ f. f) a) (online_done ∷ es) d' page × Keeps own d' r
    online_law (calls.refused e) = absurd (err_ok (sym e ∙ planned))
    online_law {es = es} {d' = d'} (calls.done {p = q} e run) =
        let is = ok_same (sym e ∙ planned) in
        let ran : Ran opens.plan.writes (turned d true) (Ok tt) es d' = subst (λ p. Ran p.writes (turned d true) (Ok tt) es d') is run in
        let after = after_done ran in (
          subst (λ x. Outcome {Y = Y} own d page r (Own Open) (Ok (answer.Opened x)) (online_done ∷ es) d' page) (sym (ap (λ p. p.answer) is))
              (open_done (asked_done (owed (header_of (entry_at d 1))) opens.long ran) after.0 (ran_ok ran).kept),
          after.1,
        )
    online_law {es = es} {d' = d'} (calls.interrupted {p = q} {f = x} e run) =
        let is = ok_same (sym e ∙ planned) in
        let ran : Ran opens.plan.writes (turned d true) (Err x) es d' = subst (λ p. Ran p.writes (turned d true) (Err x) es d') is run in
        let m = asked_lost (owed (header_of (entry_at d 1))) opens.long opens.inside refl ran in (
          subst (λ x. Outcome {Y = Y} own d page r (Own Open) (Err x) (online_done ∷ es) d' page) (sym m.answer) (open_lost m.asked),
          after_lost ran,
        )

    pub open_law :
        {a : Result Opened Fault} {es : List Event} {d' : Disk} →
        PerformedOnline (too_small d) (answering open_answer (open_plan own.code own.reading d)) d a es d' →
        Outcome {Y = Y} own d page r (Own Open) (result_map_both answer.Opened (λ f. f) a) es d' page × Keeps own d' r
    open_law (calls.refused_early e) = absurd (some_none (sym e ∙ not_small d keeps.large))
    open_law (calls.stayed_offline e) = (open_refused refl, turned_keeps own false keeps)
    open_law (calls.went_on e call) = online_law call
