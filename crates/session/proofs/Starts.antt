-- How a run begins: a Make that is done leaves an empty register, and an Open that is done leaves the register that it found.
-- Assumes nothing.
use Rattle.std.proofs.Common.{◌≡◌, ℕ, ◌≤◌, Bool, true, false, cond, ◌&&◌, ltb, leb, List, length, replicate, Some, None, Ok, Err, Option, Result, sym, refl, ap, ◌∙◌, subst, arith}
use Rattle.std.proofs.lemmas.Bool.{and_parts, leb-true, ltb-false}
use Rattle.fault.specs.Refusals.{bad_capacity, too_few_blocks}
use Rattle.fault.specs.declared.Fault.{Fault}
use Rattle.device.specs.Disk.{Disk, Event, write_done, blocks, entry_at, turned}
use Rattle.pairing.specs.Reservoir.{Reservoir, empty}
use Rattle.journal.specs.Header.{header_of}
use Rattle.journal.specs.Writes.{Ran, landed}
use Rattle.journal.specs.declared.headers.Header.{Header}
use Rattle.journal.specs.declared.headers.Header.TheVariants as header
use Rattle.journal.proofs.Writes.{ran_blocks, ran_ok}
use Rattle.layout.specs.Laws.{Storable, ReadsExactly}
use Rattle.layout.specs.Reading.{decode, block_fault, first_of}
use Rattle.layout.proofs.Faults.{ok_none}
use Rattle.layout.proofs.LayoutLaws.{reads_exactly}
use Rattle.plans.specs.Calls as calls
use Rattle.plans.specs.Calls.{Performed, PerformedOnline}
use Rattle.plans.specs.Plans.{Plan, Finding, and_then, answering, open_answer, open_plan, found, agrees, too_small, make_writes, make_refusal, make_plan}
use Rattle.plans.specs.Recovery.{resting, torn, pending}
use Rattle.plans.specs.Views.{viewed}
use Rattle.plans.specs.declared.Opened.{Opened}
use Rattle.plans.proofs.Finds.{found_in, found_is}
use Rattle.plans.proofs.MakeLaws.{makes}
use Rattle.plans.proofs.Opening.{ok_same}
use Rattle.plans.proofs.Standing.{err_ok}
use Rattle.session.specs.Calls.{Kind}
use Rattle.session.specs.Law.{Made}
use Rattle.session.specs.Runs.{Keeps, KindLaws}
use Rattle.session.proofs.OwnOpen.{turned_keeps, plan_turned}
use Rattle.session.proofs.Statuses.{StandsOn, RestsOn, recovery, some_none}

-- ---- answers

then_ok :
    {A B : Type 0} (x : Result A Fault) (next : A → Result B Fault) (b : B) → and_then x next ≡ Ok b →
    (a : A) × (x ≡ Ok a) × (next a ≡ Ok b)
then_ok (Ok a) next b h = (a, refl, h)
then_ok (Err f) next b h = absurd (err_ok h)

cond_ok : {A : Type 0} (t : Bool) (a b : A) (f : Fault) → cond t (Ok a) (Err f) ≡ Ok b → (t ≡ true) × (a ≡ b)
cond_ok true a b f h = (refl, ok_same h)
cond_ok false a b f h = absurd (err_ok h)

cond_none : (t : Bool) (f : Fault) (later : Option Fault) → cond t (Some f) later ≡ None → (t ≡ false) × (later ≡ None)
cond_none true f later h = absurd (some_none h)
cond_none false f later h = (refl, h)

cond_else : (t : Bool) (f : Fault) (later : Option Fault) → cond t later (Some f) ≡ None → (t ≡ true) × (later ≡ None)
cond_else true f later h = (refl, h)
cond_else false f later h = absurd (some_none h)

large_enough : (d : Disk) → too_small d ≡ None → 78 ≤ blocks d
large_enough d e = ltb-false (blocks d) 78 (cond_none (ltb (blocks d) 78) (too_few_blocks (blocks d)) None e).0

-- ---- Open

module _ {X : Type 0} (own : Kind X) (laws : KindLaws own) where
  exactly : ReadsExactly own.code own.form own.reading
  exactly = reads_exactly own.code own.form own.reading laws.known laws.sized laws.bounded laws.round laws.exact

  stands_by :
      (d : Disk) (r : Reservoir X) (h : Header) → header_of (entry_at d 1) ≡ h → found_in own.code own.reading (entry_at d) h ≡ Ok r →
      StandsOn own d r × Storable r
  stands_by d r header.Free u e = let q = exactly (entry_at d) r e in (resting (record { free = u; holds = q.1 }), q.0)
  stands_by d r header.Unreadable u e = let q = exactly (entry_at d) r e in (torn u q.1, q.0)
  stands_by d r (header.Pending p) u e =
      let images = then_ok _ _ r e in
      let clean = (ok_none (first_of (block_fault (entry_at d)) 2 4) (tt {0}) images.0 images.1).0 in
      let read = then_ok (decode own.code own.reading (viewed d 2 p.blocks)) _ r images.2 in
      let agree = cond_ok (agrees p read.0) read.0 r _ read.2 in
      let q = exactly (viewed d 2 p.blocks) read.0 read.1 in
      subst (λ r. StandsOn own d r × Storable r) agree.1 (pending p u clean q.1 agree.0, q.0)
  stands_by d r header.Unlawful u e = absurd (err_ok e)
  stands_by d r header.Other u e = absurd (err_ok e)

  -- what Open would find, stands
  pub found_stands : (d : Disk) (r : Reservoir X) → found own.code own.reading d ≡ Ok r → StandsOn own d r × Storable r
  found_stands d r e = stands_by d r (header_of (entry_at d 1)) refl (sym (found_is own.code own.reading d) ∙ e)

  found_plan : (d : Disk) (p : Plan (Finding X)) → open_plan own.code own.reading d ≡ Ok p → found own.code own.reading d ≡ Ok p.answer.reservoir
  unfolding found
  found_plan d p e = ap (λ x. and_then x (λ plan. Ok plan.answer.reservoir)) e

  -- an Open that is done
  pub record Resumes (d d₁ : Disk) : Type 0 where
    pub reservoir : Reservoir X
    pub found : found own.code own.reading d ≡ Ok reservoir
    pub rests : RestsOn own d₁ reservoir
    pub keeps : Keeps own d₁ reservoir

  resumes_by :
      {d d₁ : Disk} {es : List Event} (p : Plan (Finding X)) → 78 ≤ blocks d → open_plan own.code own.reading d ≡ Ok p →
      Ran p.writes (turned d true) (Ok tt) es d₁ → Resumes d d₁
  resumes_by {d} {d₁} {es} p large is run =
      let r = p.answer.reservoir in
      let f = found_plan d p is in
      let s = found_stands d r f in
      let on = turned_keeps own true (record { stands = s.0; storable = s.1; large = large }) in
      let call : Performed (open_plan own.code own.reading (turned d true)) (turned d true) (Ok p.answer) es d₁ =
      calls.done (plan_turned own.code own.reading d true ∙ is) run in
      let q = (recovery own laws).opens (turned d true) d₁ r (Ok p.answer) es s.1 on.stands large call in
      record {
        reservoir = r;
        found = f;
        rests = (q.1 p.answer refl).1;
        keeps = record { stands = q.0; storable = s.1; large = omega (arith, large, ran_blocks run) };
      }

  pub resumes :
      {d d₁ : Disk} {o : Opened} {es : List Event} →
      PerformedOnline (too_small d) (answering open_answer (open_plan own.code own.reading d)) d (Ok o) es d₁ → Resumes d d₁
  resumes {d} {d₁} (calls.went_on e (calls.done {p = q} {es = es} k run)) =
      let opened = then_ok (open_plan own.code own.reading d) _ q k in
      resumes_by opened.0 (large_enough d e) opened.1
      (subst (λ ws. Ran ws (turned d true) (Ok tt) es d₁) (sym (ap (λ p. p.writes) (ok_same opened.2))) run)

-- ---- Make

made_long : (code m : ℕ) → length (make_writes code m) ≡ 75
unfolding make_writes
made_long code m = refl

module _ {X Y : Type 0} (own : Kind X) (other : Kind Y) where
  pub made :
      {d d₁ : Disk} {u : Unit {0}} {es : List Event} (m : ℕ) →
      PerformedOnline (make_refusal m d) (make_plan own.code m) d (Ok u) es d₁ → Made own other d₁ m × Keeps own d₁ (empty m)
  made {d} {d₁} m (calls.went_on e (calls.done {p = q} {es = es} k run)) =
      let allowed = cond_else (leb 1 m && leb m 512) bad_capacity (too_small d) e in
      let limits = and_parts (leb 1 m) (leb m 512) allowed.0 in
      let low = leb-true 1 m limits.0 in
      let high = leb-true m 512 limits.1 in
      let large = large_enough d allowed.1 in
      let ran : Ran (make_writes own.code m) (turned d true) (Ok tt) es d₁ =
      subst (λ ws. Ran ws (turned d true) (Ok tt) es d₁) (sym (ap (λ p. p.writes) (ok_same k))) run in
      let told = ran_ok ran in
      let last : landed 75 es ≡ true = ap (landed 75) (told.events ∙ ap (λ n. replicate n write_done) (made_long own.code m)) in
      let q = (makes own.code own.form own.reading).done (turned d true) d₁ m (Ok tt) es low high large ran last in
      let wide : 78 ≤ blocks d₁ = omega (arith, large, ran_blocks ran) in (
        record { rests = q.0; online = told.kept; large = wide; least = low; most = high },
        record { stands = resting q.0; storable = q.1; large = wide },
      )
