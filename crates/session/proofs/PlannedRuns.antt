-- Runs of writes by a failure plan: there is one, and only one.
-- Assumes nothing.
use Rattle.std.proofs.Common.{◌≡◌, ℕ, ◌+◌, Bool, true, false, ltb, List, [], ◌∷◌, ◌++◌, Some, None, Ok, Err, Option, Result, sym, refl, ap, ◌∙◌, subst, arith}
use Rattle.std.proofs.lemmas.Bool.{both_ways, ltb-true, ltb-false}
use Rattle.fault.specs.declared.Fault.{Fault}
use Rattle.device.specs.declared.DeviceError.{DeviceError}
use Rattle.device.specs.declared.Remains.{Remains}
use Rattle.device.specs.Disk.{Disk, blocks, put, Event, write_done, write_lost, online_done, online_refused, Wrote}
use Rattle.device.specs.Disk.{outside, offline, done, lost}
use Rattle.device.proofs.Disk.{wrote_same}
use Rattle.journal.specs.declared.Write.{Write}
use Rattle.journal.specs.Writes.{Ran, finished, goes_on, stops}
use Rattle.journal.proofs.Writes.{ran_same}
use Rattle.session.specs.Failures.{Plan, ByPlan}
use Rattle.session.specs.Failures as planned

-- ---- options

pub some_none : {A : Type 0} {x : A} → ◌≡◌ {A = Option A} (Some x) None → ⊥
some_none h = let z : ◌≡◌ {A = ℕ} 0 1 = cc in omega arith

pub some_same : {A : Type 0} {x y : A} → ◌≡◌ {A = Option A} (Some x) (Some y) → x ≡ y
some_same h = cc

-- ---- the counters after events

abbrev pub writes_after : ℕ → List Event → ℕ
writes_after w [] = w
writes_after w (write_done ∷ es) = writes_after (w + 1) es
writes_after w (write_lost m ∷ es) = writes_after (w + 1) es
writes_after w (online_done ∷ es) = writes_after w es
writes_after w (online_refused ∷ es) = writes_after w es

abbrev pub tries_after : ℕ → List Event → ℕ
tries_after o [] = o
tries_after o (write_done ∷ es) = tries_after o es
tries_after o (write_lost m ∷ es) = tries_after o es
tries_after o (online_done ∷ es) = tries_after (o + 1) es
tries_after o (online_refused ∷ es) = tries_after (o + 1) es

module _ {plan : Plan} where
  pub plan_append :
      {w o : ℕ} {es fs : List Event} → ByPlan plan w o es → ByPlan plan (writes_after w es) (tries_after o es) fs → ByPlan plan w o (es ++ fs)
  plan_append planned.end q = q
  plan_append (planned.done e p) q = planned.done e (plan_append p q)
  plan_append (planned.lost e p) q = planned.lost e (plan_append p q)
  plan_append (planned.online e p) q = planned.online e (plan_append p q)
  plan_append (planned.offline e p) q = planned.offline e (plan_append p q)

  pub plan_front : (es fs : List Event) {w o : ℕ} → ByPlan plan w o (es ++ fs) → ByPlan plan w o es
  plan_front [] fs p = planned.end
  plan_front (write_done ∷ es) fs (planned.done e p) = planned.done e (plan_front es fs p)
  plan_front (write_lost m ∷ es) fs (planned.lost e p) = planned.lost e (plan_front es fs p)
  plan_front (online_done ∷ es) fs (planned.online e p) = planned.online e (plan_front es fs p)
  plan_front (online_refused ∷ es) fs (planned.offline e p) = planned.offline e (plan_front es fs p)

  pub plan_behind :
      (es : List Event) {w o : ℕ} {fs : List Event} → ByPlan plan w o (es ++ fs) → ByPlan plan (writes_after w es) (tries_after o es) fs
  plan_behind [] p = p
  plan_behind (write_done ∷ es) (planned.done e p) = plan_behind es p
  plan_behind (write_lost m ∷ es) (planned.lost e p) = plan_behind es p
  plan_behind (online_done ∷ es) (planned.online e p) = plan_behind es p
  plan_behind (online_refused ∷ es) (planned.offline e p) = plan_behind es p

  -- ---- only one run

  module _ {w o : ℕ} {d : Disk} {b : ℕ} {new : List ℕ} where
    -- a write is not both done and refused
    done_apart :
        {x : DeviceError} {es fs : List Event} {d₁ d₂ : Disk} → Wrote d b new (Ok tt) (write_done ∷ []) d₁ → Wrote d b new (Err x) fs d₂ →
        ByPlan plan w o (write_done ∷ es) → ByPlan plan w o fs → ⊥
    done_apart (done h x) (outside k) p q = omega arith
    done_apart (done h x) (offline k y) p q = both_ways _ y x
    done_apart (done h x) (lost n k y) (planned.done e p) (planned.lost f q) = some_none (sym f ∙ e)

    -- two refused writes have the same events
    refused_alike :
        {x y : DeviceError} {es fs : List Event} {d₁ d₂ : Disk} → Wrote d b new (Err x) es d₁ → Wrote d b new (Err y) fs d₂ → ByPlan plan w o es →
        ByPlan plan w o fs → es ≡ fs
    refused_alike (outside h) (outside k) p q = refl
    refused_alike (outside h) (offline k y) p q = refl
    refused_alike (outside h) (lost n k y) p q = absurd (omega arith)
    refused_alike (offline h x) (outside k) p q = refl
    refused_alike (offline h x) (offline k y) p q = refl
    refused_alike (offline h x) (lost n k y) p q = absurd (both_ways _ x y)
    refused_alike (lost m h x) (outside k) p q = absurd (omega arith)
    refused_alike (lost m h x) (offline k y) p q = absurd (both_ways _ y x)
    refused_alike (lost m h x) (lost n k y) (planned.lost e p) (planned.lost f q) = ap (λ m. write_lost m ∷ []) (some_same (sym e ∙ f))

  ran_alike :
      {ws : List Write} {w o : ℕ} {d d₁ d₂ : Disk} {a b : Result (Unit {0}) Fault} {es fs : List Event} → Ran ws d a es d₁ →
      Ran ws d b fs d₂ → ByPlan plan w o es → ByPlan plan w o fs → es ≡ fs
  ran_alike finished finished p q = refl
  ran_alike (goes_on {ws = ws} {d' = d₁} {a = a} {es = es} h r) (goes_on k s) (planned.done e p) (planned.done f q) =
      ap (λ l. write_done ∷ l) (ran_alike (subst (λ x. Ran ws x a es d₁) (wrote_same h k).1 r) s p q)
  ran_alike (goes_on h r) (stops k) p q = absurd (done_apart h k p q)
  ran_alike (stops h) (goes_on k s) p q = absurd (done_apart k h q p)
  ran_alike (stops h) (stops k) p q = refused_alike h k p q

  -- the plan decides the events, the answer and the disk
  pub ran_once :
      {ws : List Write} {w o : ℕ} {d d₁ d₂ : Disk} {a b : Result (Unit {0}) Fault} {es fs : List Event} → Ran ws d a es d₁ →
      Ran ws d b fs d₂ → ByPlan plan w o es → ByPlan plan w o fs → (es ≡ fs) × (a ≡ b) × (d₁ ≡ d₂)
  ran_once {ws} {d = d} {d₁ = d₁} {a = a} r s p q =
      let e = ran_alike r s p q in
      let k = ran_same (subst (λ l. Ran ws d a l d₁) e r) s in
      (e, k.0, k.1)

-- ---- a run

-- what a relation of an answer, events and a disk allows by the plan
pub record By (plan : Plan) (w o : ℕ) {A : Type 0} (allowed : A → List Event → Disk → Type 0) : Type 0 where
  pub answer : A
  pub events : List Event
  pub disk : Disk
  pub is : allowed answer events disk
  pub planned : ByPlan plan w o events

module _ (plan : Plan) where
  ran_first :
      (w o : ℕ) (v : Write) (ws : List Write) (d : Disk) (has on : Bool) → ltb v.block (blocks d) ≡ has → d.online ≡ on →
      (remains : Option Remains) → plan.lost (w + 1) ≡ remains →
      By plan (w + 1) o (Ran ws (put d v.block (Some v.bytes))) → By plan w o (Ran (v ∷ ws) d)
  ran_first w o v ws d false on h k remains e rest =
      record { answer = _; events = []; disk = d; is = stops (outside (ltb-false v.block (blocks d) h)); planned = planned.end }
  ran_first w o v ws d true false h k remains e rest =
      record { answer = _; events = []; disk = d; is = stops (offline (ltb-true v.block (blocks d) h) k); planned = planned.end }
  ran_first w o v ws d true true h k (Some m) e rest = record {
    answer = _;
    events = write_lost m ∷ [];
    disk = _;
    is = stops (lost m (ltb-true v.block (blocks d) h) k);
    planned = planned.lost e planned.end;
  }
  ran_first w o v ws d true true h k None e rest = record {
    answer = rest.answer;
    events = write_done ∷ rest.events;
    disk = rest.disk;
    is = goes_on (done (ltb-true v.block (blocks d) h) k) rest.is;
    planned = planned.done e rest.planned;
  }

  pub ran_by : (ws : List Write) (w o : ℕ) (d : Disk) → By plan w o (Ran ws d)
  ran_by [] w o d = record { answer = Ok tt; events = []; disk = d; is = finished; planned = planned.end }
  ran_by (v ∷ ws) w o d =
      ran_first w o v ws d _ _ refl refl _ refl (ran_by ws (w + 1) o (put d v.block (Some v.bytes)))
