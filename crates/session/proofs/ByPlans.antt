-- Sessions by a failure plan: there is one, and only one.
-- Assumes nothing.
use Rattle.std.proofs.Common.{◌≡◌, ℕ, List, [], ◌∷◌, map, sym, refl, ap, ◌∙◌, subst, arith}
use Rattle.device.specs.Disk.{Disk, Event}
use Rattle.pairing.specs.Reservoir.{Reservoir, empty}
use Rattle.pairing.proofs.Lawfulness.{empty_lawful}
use Rattle.plans.specs.Recovery.{resting}
use Rattle.session.specs.Calls.{Kind, Call, Reply, DidCall}
use Rattle.session.specs.Failures.{Plan, ByPlan}
use Rattle.session.specs.Failures as planned
use Rattle.session.specs.Law.{Made, Session, Agree, drawing_call, words_of, joined_events}
use Rattle.session.specs.Runs.{Keeps}
use Rattle.session.specs.Steps.{Step, Steps, none, next, after}
use Rattle.session.proofs.PlannedCalls.{call_once, call_by}
use Rattle.session.proofs.PlannedRuns.{writes_after, tries_after, plan_append, plan_front, plan_behind}

-- ---- only one session

-- what two sequences of calls agree in
pub record Same {X : Type 0} (replies₁ replies₂ : List Reply) (events₁ events₂ : List (List Event)) (d₁ d₂ : Disk) (page₁ page₂ : List ℕ)
    (r₁ r₂ : Reservoir X) : Type 0 where
  pub replies : replies₁ ≡ replies₂
  pub events : events₁ ≡ events₂
  pub disk : d₁ ≡ d₂
  pub filled : page₁ ≡ page₂
  pub reservoir : r₁ ≡ r₂

module _ {X Y : Type 0} {own : Kind X} {other : Kind Y} {plan : Plan} where
  pub steps_once :
      {d d₁ d₂ : Disk} {page page₁ page₂ : List ℕ} {r r₁ r₂ : Reservoir X} {cs : List (Call X Y)} {replies₁ replies₂ : List Reply}
      {events₁ events₂ : List (List Event)} {w o : ℕ} → Steps own other d page r cs replies₁ events₁ d₁ page₁ r₁ →
      Steps own other d page r cs replies₂ events₂ d₂ page₂ r₂ → ByPlan plan w o (joined_events events₁) →
      ByPlan plan w o (joined_events events₂) → Same replies₁ replies₂ events₁ events₂ d₁ d₂ page₁ page₂ r₁ r₂
  steps_once none none p q = record { replies = refl; events = refl; disk = refl; filled = refl; reservoir = refl }
  steps_once {w = w} {o = o}
      (next {d' = d₁} {page' = page₁} {r = r} {r' = r₁} {c = c} {cs = cs} {replies = replies} {es = es} {ess = ess} s ss)
      (next {es = fs} {ess = fss} t ts) p q =
      let k = call_once s.did t.did (plan_front es (joined_events ess) p) (plan_front fs (joined_events fss) q) in
      let left = s.follows ∙ ap (λ l. after c l r) k.events ∙ sym t.follows in
      let rest = steps_once
      (subst {A = Disk × List ℕ × Reservoir X} (λ z. Steps own other z.0 z.1 z.2 cs replies ess d₁ page₁ r₁)
      (λ i. (k.disks i, k.pages i, left i)) ss)
      ts (plan_behind es p)
      (subst (λ l. ByPlan plan (writes_after w l) (tries_after o l) (joined_events fss)) (sym k.events) (plan_behind fs q)) in
      record {
        replies = λ i. k.answers i ∷ rest.replies i;
        events = λ i. k.events i ∷ rest.events i;
        disk = rest.disk;
        filled = rest.filled;
        reservoir = rest.reservoir;
      }

  pub unique :
      (tape : List ℕ) (d : Disk) (page : List ℕ) (m : ℕ) (calls : List (Call X Y)) (s t : Session own other plan tape d page m calls) →
      Agree own other s t
  unique tape d page m calls s t =
      let k = steps_once s.steps t.steps s.planned t.planned in
      record { replies = k.replies; events = k.events; reservoir = k.reservoir; disk = k.disk }

-- ---- a session

-- after a Make the empty register stands
pub made_keeps : {X Y : Type 0} (own : Kind X) (other : Kind Y) {d : Disk} {m : ℕ} → Made own other d m → Keeps own d (empty m)
made_keeps own other {m = m} made = record {
  stands = resting made.rests;
  storable = record { lawful = empty_lawful m made.least made.most; countable = omega arith };
  large = made.large;
}

-- the calls by the plan, after w writes and o attempts
pub record StepsBy {X Y : Type 0} (own : Kind X) (other : Kind Y) (plan : Plan) (w o : ℕ) (d : Disk) (page : List ℕ) (r : Reservoir X)
    (cs : List (Call X Y)) : Type 0 where
  pub replies : List Reply
  pub events : List (List Event)
  pub disk : Disk
  pub filled : List ℕ
  pub reservoir : Reservoir X
  pub steps : Steps own other d page r cs replies events disk filled reservoir
  pub planned : ByPlan plan w o (joined_events events)
  pub keeps : Keeps own disk reservoir

-- where each call, whatever it did, is a step that keeps the register standing
module _ {X Y : Type 0} (own : Kind X) (other : Kind Y)
    (steps_on :
    (d d' : Disk) (page page' : List ℕ) (r : Reservoir X) (c : Call X Y) (a : Reply) (es : List Event) → Keeps own d r →
    DidCall own other d page c a es d' page' → Step own other d page r c a es d' page' (after c es r) × Keeps own d' (after c es r))
    (plan : Plan) where
  pub steps_by :
      (cs : List (Call X Y)) (w o : ℕ) (d : Disk) (page : List ℕ) (r : Reservoir X) → Keeps own d r →
      StepsBy own other plan w o d page r cs
  steps_by [] w o d page r h =
      record { replies = []; events = []; disk = d; filled = page; reservoir = r; steps = none; planned = planned.end; keeps = h }
  steps_by (c ∷ cs) w o d page r h =
      let k = call_by plan w o own other d page c in
      let es = k.events in
      let on = steps_on d k.disk page k.answer.1 r c k.answer.0 es h k.is in
      let rest = steps_by cs (writes_after w es) (tries_after o es) k.disk k.answer.1 (after c es r) on.1 in
      record {
        replies = k.answer.0 ∷ rest.replies;
        events = es ∷ rest.events;
        disk = rest.disk;
        filled = rest.filled;
        reservoir = rest.reservoir;
        steps = next on.0 rest.steps;
        planned = plan_append k.planned rest.planned;
        keeps = rest.keeps;
      }

  pub exists :
      (tape : List ℕ) (d : Disk) (page : List ℕ) (m : ℕ) (calls : List (Call X Y)) → Made own other d m →
      Session own other plan tape d page m calls
  exists tape d page m calls made =
      let k = steps_by (map (drawing_call (words_of tape)) calls) 0 0 d page (empty m) (made_keeps own other made) in
      record {
        replies = k.replies;
        events = k.events;
        disk = k.disk;
        filled = k.filled;
        reservoir = k.reservoir;
        steps = k.steps;
        planned = k.planned;
      }
