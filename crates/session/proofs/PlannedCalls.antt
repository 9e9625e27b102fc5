-- Calls by a failure plan: there is one, and only one.
-- Assumes nothing.
use Rattle.std.proofs.Common.{◌≡◌, ℕ, ◌+◌, Bool, true, false, List, [], ◌∷◌, Some, None, Ok, Err, Option, Result, sym, refl, ap, ◌∙◌, subst}
use Rattle.std.proofs.lemmas.Bool.{both_ways}
use Rattle.std.specs.Result.{result_map_both}
use Rattle.fault.specs.declared.Fault.{Fault}
use Rattle.device.specs.Disk.{Disk, Event, online_done, online_refused, turned}
use Rattle.pairing.specs.Reservoir.{Reservoir}
use Rattle.pairing.specs.Steps.{counts_of}
use Rattle.journal.specs.Writes.{Ran}
use Rattle.plans.specs.Calls.{Performed, refused, done, interrupted, PerformedOnline, refused_early, stayed_offline, went_on}
use Rattle.plans.specs.Plans.{store_plan, take_plan, open_plan, answering, open_answer, too_small}
use Rattle.plans.specs.Plans as plans
use Rattle.plans.proofs.Standing.{err_ok}
use Rattle.session.specs.Calls.{Kind, Request, Store, Take, Report, Open, Call, Own, Other, Reply, stored, taken, reported, reporting}
use Rattle.session.specs.Calls.{Did, store_did, take_did, report_refused, report_did, open_did, DidCall, for_own, for_other}
use Rattle.session.specs.Failures.{Plan, ByPlan}
use Rattle.session.specs.Failures as planned
use Rattle.session.specs.declared.Answer.TheVariants as answer
use Rattle.session.proofs.PlannedRuns.{some_none, some_same, ran_once, By, ran_by}

ok_same : {A : Type 0} {a b : A} → ◌≡◌ {A = Result A Fault} (Ok a) (Ok b) → a ≡ b
ok_same h = cc

err_same : {A : Type 0} {x y : Fault} → ◌≡◌ {A = Result A Fault} (Err x) (Err y) → x ≡ y
err_same h = cc

-- ---- only one planned call

module _ {plan : Plan} {A : Type 0} where
  performed_once :
      {asked : Result (plans.Plan A) Fault} {w o : ℕ} {d d₁ d₂ : Disk} {a b : Result A Fault} {es fs : List Event} →
      Performed asked d a es d₁ → Performed asked d b fs d₂ → ByPlan plan w o es → ByPlan plan w o fs →
      (es ≡ fs) × (a ≡ b) × (d₁ ≡ d₂)
  performed_once (refused e) (refused f) p q = (refl, ap Err (err_same (sym e ∙ f)), refl)
  performed_once (refused e) (done f s) p q = absurd (err_ok (sym e ∙ f))
  performed_once (refused e) (interrupted f s) p q = absurd (err_ok (sym e ∙ f))
  performed_once (done e r) (refused f) p q = absurd (err_ok (sym f ∙ e))
  performed_once {d = d} {d₁ = d₁} {es = es} (done e r) (done f s) p q =
      let is = ok_same (sym e ∙ f) in
      let k = ran_once (subst (λ x. Ran x.writes d (Ok tt) es d₁) is r) s p q in
      (k.0, ap (λ x. Ok x.answer) is, k.2)
  performed_once {d = d} {d₁ = d₁} {es = es} (done e r) (interrupted f s) p q =
      let k = ran_once (subst (λ x. Ran x.writes d (Ok tt) es d₁) (ok_same (sym e ∙ f)) r) s p q in
      absurd (err_ok (sym k.1))
  performed_once (interrupted e r) (refused f) p q = absurd (err_ok (sym f ∙ e))
  performed_once {d = d} {d₁ = d₁} {es = es} (interrupted {f = x} e r) (done f s) p q =
      let k = ran_once (subst (λ y. Ran y.writes d (Err x) es d₁) (ok_same (sym e ∙ f)) r) s p q in
      absurd (err_ok k.1)
  performed_once {d = d} {d₁ = d₁} {es = es} (interrupted {f = x} e r) (interrupted f s) p q =
      let k = ran_once (subst (λ y. Ran y.writes d (Err x) es d₁) (ok_same (sym e ∙ f)) r) s p q in
      (k.0, ap Err (err_same k.1), k.2)

  online_once :
      {early : Option Fault} {asked : Result (plans.Plan A) Fault} {w o : ℕ} {d d₁ d₂ : Disk} {a b : Result A Fault} {es fs : List Event} →
      PerformedOnline early asked d a es d₁ → PerformedOnline early asked d b fs d₂ → ByPlan plan w o es → ByPlan plan w o fs →
      (es ≡ fs) × (a ≡ b) × (d₁ ≡ d₂)
  online_once (refused_early e) (refused_early f) p q = (refl, ap Err (some_same (sym e ∙ f)), refl)
  online_once (refused_early e) (stayed_offline f) p q = absurd (some_none (sym e ∙ f))
  online_once (refused_early e) (went_on f s) p q = absurd (some_none (sym e ∙ f))
  online_once (stayed_offline e) (refused_early f) p q = absurd (some_none (sym f ∙ e))
  online_once (stayed_offline e) (stayed_offline f) p q = (refl, refl, refl)
  online_once (stayed_offline e) (went_on f s) (planned.offline x p) (planned.online y q) = absurd (both_ways _ y x)
  online_once (went_on e r) (refused_early f) p q = absurd (some_none (sym f ∙ e))
  online_once (went_on e r) (stayed_offline f) (planned.online x p) (planned.offline y q) = absurd (both_ways _ x y)
  online_once (went_on e r) (went_on f s) (planned.online x p) (planned.online y q) =
      let k = performed_once r s p q in
      (ap (λ l. online_done ∷ l) k.0, k.1, k.2)

-- ---- only one call

-- what two calls agree in
pub record Alike (a b : Reply) (es fs : List Event) (d₁ d₂ : Disk) (page₁ page₂ : List ℕ) : Type 0 where
  pub events : es ≡ fs
  pub answers : a ≡ b
  pub disks : d₁ ≡ d₂
  pub pages : page₁ ≡ page₂

module _ {plan : Plan} where
  did_once :
      {X : Type 0} {kind : Kind X} {w o : ℕ} {d d₁ d₂ : Disk} {page page₁ page₂ : List ℕ} {q : Request X} {a b : Reply} {es fs : List Event} →
      Did kind d page q a es d₁ page₁ → Did kind d page q b fs d₂ page₂ → ByPlan plan w o es → ByPlan plan w o fs →
      Alike a b es fs d₁ d₂ page₁ page₂
  did_once (store_did r) (store_did s) p q =
      let k = performed_once r s p q in
      record { events = k.0; answers = ap (result_map_both stored (λ f. f)) k.1; disks = k.2; pages = refl }
  did_once (take_did r) (take_did s) p q =
      let k = performed_once r s p q in
      record { events = k.0; answers = ap (result_map_both taken (λ f. f)) k.1; disks = k.2; pages = refl }
  did_once (report_refused e) (report_refused f) p q =
      record { events = refl; answers = ap Err (err_same (sym e ∙ f)); disks = refl; pages = refl }
  did_once (report_refused e) (report_did f) p q = absurd (err_ok (sym e ∙ f))
  did_once (report_did e) (report_refused f) p q = absurd (err_ok (sym f ∙ e))
  did_once {kind = kind} {page = page} (report_did e) (report_did f) p q =
      let is = ok_same (sym e ∙ f) in
      record {
        events = refl;
        answers = ap (λ r. Ok (answer.Reported (counts_of r))) is;
        disks = refl;
        pages = ap (λ r. reported kind r page) is;
      }
  did_once (open_did r) (open_did s) p q =
      let k = online_once r s p q in
      record { events = k.0; answers = ap (result_map_both answer.Opened (λ f. f)) k.1; disks = k.2; pages = refl }

  pub call_once :
      {X Y : Type 0} {own : Kind X} {other : Kind Y} {w o : ℕ} {d d₁ d₂ : Disk} {page page₁ page₂ : List ℕ} {c : Call X Y} {a b : Reply}
      {es fs : List Event} → DidCall own other d page c a es d₁ page₁ → DidCall own other d page c b fs d₂ page₂ → ByPlan plan w o es →
      ByPlan plan w o fs → Alike a b es fs d₁ d₂ page₁ page₂
  call_once (for_own r) (for_own s) p q = did_once r s p q
  call_once (for_other r) (for_other s) p q = did_once r s p q

-- ---- a planned call

module _ (plan : Plan) {A : Type 0} where
  performed_run :
      (w o : ℕ) (asked : Result (plans.Plan A) Fault) (x : plans.Plan A) → asked ≡ Ok x → (d : Disk) (u : Result (Unit {0}) Fault)
      (es : List Event) (d' : Disk) → Ran x.writes d u es d' → ByPlan plan w o es → By plan w o (Performed asked d)
  performed_run w o asked x e d (Ok u) es d' r p =
      record { answer = Ok x.answer; events = es; disk = d'; is = done e r; planned = p }
  performed_run w o asked x e d (Err f) es d' r p =
      record { answer = Err f; events = es; disk = d'; is = interrupted e r; planned = p }

  performed_by :
      (w o : ℕ) (asked known : Result (plans.Plan A) Fault) → asked ≡ known → (d : Disk) → By plan w o (Performed asked d)
  performed_by w o asked (Ok x) e d =
      let k = ran_by plan x.writes w o d in
      performed_run w o asked x e d k.answer k.events k.disk k.is k.planned
  performed_by w o asked (Err f) e d =
      record { answer = Err f; events = []; disk = d; is = refused e; planned = planned.end }

  online_by :
      (w o : ℕ) (early known : Option Fault) → early ≡ known → (refuses : Bool) → plan.refused (o + 1) ≡ refuses →
      (asked : Result (plans.Plan A) Fault) (d : Disk) → By plan w o (PerformedOnline early asked d)
  online_by w o early (Some f) e refuses k asked d =
      record { answer = Err f; events = []; disk = d; is = refused_early e; planned = planned.end }
  online_by w o early None e true k asked d = record {
    answer = _;
    events = online_refused ∷ [];
    disk = turned d false;
    is = stayed_offline e;
    planned = planned.offline k planned.end;
  }
  online_by w o early None e false k asked d =
      let r = performed_by w (o + 1) asked asked refl (turned d true) in
      record {
        answer = r.answer;
        events = online_done ∷ r.events;
        disk = r.disk;
        is = went_on e r.is;
        planned = planned.online k r.planned;
      }

-- ---- a call, which answers a reply and leaves a page

module _ (plan : Plan) (w o : ℕ) where
  abbrev DidBy : {X : Type 0} → Kind X → Disk → List ℕ → Request X → Type 0
  DidBy kind d page q = By plan w o {A = Reply × List ℕ} (λ z es d'. Did kind d page q z.0 es d' z.1)

  abbrev pub CallBy : {X Y : Type 0} → Kind X → Kind Y → Disk → List ℕ → Call X Y → Type 0
  CallBy own other d page c = By plan w o {A = Reply × List ℕ} (λ z es d'. DidCall own other d page c z.0 es d' z.1)

  reported_by :
      {X : Type 0} (kind : Kind X) (d : Disk) (page : List ℕ) (known : Result (Reservoir X) Fault) → reporting kind d page ≡ known →
      DidBy kind d page Report
  reported_by kind d page (Ok r) e = record {
    answer = (Ok (answer.Reported (counts_of r)), reported kind r page);
    events = [];
    disk = d;
    is = report_did e;
    planned = planned.end;
  }
  reported_by kind d page (Err f) e = record { answer = (Err f, page); events = []; disk = d; is = report_refused e; planned = planned.end }

  did_by : {X : Type 0} (kind : Kind X) (d : Disk) (page : List ℕ) (q : Request X) → DidBy kind d page q
  did_by kind d page (Store number item words) =
      let k = performed_by plan w o (store_plan kind.code kind.form kind.reading d number item words) _ refl d in
      record {
        answer = (result_map_both stored (λ f. f) k.answer, page);
        events = k.events;
        disk = k.disk;
        is = store_did k.is;
        planned = k.planned;
      }
  did_by kind d page (Take number) =
      let k = performed_by plan w o (take_plan kind.code kind.form kind.reading d number) _ refl d in
      record {
        answer = (result_map_both taken (λ f. f) k.answer, page);
        events = k.events;
        disk = k.disk;
        is = take_did k.is;
        planned = k.planned;
      }
  did_by kind d page Report = reported_by kind d page (reporting kind d page) refl
  did_by kind d page Open =
      let k = online_by plan w o (too_small d) _ refl _ refl (answering open_answer (open_plan kind.code kind.reading d)) d in
      record {
        answer = (result_map_both answer.Opened (λ f. f) k.answer, page);
        events = k.events;
        disk = k.disk;
        is = open_did k.is;
        planned = k.planned;
      }

  pub call_by : {X Y : Type 0} (own : Kind X) (other : Kind Y) (d : Disk) (page : List ℕ) (c : Call X Y) → CallBy own other d page c
  call_by own other d page (Own q) =
      let k = did_by own d page q in
      record { answer = k.answer; events = k.events; disk = k.disk; is = for_own k.is; planned = k.planned }
  call_by own other d page (Other q) =
      let k = did_by other d page q in
      record { answer = k.answer; events = k.events; disk = k.disk; is = for_other k.is; planned = k.planned }
