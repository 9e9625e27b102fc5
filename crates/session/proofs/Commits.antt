-- A planned call of ten writes, refused, done or interrupted: its events, and what stands after it.
-- Assumes nothing.
use Rattle.std.proofs.Common.{◌≡◌, ℕ, ◌<◌, ◌≤◌, true, false, cond, List, [], length, Some, None, Ok, Err, Option, Result, sym, refl, ap, ◌∙◌, subst, inl, inr, arith}
use Rattle.std.proofs.lemmas.Bool.{cond_both}
use Rattle.fault.specs.Refusals.{offline}
use Rattle.fault.specs.declared.Fault.{Fault}
use Rattle.device.specs.Disk.{Disk, Event, blocks}
use Rattle.pairing.specs.Reservoir.{Reservoir}
use Rattle.journal.specs.Writes.{Ran, Inside, commit_writes, landed}
use Rattle.journal.proofs.Writes.{ran_blocks}
use Rattle.layout.specs.Laws.{Storable}
use Rattle.layout.specs.Layout.{Laid}
use Rattle.plans.specs.Calls.{Performed, refused, done, interrupted}
use Rattle.plans.specs.Plans.{Plan, changes_to}
use Rattle.plans.specs.Recovery.{Leaves}
use Rattle.plans.proofs.Opening.{ok_same}
use Rattle.plans.proofs.Standing.{err_ok}
use Rattle.plans.proofs.Viewing.{Four, four}
use Rattle.session.specs.Calls.{Kind}
use Rattle.session.specs.Runs.{Keeps}
use Rattle.session.specs.Steps.{Asked}
use Rattle.session.proofs.Asking.{asked_done, asked_lost}
use Rattle.session.proofs.Statuses.{err_same}

-- ---- the ten writes

pub laid_low : (t n : ℕ) → Laid t → 78 ≤ n → t < n
laid_low t n (inl e) large = omega arith
laid_low t n (inr e) large = omega arith

module _ {X : Type 0} (code : ℕ) (form : X → List ℕ) (next : Reservoir X) (header : List ℕ) where
  pub ten_long : {ts : List ℕ} → Four ts → length (commit_writes 2 header (changes_to code form next ts)) ≡ 10
  ten_long (four t₀ t₁ t₂ t₃ l₀ l₁ l₂ l₃) = refl

  pub ten_inside : {ts : List ℕ} (d : Disk) → Four ts → 78 ≤ blocks d → Inside (commit_writes 2 header (changes_to code form next ts)) d
  ten_inside d (four t₀ t₁ t₂ t₃ l₀ l₁ l₂ l₃) large =
      let n = blocks d in
      let low : (t : ℕ) → Laid t → t < n = (λ t l. laid_low t n l large) in (
        omega arith,
        (
          omega arith,
          (
            omega arith,
            (
              omega arith,
              (
                omega arith,
                (low t₀ l₀, (low t₁ l₁, (low t₂ l₂, (low t₃ l₃, (omega arith, tt))))),
              ),
            ),
          ),
        ),
      )

-- ---- a plan, or the refusal of the table

pub data Told {A : Type 0} (refusal : Option Fault) (plan : Result (Plan A) Fault) (Yes : Plan A → Type 0) : Type 0 where
  no : {f : Fault} → refusal ≡ Some f → plan ≡ Err f → Told refusal plan Yes
  yes : (p : Plan A) → refusal ≡ None → plan ≡ Ok p → Yes p → Told refusal plan Yes

pub told_as :
    {A : Type 0} {refusal : Option Fault} {plan same : Result (Plan A) Fault} {Yes : Plan A → Type 0} → plan ≡ same →
    Told refusal same Yes → Told refusal plan Yes
told_as e (no r k) = no r (e ∙ k)
told_as e (yes p r k y) = yes p r (e ∙ k) y

module _ {X : Type 0} (own : Kind X) (d : Disk) (r : Reservoir X) where
  -- ten writes that bring the next reservoir, with an answer that fits
  pub record Commits {A : Type 0} (next : Reservoir X) (Fits : A → Type 0) (p : Plan A) : Type 0 where
    pub long : length p.writes ≡ 10
    pub inside : Inside p.writes d
    pub online : d.online ≡ true
    pub leaves :
        {u : Result (Unit {0}) Fault} {es : List Event} {d' : Disk} → Ran p.writes d u es d' →
        Leaves own.code own.form own.reading es u d' next r × Storable next
    pub fits : Fits p.answer

  -- what became of such a call
  pub data Became {A : Type 0} (refusal : Option Fault) (Fits : A → Type 0) : Result A Fault → List Event → Disk → Type 0 where
    not_tried : {f : Fault} → refusal ≡ Some f → Became refusal Fits (Err f) [] d
    all_done_lem : {a : A} {es : List Event} {d' : Disk} → refusal ≡ None → Fits a → Asked 10 d' es false → Became refusal Fits (Ok a) es d'
    one_lost_lem : {b : ℕ} {es : List Event} {d' : Disk} → refusal ≡ None → Asked 10 d' es true → Became refusal Fits (Err (offline b)) es d'

  module _ (keeps : Keeps own d r) {A : Type 0} {next : Reservoir X} {Fits : A → Type 0} where
    -- the register stands after it
    stands_after :
        {p : Plan A} {u : Result (Unit {0}) Fault} {es : List Event} {d' : Disk} → Commits next Fits p → Ran p.writes d u es d' →
        Keeps own d' (cond (landed 5 es) next r)
    stands_after {es = es} c run =
        let after = c.leaves run in
        let large = keeps.large in
        record {
          stands = after.0.stands;
          storable = cond_both (landed 5 es) next r Storable (λ e. after.1) (λ e. keeps.storable);
          large = omega (arith, large, ran_blocks run);
        }

    pub became :
        {refusal : Option Fault} {plan : Result (Plan A) Fault} {a : Result A Fault} {es : List Event} {d' : Disk} → Told refusal plan (Commits next Fits) → Performed plan d a es d' →
        Became refusal Fits a es d' × Keeps own d' (cond (landed 5 es) next r)
    became (no f k) (refused e) = (not_tried (f ∙ ap Some (err_same (sym k ∙ e))), keeps)
    became (no f k) (done e run) = absurd (err_ok (sym k ∙ e))
    became (no f k) (interrupted e run) = absurd (err_ok (sym k ∙ e))
    became (yes p f k c) (refused e) = absurd (err_ok (sym e ∙ k))
    became (yes p f k c) (done {p = q} e run) =
        let is : p ≡ q = ok_same (sym k ∙ e) in
        let w : Commits next Fits q = subst (Commits next Fits) is c in
        (all_done_lem f w.fits (asked_done 10 w.long run), stands_after w run)
    became {refusal = refusal} {es = es} {d' = d'} (yes p f k c) (interrupted {p = q} {f = x} e run) =
        let is : p ≡ q = ok_same (sym k ∙ e) in
        let w : Commits next Fits q = subst (Commits next Fits) is c in
        let m = asked_lost 10 w.long w.inside w.online run in
        (subst (λ x. Became refusal Fits (Err x) es d') (sym m.answer) (one_lost_lem f m.asked), stands_after w run)
