-- A run of the code, from what it calls.
-- Assumes nothing.
use Rattle.std.proofs.Common.{◌≡◌, ℕ, ◌+◌, ◌<◌, ◌≤◌, List, map, length, get_or, set, Ok, Err, Option, Result, sym, ap, ◌∙◌, subst, arith}
use lib.ListN.{length-map}
use Rattle.std.proofs.lemmas.List.{get_or-map}
use Rattle.fault.specs.Refusals.{too_short}
use Rattle.fault.specs.declared.Fault.{Fault}
use Rattle.device.specs.Disk.{Disk}
use Rattle.pairing.specs.Reservoir.{Reservoir, empty}
use Rattle.plans.specs.Calls.{PerformsOnline}
use Rattle.plans.specs.Plans.{make_refusal, make_plan, open_plan, answering, open_answer, too_small}
use Rattle.plans.specs.declared.Opened.{Opened}
use Rattle.session.specs.Asked.{asked, DoesCall, Ended}
use Rattle.session.specs.Calls.{Kind, Reply}
use Rattle.session.specs.Runs.{Keeps, KindLaws, RanFrom, ResumedFrom}
use Rattle.session.specs.Runs as runs
use Rattle.session.specs.declared.calls.Call.{Call}
use Rattle.session.proofs.Starts.{made, resumes}
use Rattle.session.proofs.Walks.{Walked, walked_more, walked_all}

module _ {X Y S : Type 0} (own : Kind X) (other : Kind Y) (words : S → ℕ → Option ℕ)
    (d : Disk) (page : List ℕ) (calls : List (Call X Y S)) (table : List Reply) where
  as_many : length (map (asked {X = X} {Y = Y} words) calls) ≡ length calls
  as_many = length-map calls (asked words)

  -- ---- the loop

  -- one call more
  pub ran_more :
      (r : Reservoir X) → KindLaws own → (own.code ≡ other.code → ⊥) → {i : ℕ} {d₁ d₂ : Disk} {page₁ page₂ : List ℕ} {table₁ table₂ : List Reply} (c : Call X Y S) {a : Reply} →
      Walked own other d page r (map (asked words) calls) table i d₁ page₁ table₁ → i < length calls → length calls ≤ length table →
      c ≡ get_or calls i c → DoesCall own other d₁ page₁ (asked words c) a d₂ page₂ → table₂ ≡ set table₁ i a →
      Walked own other d page r (map (asked words) calls) table (i + 1) d₂ page₂ table₂
  ran_more r laws apart {i} {d₂ = d₂} {page₂ = page₂} c walked more room is does e =
      let many = as_many in
      subst (Walked own other d page r (map (asked words) calls) table (i + 1) d₂ page₂) (sym e)
      (walked_more own other d page r (map (asked words) calls) table laws apart (asked words c) walked (omega (arith, many)) (omega (arith, many))
      (ap (asked words) is ∙ sym (get_or-map (asked words) calls i c (asked words c) more)) does.did)

  -- all calls were made
  pub ran_all :
      (r : Reservoir X) {i : ℕ} {d' : Disk} {page' : List ℕ} {table' : List Reply} →
      Walked own other d page r (map (asked words) calls) table i d' page' table' → i ≤ length calls → length calls ≤ i →
      Ended own other d page r (map (asked words) calls) table d' page' table'
  ran_all r walked most least =
      let many = as_many in
      walked_all own other d page r (map (asked words) calls) table walked (omega (arith, many))

  -- ---- Make, then the calls

  pub run_short :
      (m : ℕ) {a : Result (Unit {0}) Fault} {f : Fault} → a ≡ Err f → (f ≡ too_short) × (length table < length calls) →
      RanFrom own other d page (map (asked words) calls) table m a d page table
  run_short m e told =
      let many = as_many in
      let short = told.1 in
      subst (λ a. RanFrom own other d page (map (asked words) calls) table m a d page table) (sym (e ∙ ap Err told.0))
      (runs.short (omega (arith, many, short)))

  pub run_unmade :
      {m : ℕ} {a : Result (Unit {0}) Fault} {f : Fault} {d' : Disk} → length calls ≤ length table → a ≡ Err f →
      PerformsOnline (make_refusal m d) (make_plan own.code m) d (Err f) d' → RanFrom own other d page (map (asked words) calls) table m a d' page table
  run_unmade {m} {d' = d'} room e make =
      let many = as_many in
      subst (λ a. RanFrom own other d page (map (asked words) calls) table m a d' page table) (sym e)
      (runs.unmade (omega (arith, many)) make.performed)

  pub run_ran :
      {m : ℕ} {d₁ d' : Disk} {page' : List ℕ} {table' : List Reply} → length calls ≤ length table →
      PerformsOnline (make_refusal m d) (make_plan own.code m) d (Ok tt) d₁ →
      ((r : Reservoir X) → Keeps own d₁ r → Ended own other d₁ page r (map (asked words) calls) table d' page' table') →
      RanFrom own other d page (map (asked words) calls) table m (Ok tt) d' page' table'
  run_ran {m} {d' = d'} {page' = page'} room make calls-made =
      let many = as_many in
      let q = made own other m make.performed in
      let e = calls-made (empty m) q.1 in
      subst (RanFrom own other d page (map (asked words) calls) table m (Ok tt) d' page') (sym e.tabled)
      (runs.ran (omega (arith, many)) make.performed q.0 e.steps)

  -- ---- Open, then the calls

  pub resume_short :
      {a : Result Opened Fault} {f : Fault} → a ≡ Err f → (f ≡ too_short) × (length table < length calls) →
      ResumedFrom own other d page (map (asked words) calls) table a d page table
  resume_short e told =
      let many = as_many in
      let short = told.1 in
      subst (λ a. ResumedFrom own other d page (map (asked words) calls) table a d page table) (sym (e ∙ ap Err told.0))
      (runs.short (omega (arith, many, short)))

  pub resume_unopened :
      {a : Result Opened Fault} {f : Fault} {d' : Disk} → length calls ≤ length table → a ≡ Err f →
      PerformsOnline (too_small d) (answering open_answer (open_plan own.code own.reading d)) d (Err f) d' →
      ResumedFrom own other d page (map (asked words) calls) table a d' page table
  resume_unopened {d' = d'} room e opening =
      let many = as_many in
      subst (λ a. ResumedFrom own other d page (map (asked words) calls) table a d' page table) (sym e)
      (runs.unopened (omega (arith, many)) opening.performed)

  pub resume_resumed :
      KindLaws own → {o : Opened} {d₁ d' : Disk} {page' : List ℕ} {table' : List Reply} → length calls ≤ length table →
      PerformsOnline (too_small d) (answering open_answer (open_plan own.code own.reading d)) d (Ok o) d₁ →
      ((r : Reservoir X) → Keeps own d₁ r → Ended own other d₁ page r (map (asked words) calls) table d' page' table') →
      ResumedFrom own other d page (map (asked words) calls) table (Ok o) d' page' table'
  resume_resumed laws {o} {d' = d'} {page' = page'} room opening calls-made =
      let many = as_many in
      let q = resumes own laws opening.performed in
      let e = calls-made q.reservoir q.keeps in
      subst (ResumedFrom own other d page (map (asked words) calls) table (Ok o) d' page') (sym e.tabled)
      (runs.resumed (omega (arith, many)) opening.performed q.found q.rests e.steps)
