-- The writes of a Make, one behind the other.
-- Assumes nothing.
use Rattle.std.proofs.Common.{◌≡◌, ℕ, suc, ◌+◌, ◌≤◌, Bool, true, false, ◌&&◌, leb, List, [], ◌∷◌, ◌++◌, Some, Ok, Err, Result, refl, ap, ◌∙◌, subst}
use Rattle.std.proofs.lemmas.Bool.{cond-true, cond-false, and_from, and_parts, le-leb, leb-true}
use Rattle.fault.specs.Refusals.{bad_capacity}
use Rattle.fault.specs.declared.Fault.{Fault}
use Rattle.device.specs.Disk.{Disk}
use Rattle.pairing.specs.Ranges.{no_counts}
use Rattle.layout.specs.Layout.{head_of}
use Rattle.journal.specs.Writes.{Runs, write_at}
use Rattle.journal.specs.declared.Write.{Write}
use Rattle.journal.proofs.Writes.{runs_append, runs_before}
use Rattle.plans.specs.Plans.{zero_block, too_small, make_refusal, make_writes, make_plan}
use Rattle.plans.specs.Calls.{Performs, done, interrupted}
use Rattle.startup.specs.Makes.{first_two, zero_writes, writes_with}

-- ---- the zeros

pub zeros_more : (b n left : ℕ) → n ≡ suc left → zero_writes b n ≡ zero_block b ∷ zero_writes (b + 1) left
unfolding zero_writes
zeros_more b n left e = ap (λ k. zero_writes b k) e

pub zeros_done : (b n : ℕ) → n ≡ 0 → zero_writes b n ≡ []
unfolding zero_writes
zeros_done b n e = ap (λ k. zero_writes b k) e

-- ---- all of them

module _ (head : List ℕ) where
  -- those behind the first two
  abbrev later : List Write
  later = zero_writes 6 72 ++ (write_at 0 head ∷ [])

  starts :
      {ws : List Write} {d d' : Disk} {a : Result (Unit {0}) Fault} → ws ≡ first_two → Runs (ws ++ later) d a d' →
      Runs (writes_with head) d a d'
  unfolding writes_with
  starts {d = d} {d' = d'} {a = a} e r = subst (λ ws. Runs (ws ++ later) d a d') e r

  pub stops_first :
      {ws : List Write} {d d' : Disk} {a : Result (Unit {0}) Fault} {x : Fault} → ws ≡ first_two → a ≡ Err x → Runs ws d (Err x) d' →
      Runs (writes_with head) d a d'
  stops_first e is r = starts e (runs_before later is r)

  pub stops_in_zeros :
      {ws : List Write} {d d₁ d' : Disk} {a : Result (Unit {0}) Fault} {x : Fault} → ws ≡ first_two → Runs ws d (Ok tt) d₁ → a ≡ Err x →
      Runs (zero_writes 6 72) d₁ (Err x) d' → Runs (writes_with head) d a d'
  stops_in_zeros e r is s = starts e (runs_append r (runs_before (write_at 0 head ∷ []) is s))

  pub runs_all :
      {ws : List Write} {d d₁ d₂ d' : Disk} {a : Result (Unit {0}) Fault} → ws ≡ first_two → Runs ws d (Ok tt) d₁ →
      Runs (zero_writes 6 72) d₁ (Ok tt) d₂ → Runs (write_at 0 head ∷ []) d₂ a d' → Runs (writes_with head) d a d'
  runs_all e r s t = starts e (runs_append r (runs_append s t))

-- ---- the call

not_from : (b : Bool) → (b ≡ true → ⊥) → b ≡ false
not_from true h = absurd (h refl)
not_from false h = refl

-- a capacity in its range, and any other
module _ (m : ℕ) (d : Disk) where
  pub refusal_within : (1 ≤ m) × (m ≤ 512) → make_refusal m d ≡ too_small d
  refusal_within h = cond-true _ _ _ (and_from (leb 1 m) (leb m 512) (le-leb 1 m h.0) (le-leb m 512 h.1))

  pub refusal_outside : ((1 ≤ m) × (m ≤ 512) → ⊥) → make_refusal m d ≡ Some bad_capacity
  refusal_outside h =
      cond-false _ _ _ (not_from (leb 1 m && leb m 512) (λ e.
      let p = and_parts (leb 1 m) (leb m 512) e in
      h (leb-true 1 m p.0, leb-true m 512 p.1)))

-- with the head of an empty register these are the writes of a Make
pub writes_of_make : (code m : ℕ) → writes_with (head_of code (no_counts m)) ≡ make_writes code m
unfolding writes_with zero_writes make_writes
writes_of_make code m = refl

performed :
    (code m : ℕ) (a : Result (Unit {0}) Fault) {d d' : Disk} → Runs (make_writes code m) d a d' → Performs (make_plan code m) d a d'
performed code m (Ok tt) r = record { events = r.events; performed = done refl r.ran; fixed = r.fixed }
performed code m (Err f) r = record { events = r.events; performed = interrupted refl r.ran; fixed = r.fixed }

pub performs_make :
    (code m : ℕ) {head : List ℕ} {d d' : Disk} {a : Result (Unit {0}) Fault} → head ≡ head_of code (no_counts m) →
    Runs (writes_with head) d a d' → Performs (make_plan code m) d a d'
performs_make code m {head} {d} {d'} {a} e r =
    performed code m a (subst (λ ws. Runs ws d a d') (ap writes_with e ∙ writes_of_make code m) r)
