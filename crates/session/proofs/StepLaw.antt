-- The law of one call, and calls one after the other.
-- Assumes nothing.
use Rattle.std.proofs.Common.{◌≡◌, ℕ, List, [], ◌∷◌, ◌++◌, refl}
use Rattle.device.specs.Disk.{Disk, Event}
use Rattle.pairing.specs.Reservoir.{Reservoir}
use Rattle.session.specs.Calls.{Kind, Call, Reply, store_did, take_did, report_refused, report_did, open_did, DidCall, for_own, for_other}
use Rattle.session.specs.Runs.{Keeps, KindLaws}
use Rattle.session.specs.Steps.{Outcome, Step, Steps, none, next, after}
use Rattle.session.proofs.OtherKind as foreign
use Rattle.session.proofs.OwnCalls.{store_law, take_law, report_refused_lem, report_done_lem}
use Rattle.session.proofs.OwnOpen.{open_law}

module _ {X Y : Type 0} (own : Kind X) (other : Kind Y) where
  module _ (laws : KindLaws own) (apart : own.code ≡ other.code → ⊥) {d : Disk} {page : List ℕ} {r : Reservoir X} (keeps : Keeps own d r) where
    outcome :
        {c : Call X Y} {a : Reply} {es : List Event} {d' : Disk} {page' : List ℕ} → DidCall own other d page c a es d' page' →
        Outcome own d page r c a es d' page' × Keeps own d' (after c es r)
    outcome (for_own (store_did {number} {item} {words} call)) = store_law own laws d r keeps number item words page call
    outcome (for_own (take_did {number} call)) = take_law own laws d r keeps number page call
    outcome (for_own (report_refused {f} e)) = (report_refused_lem own laws d r keeps page f e, keeps)
    outcome (for_own (report_did {r = q} e)) = (report_done_lem own laws d r keeps page q e, keeps)
    outcome (for_own (open_did call)) = open_law own laws d r keeps page call
    outcome (for_other (store_did {number} {item} {words} call)) = foreign.store_law own other laws apart d r keeps page number item words call
    outcome (for_other (take_did {number} call)) = foreign.take_law own other laws apart d r keeps page number call
    outcome (for_other (report_refused {f} e)) = (foreign.report_refused_lem own other laws apart d r keeps page f e, keeps)
    outcome (for_other (report_did {r = q} e)) = absurd (foreign.report_never own other laws apart d r keeps page q e)
    outcome (for_other (open_did call)) = foreign.open_law own other laws apart d r keeps page call

    -- every call has an outcome of the table, and the register stands after it
    pub step_law :
        {c : Call X Y} {a : Reply} {es : List Event} {d' : Disk} {page' : List ℕ} → DidCall own other d page c a es d' page' →
        Step own other d page r c a es d' page' (after c es r) × Keeps own d' (after c es r)
    step_law did = let q = outcome did in (record { did = did; outcome = q.0; follows = refl }, q.1)

  -- one call more
  pub steps_more :
      {d d₁ d' : Disk} {page page₁ page' : List ℕ} {r r₁ r' : Reservoir X} {cs : List (Call X Y)} {c : Call X Y} {replies : List Reply}
      {a : Reply} {ess : List (List Event)} {es : List Event} → Steps own other d page r cs replies ess d₁ page₁ r₁ →
      Step own other d₁ page₁ r₁ c a es d' page' r' →
      Steps own other d page r (cs ++ (c ∷ [])) (replies ++ (a ∷ [])) (ess ++ (es ∷ [])) d' page' r'
  steps_more none s = next s none
  steps_more (next t ts) s = next t (steps_more ts s)
