-- The sessions of all draw lists: the same committed calls, and no group of packs favoured.
-- Assumes nothing.
use Rattle.std.proofs.Common.{◌≡◌, ℕ, List, [], ◌∷◌, ◌++◌, sym, refl, ap}
use Rattle.device.specs.Disk.{Disk, Event}
use Rattle.octets.specs.Zeros.{zeros}
use Rattle.pairing.specs.Reservoir.{Reservoir, empty}
use Rattle.fairness.specs.Histories.{widths}
use Rattle.fairness.specs.Laws as fairness
use Rattle.session.specs.Calls.{Kind, Call, Own, Open, Reply, DidCall}
use Rattle.session.specs.Failures.{Plan}
use Rattle.session.specs.Law.{above_one, Below, tape_of, committed_calls, Made, Session, Fairness}
use Rattle.session.specs.Runs.{Keeps, KindLaws}
use Rattle.session.specs.Steps.{Step, after}
use Rattle.session.proofs.Alike.{Pair, same_events}
use Rattle.session.proofs.ByPlans.{exists, unique, made_keeps}
use Rattle.session.proofs.Evenness.{kept_empty, drawn_tape, even}
use Rattle.session.proofs.StepLaw.{step_law}
use Rattle.session.proofs.Tapes.{zeros_tape}

pair_empty : {X : Type 0} (m : ℕ) → Pair {X = X} m (empty m) (empty m)
pair_empty m = record {
  size = 0;
  due = 0;
  stock = fairness.none;
  first = kept_empty m;
  second = kept_empty m;
  calls = refl;
  words = refl;
}

module _ {X Y : Type 0} (own : Kind X) (other : Kind Y) (laws : KindLaws own)
    (steps_on :
    (d d' : Disk) (page page' : List ℕ) (r : Reservoir X) (c : Call X Y) (a : Reply) (es : List Event) → Keeps own d r →
    DidCall own other d page c a es d' page' → Step own other d page r c a es d' page' (after c es r) × Keeps own d' (after c es r)) where
  pub same :
      (plan : Plan) (d : Disk) (page : List ℕ) (m : ℕ) (calls : List (Call X Y)) (n : ℕ) (zero : Session own other plan (zeros n) d page m calls) →
      Made own other d m → (ds : List ℕ) → Below (above_one (widths m 0 0 (committed_calls calls zero.events))) ds →
      (s : Session own other plan (tape_of n ds) d page m calls) → committed_calls calls s.events ≡ committed_calls calls zero.events
  same plan d page m calls n zero made ds below s =
      let k = made_keeps own other made in
      ap (committed_calls calls)
      (sym (same_events own other m (zeros_tape n) (drawn_tape own other plan d page m calls n zero ds below) laws
      (λ d d' page page' r c a es h did. (steps_on d d' page page' r c a es h did).1)
      plan calls k k (pair_empty m) (record { online = refl; owes = refl }) zero.steps s.steps zero.planned s.planned))

  pub fair_sessions : Fairness own other
  fair_sessions plan d page m made before n zero o replies done =
      let calls : List (Call X Y) = before ++ (Own Open ∷ []) in
      let each : (ds : List ℕ) → Below (above_one (widths m 0 0 (committed_calls calls zero.events))) ds → Session own other plan (tape_of n ds) d page m calls =
      (λ ds below. exists own other steps_on plan (tape_of n ds) d page m calls made) in
      record {
        exists = each;
        unique = λ ds below s t. unique (tape_of n ds) d page m calls s t;
        same = same plan d page m calls n zero made;
        even = λ final is a b. even own other plan d page m calls n zero (same plan d page m calls n zero made) each final is a b;
      }

pub fairness_holds : {X Y : Type 0} (own : Kind X) (other : Kind Y) → KindLaws own → (own.code ≡ other.code → ⊥) → Fairness own other
fairness_holds own other laws apart = fair_sessions own other laws (λ d d' page page' r c a es keeps did. step_law own other laws apart keeps did)
