-- Checks of one or two tests: what a refusal and what a pass tell of a plan that makes the same tests.
-- Assumes nothing.
use Rattle.std.proofs.Common.{◌≡◌, Bool, true, false, Ok, Err, Result, sym, refl}
use Rattle.fault.specs.declared.Fault.{Fault}
use Rattle.plans.specs.Plans.{refused_if}
use Rattle.plans.proofs.Standing.{err_ok}

-- this is what a check answers
abbrev pub Answers : Result (Unit {0}) Fault → Result (Unit {0}) Fault → Type 0
Answers a check = a ≡ check

pub one_lost_lem : {A : Type 0} (t : Bool) (x y : Fault) (later : Result A Fault) → Answers (Err y) (refused_if t x (Ok tt)) → refused_if t x later ≡ Err y
one_lost_lem true x y later e = cc
one_lost_lem false x y later e = absurd (err_ok e)

pub one_passed : (t : Bool) (x : Fault) (u : Unit {0}) → Answers (Ok u) (refused_if t x (Ok tt)) → t ≡ false
one_passed true x u e = absurd (err_ok (sym e))
one_passed false x u e = refl

pub two_lost :
    {A : Type 0} (t t' : Bool) (x x' y : Fault) (later : Result A Fault) → Answers (Err y) (refused_if t x (refused_if t' x' (Ok tt))) →
    refused_if t x (refused_if t' x' later) ≡ Err y
two_lost true t' x x' y later e = cc
two_lost false t' x x' y later e = one_lost_lem t' x' y later e

pub two_passed :
    (t t' : Bool) (x x' : Fault) (u : Unit {0}) → Answers (Ok u) (refused_if t x (refused_if t' x' (Ok tt))) → (t ≡ false) × (t' ≡ false)
two_passed true t' x x' u e = absurd (err_ok (sym e))
two_passed false t' x x' u e = (refl, one_passed t' x' u e)
