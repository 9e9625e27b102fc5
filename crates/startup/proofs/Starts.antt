-- How a start goes on.
-- Assumes nothing.
use Rattle.std.proofs.Common.{◌≡◌, [], Some, None, Ok, Err, Option, Result, sym, refl, ◌∙◌, subst}
use Rattle.fault.specs.declared.Fault.{Fault}
use Rattle.device.specs.Disk.{Disk}
use Rattle.journal.specs.Writes.{Runs}
use Rattle.layout.specs.Reading.{unless_fault}
use Rattle.plans.specs.Plans.{Plan, too_small}
use Rattle.plans.specs.Calls.{Performs, PerformsOnline, refused, done, interrupted, refused_early, stayed_offline, went_on}
use Rattle.startup.specs.Starts.{Came, came, stayed, Started, small, tried}

-- ---- the two ways of the test

fault_of : (o : Option Fault) {f : Fault} → Err f ≡ unless_fault o (tt {0}) → o ≡ Some f
fault_of (Some g) e = cc
fault_of None e = cc

none_of : (o : Option Fault) → Ok tt ≡ unless_fault o (tt {0}) → o ≡ None
none_of (Some g) e = cc
none_of None e = refl

pub started_small :
    {d : Disk} {a : Result (Unit {0}) Fault} {f : Fault} → a ≡ Err f → Err f ≡ unless_fault (too_small d) (tt {0}) → Started d a d
started_small {d} e h = subst (λ a. Started d a d) (sym e) (small (fault_of (too_small d) h))

pub started_tried :
    {d d' : Disk} {a : Result (Unit {0}) Fault} → Ok tt ≡ unless_fault (too_small d) (tt {0}) → Came d a d' → Started d a d'
started_tried {d} h u = tried (none_of (too_small d) h) u

-- ---- the calls that start so

-- a start that is refused
refused_start :
    {A : Type 0} {early : Option Fault} {plan : Result (Plan A) Fault} {d d' : Disk} {f : Fault} →
    early ≡ too_small d → Started d (Err f) d' → PerformsOnline early plan d (Err f) d'
refused_start e (small s) = record { events = _; performed = refused_early (e ∙ s); fixed = refl }
refused_start e (tried s stayed) = record { events = _; performed = stayed_offline (e ∙ s); fixed = refl }

pub performs_refused :
    {A : Type 0} {early : Option Fault} {plan : Result (Plan A) Fault} {d d' : Disk} {a : Result A Fault} {f : Fault} →
    early ≡ too_small d → a ≡ Err f → Started d (Err f) d' → PerformsOnline early plan d a d'
performs_refused {early = early} {plan = plan} {d} {d'} e is s =
    subst (λ a. PerformsOnline early plan d a d') (sym is) (refused_start e s)

-- a call that goes on
pub performs_on :
    {A : Type 0} {early : Option Fault} {plan : Result (Plan A) Fault} {d d₁ d' : Disk} {a : Result A Fault} →
    early ≡ too_small d → Started d (Ok tt) d₁ → Performs plan d₁ a d' → PerformsOnline early plan d a d'
performs_on e (tried s came) p = record { events = _; performed = went_on (e ∙ s) p.performed; fixed = p.fixed }

-- a call that is refused before it starts
pub performs_early :
    {A : Type 0} {early : Option Fault} {plan : Result (Plan A) Fault} {d : Disk} {a : Result A Fault} {f : Fault} → early ≡ Some f →
    a ≡ Err f → PerformsOnline early plan d a d
performs_early {early = early} {plan = plan} {d} e is =
    subst (λ a. PerformsOnline early plan d a d) (sym is) (record { events = _; performed = refused_early e; fixed = refl })

-- ---- what a call does once it has started

module _ {A : Type 0} {plan : Result (Plan A) Fault} {d : Disk} where
  pub stops : {a : Result A Fault} {f : Fault} → a ≡ Err f → plan ≡ Err f → Performs plan d a d
  stops {a} e h = subst (λ a. Performs plan d a d) (sym e) (record { events = []; performed = refused h; fixed = refl })

  pub breaks_off :
      {d' : Disk} {a : Result A Fault} {p : Plan A} {f : Fault} → a ≡ Err f → plan ≡ Ok p → Runs p.writes d (Err f) d' → Performs plan d a d'
  breaks_off {d'} e h run =
      subst (λ a. Performs plan d a d') (sym e) (record { events = run.events; performed = interrupted h run.ran; fixed = run.fixed })

  pub finishes : {d' : Disk} {p : Plan A} → plan ≡ Ok p → Runs p.writes d (Ok tt) d' → Performs plan d (Ok p.answer) d'
  finishes h run = record { events = run.events; performed = done h run.ran; fixed = run.fixed }
