-- A call that was prepared as planned and then committed is performed as planned.
-- Assumes nothing.
use Rattle.std.proofs.Common.{◌≡◌, [], IsErrAnd, Ok, Err, Result, sym, refl, subst}
use Rattle.fault.specs.declared.Fault.{Fault}
use Rattle.device.specs.Disk.{Disk}
use Rattle.journal.specs.Writes.{Runs}
use Rattle.journal.proofs.Writes.{exit_is}
use Rattle.plans.specs.Calls.{Performs, refused, done, interrupted}
use Rattle.plans.specs.Plans.{Plan}
use Rattle.register.specs.Planned.{writes_of, PlannedAs}
use Rattle.register.specs.declared.commits.Commit.{Commit}

module _ {A : Type 0} (plan : Result (Plan A) Fault) where
  -- the exit of a `?` in a call that is being prepared
  pub prepared_exit : (r : Result (A × Commit) Fault) (x : Fault) → IsErrAnd r (λ y. y ≡ x) → plan ≡ Err x → PlannedAs plan r
  prepared_exit r x h e = subst (PlannedAs plan) (sym (exit_is h)) e

  module _ (d : Disk) (r : Result A Fault) where
    -- refused before any write
    pub performs_refused : (x : Fault) → IsErrAnd r (λ y. y ≡ x) → plan ≡ Err x → Performs plan d r d
    performs_refused x h e = subst (λ r. Performs plan d r d) (sym (exit_is h)) (record { events = []; performed = refused e; fixed = refl })

    -- interrupted at a write
    pub performs_interrupted :
        (a : A) (c : Commit) (d' : Disk) (x : Fault) → PlannedAs plan (Ok (a, c)) → IsErrAnd r (λ y. y ≡ x) → Runs (writes_of c) d (Err x) d' →
        Performs plan d r d'
    performs_interrupted a c d' x planned h run =
        subst (λ r. Performs plan d r d') (sym (exit_is h))
        (record { events = run.events; performed = interrupted planned run.ran; fixed = run.fixed })

  -- done
  pub performs_done :
      (d : Disk) (a : A) (c : Commit) (d' : Disk) → PlannedAs plan (Ok (a, c)) → Runs (writes_of c) d (Ok tt) d' → Performs plan d (Ok a) d'
  performs_done d a c d' planned run = record { events = run.events; performed = done planned run.ran; fixed = run.fixed }
