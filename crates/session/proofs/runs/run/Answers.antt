use Rattle.journal.proofs.Writes.{exit_is}
use Rattle.session.specs.Calls.{kind_of}
use Rattle.session.specs.Runs.{KindLaws}
use Rattle.session.proofs.FairSessions.{fairness_holds}
use Rattle.session.proofs.Running.{run_short, run_unmade, run_ran}
use Rattle.session.proofs.runs.run.Given as given
use Rattle.session.proofs.runs.run.Goals as goal

laws : (g : given.Over) → KindLaws (kind_of g.K.Kind)
laws g = let met = g.met.K.Kind in record { known = met.known; sized = met.sized; bounded = met.bounded; round = met.round; exact = met.exact }

pub returns-in_err-check_places : goal.returns-in_err-check_places
returns-in_err-check_places g c = record { run = λ apart. run_short _ _ _ _ _ _ _ _ (exit_is c.from_residual.ensures.1) c.in_err-check_places.ensures; fair = fairness_holds _ _ (laws g) }

pub returns-in_err-make : goal.returns-in_err-make
returns-in_err-make g c = record {
  run = λ apart. run_unmade _ _ _ _ _ _ _ c.in_ok-check_places.ensures (exit_is c.from_residual-in_err-make.ensures.1) c.in_err-make.ensures;
  fair = fairness_holds _ _ (laws g);
}

pub returns : goal.returns
returns g c = record {
  run = λ apart. run_ran _ _ _ _ _ _ _ c.in_ok-check_places.ensures c.in_ok-make.ensures (c.perform_all.ensures apart);
  fair = fairness_holds _ _ (laws g);
}
