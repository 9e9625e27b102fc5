use Rattle.journal.proofs.Writes.{exit_is}
use Rattle.session.specs.Calls.{kind_of}
use Rattle.session.specs.Runs.{KindLaws}
use Rattle.session.proofs.Running.{resume_short, resume_unopened, resume_resumed}
use Rattle.session.proofs.runs.resume.Given as given
use Rattle.session.proofs.runs.resume.Goals as goal

laws : (g : given.Over) → KindLaws (kind_of g.K.Kind)
laws g = let met = g.met.K.Kind in record { known = met.known; sized = met.sized; bounded = met.bounded; round = met.round; exact = met.exact }

pub returns-in_err-check_places : goal.returns-in_err-check_places
returns-in_err-check_places g c = record { run = λ apart. resume_short _ _ _ _ _ _ _ (exit_is c.from_residual.ensures.1) c.in_err-check_places.ensures }

pub returns-in_err-opened : goal.returns-in_err-opened
returns-in_err-opened g c = record {
  run = λ apart.
      resume_unopened _ _ _ _ _ _ _ c.in_ok-check_places.ensures (exit_is c.from_residual-in_err-opened.ensures.1) c.in_err-opened.ensures;
}

pub returns : goal.returns
returns g c = record {
  run = λ apart.
      resume_resumed _ _ _ _ _ _ _ (laws g) c.in_ok-check_places.ensures c.in_ok-opened.ensures (c.perform_all.ensures apart);
}
