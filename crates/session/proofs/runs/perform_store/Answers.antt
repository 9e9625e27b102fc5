use Rattle.std.proofs.Common.{Ok, Err}
use Rattle.journal.proofs.Writes.{exit_is}
use Rattle.session.proofs.Doing.{does_as, store_does}
use Rattle.session.proofs.runs.perform_store.Goals as goal

pub returns-in_err-calls : goal.returns-in_err-calls
returns-in_err-calls g c page =
    does_as _ (exit_is c.from_residual.ensures.1) (store_does _ _ _ _ (Err _) c.in_err-calls.ensures page)

pub returns : goal.returns
returns g c page = store_does _ _ _ _ (Ok _) c.in_ok-calls.ensures page
