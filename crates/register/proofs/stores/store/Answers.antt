use Rattle.register.proofs.Performing.{performs_refused, performs_interrupted, performs_done}
use Rattle.register.proofs.stores.store.Goals as goal

pub returns-in_err-answer : goal.returns-in_err-answer
returns-in_err-answer g c = performs_refused _ _ _ _ c.from_residual.ensures.1 c.in_err-answer.ensures

pub returns-in_err-perform : goal.returns-in_err-perform
returns-in_err-perform g c =
    performs_interrupted _ _ _ _ c.in_ok-answer.commit _ _ c.in_ok-answer.ensures
    c.from_residual-in_err-perform.ensures.1 c.in_err-perform.ensures

pub returns : goal.returns
returns g c = performs_done _ _ _ c.in_ok-answer.commit _ c.in_ok-answer.ensures c.in_ok-perform.ensures
