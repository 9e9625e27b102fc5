use Rattle.session.specs.Calls.{kind_of}
use Rattle.session.proofs.StepLaw.{step_law}
use Rattle.session.proofs.laws.steps_are_lawful.Goals as goal

pub returns : goal.returns
returns g c apart d d' page page' r call a es keeps did =
    let met = g.met.K.Kind in
    step_law (kind_of g.K.Kind) (kind_of g.J.Kind)
    (record { known = met.known; sized = met.sized; bounded = met.bounded; round = met.round; exact = met.exact }) apart keeps did
