use Rattle.session.specs.Calls.{kind_of}
use Rattle.session.proofs.FairSessions.{fairness_holds}
use Rattle.session.proofs.laws.no_group_is_favoured.Goals as goal

pub returns : goal.returns
returns g c =
    let met = g.met.K.Kind in
    fairness_holds (kind_of g.K.Kind) (kind_of g.J.Kind)
    (record { known = met.known; sized = met.sized; bounded = met.bounded; round = met.round; exact = met.exact })
