use Rattle.session.proofs.Doing.{own_does, other_does}
use Rattle.session.proofs.runs.perform_call.Goals as goal

pub returns-in-Own : goal.returns-in-Own
returns-in-Own g c = own_does _ _ _ _ c.in-Own.is c.perform.ensures

pub returns-in-Other : goal.returns-in-Other
returns-in-Other g c = other_does _ _ _ _ c.in-Other.is c.perform-in-Other.ensures
