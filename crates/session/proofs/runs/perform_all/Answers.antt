use Rattle.session.specs.Calls.{kind_of}
use Rattle.session.specs.Runs.{KindLaws}
use Rattle.session.proofs.Running.{ran_more, ran_all}
use Rattle.session.proofs.Walks.{walked_none}
use Rattle.session.proofs.runs.perform_all.Given as given
use Rattle.session.proofs.runs.perform_all.Goals as goal

laws : (g : given.Over) → KindLaws (kind_of g.K.Kind)
laws g = let met = g.met.K.Kind in record { known = met.known; sized = met.sized; bounded = met.bounded; round = met.round; exact = met.exact }

pub loop-i-init : goal.loop-i-init
loop-i-init g c apart r keeps = walked_none _ _ _ _ _ _ _ keeps

pub loop-i-preserved : goal.loop-i-preserved
loop-i-preserved g c apart r keeps =
    ran_more _ _ _ _ _ _ _ _ (laws g) apart _ (c.loop-i.invariant apart r keeps) c.loop-i-test.true c.requires c.index-calls-i.is c.perform_call-reply.ensures
    c.put.ensures

pub returns : goal.returns
returns g c apart r keeps = ran_all _ _ _ _ _ _ _ _ (c.loop-i.invariant apart r keeps) c.loop-i.auto.i-end c.loop-i-test.false
