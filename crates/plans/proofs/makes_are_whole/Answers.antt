use Rattle.plans.proofs.MakeLaws.{makes}
use Rattle.plans.proofs.makes_are_whole.Goals as goal

pub returns : goal.returns
returns g c = makes g.K.Kind.code g.K.Kind.form g.K.Kind.reading
