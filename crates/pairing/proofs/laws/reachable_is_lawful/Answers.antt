use Rattle.pairing.proofs.Lawfulness.{lawful}
use Rattle.pairing.proofs.laws.reachable_is_lawful.Goals as goal

pub returns : goal.returns
returns g c = lawful
