use Rattle.pairing.proofs.Lawfulness.{possible}
use Rattle.pairing.proofs.laws.calls_are_possible.Goals as goal

pub returns : goal.returns
returns g c = possible _
