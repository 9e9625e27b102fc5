use Rattle.fairness.proofs.Fairness.{fair}
use Rattle.fairness.proofs.weights_decide.Goals as goal

pub returns : goal.returns
returns g c = fair
