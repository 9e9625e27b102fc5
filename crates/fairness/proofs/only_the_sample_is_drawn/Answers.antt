use Rattle.fairness.proofs.Enumerations.{settled}
use Rattle.fairness.proofs.only_the_sample_is_drawn.Goals as goal

pub returns : goal.returns
returns g c = settled
