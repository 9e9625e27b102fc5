use Rattle.fairness.proofs.Enumerations.{found_is_same_set}
use Rattle.fairness.proofs.found_is_same_set.Goals as goal

pub returns : goal.returns
returns g c = found_is_same_set
