use Rattle.fairness.proofs.Fairness.{counting}
use Rattle.fairness.proofs.every_group_is_found.Goals as goal

pub returns : goal.returns
returns g c = counting
