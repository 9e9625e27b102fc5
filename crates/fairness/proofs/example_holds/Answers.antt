use Rattle.fairness.proofs.Examples.{example_holds}
use Rattle.fairness.proofs.example_holds.Goals as goal

pub returns : goal.returns
returns g c = example_holds
