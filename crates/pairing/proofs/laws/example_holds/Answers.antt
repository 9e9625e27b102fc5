use Rattle.pairing.proofs.Examples.{worked}
use Rattle.pairing.proofs.laws.example_holds.Goals as goal

pub returns : goal.returns
returns g c = worked _
