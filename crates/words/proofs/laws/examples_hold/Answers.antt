use Rattle.words.proofs.Examples.{examples}
use Rattle.words.proofs.laws.examples_hold.Goals as goal

pub returns : goal.returns
returns c = examples
