use Rattle.words.proofs.Sequences.{draws_are_even}
use Rattle.words.proofs.laws.draws_are_even.Goals as goal

pub returns : goal.returns
returns c = draws_are_even
