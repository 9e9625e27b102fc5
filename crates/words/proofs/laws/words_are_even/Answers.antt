use Rattle.words.proofs.Evenness.{words_are_even}
use Rattle.words.proofs.laws.words_are_even.Goals as goal

pub returns : goal.returns
returns c = words_are_even
