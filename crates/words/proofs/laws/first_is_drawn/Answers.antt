use Rattle.words.proofs.FirstWord.{first_is_drawn}
use Rattle.words.proofs.laws.first_is_drawn.Goals as goal

pub returns : goal.returns
returns c = first_is_drawn
