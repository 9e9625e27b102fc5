use Rattle.words.proofs.Limits.{small_is_drawn}
use Rattle.words.proofs.laws.small_is_drawn.Goals as goal

pub returns : goal.returns
returns c = small_is_drawn
