use Rattle.pairing.proofs.Following.{follow}
use Rattle.pairing.proofs.laws.numbers_follow.Goals as goal

pub returns : goal.returns
returns g c = follow _
