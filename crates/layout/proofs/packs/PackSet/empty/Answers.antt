use Rattle.layout.proofs.SetLaws.{none_in_zeros}
use Rattle.layout.proofs.packs.PackSet.empty.Goals as goal

pub returns : goal.returns
returns c p = none_in_zeros 4096 p
