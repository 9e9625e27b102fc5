use Rattle.std.proofs.Common.{◌∙◌}
use Rattle.layout.proofs.KindCodes.{known_is}
use Rattle.layout.proofs.head.is_kind.Goals as goal

pub returns : goal.returns
returns c = c.is_ok.ensures.value ∙ known_is _ _ c.try_from.ensures
