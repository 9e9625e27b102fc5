use Rattle.std.proofs.Common.{rules}
use Rattle.reader.proofs.view.View.bytes.Goals as goal
use Rattle.reader.proofs.BlockLaws.{view_answers, view_fails}

pub returns : goal.returns
returns g c = view_answers _ _ _ _ _ _ _ c.place.ensures (search rules) c.whole.ensures

pub returns-in_err-entry : goal.returns-in_err-entry
returns-in_err-entry g c = view_fails _ _ _ _ _ _ c.place.ensures (search rules)
