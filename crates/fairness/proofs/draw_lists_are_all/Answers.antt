use Rattle.fairness.proofs.Enumerations.{enumerated}
use Rattle.fairness.proofs.draw_lists_are_all.Goals as goal

pub returns : goal.returns
returns g c = enumerated
