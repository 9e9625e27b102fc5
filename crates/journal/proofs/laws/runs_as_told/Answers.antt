use Rattle.journal.proofs.Writes.{runs_as_told}
use Rattle.journal.proofs.laws.runs_as_told.Goals as goal

pub returns : goal.returns
returns c = runs_as_told
