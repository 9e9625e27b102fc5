use Rattle.startup.proofs.OpenReads.{nothing_written}
use Rattle.startup.proofs.opening.perform.Goals as goal

pub returns-in-Nothing : goal.returns-in-Nothing
returns-in-Nothing g c = nothing_written _ _ c.in-Nothing.is
