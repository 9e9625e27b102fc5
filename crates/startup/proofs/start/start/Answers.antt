use Rattle.journal.proofs.Writes.{exit_is}
use Rattle.startup.proofs.Starts.{started_small, started_tried}
use Rattle.startup.proofs.start.start.Goals as goal

pub returns-in_err-require_blocks : goal.returns-in_err-require_blocks
returns-in_err-require_blocks g c = started_small (exit_is c.from_residual.ensures.1) c.in_err-require_blocks.ensures

pub returns : goal.returns
returns g c = started_tried c.in_ok-require_blocks.ensures c.bring_online.ensures
