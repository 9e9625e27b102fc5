use Rattle.std.proofs.Common.{◌∷◌}
use Rattle.journal.specs.Writes.{header_write, replay_writes}
use Rattle.journal.proofs.Writes.{runs_append, runs_before, runs_as, exit_is}
use Rattle.journal.proofs.runs.commit.Goals as goal

pub returns-in_err-write_images : goal.returns-in_err-write_images
returns-in_err-write_images g c =
    runs_before (header_write c.args.header.now ∷ replay_writes c.args.changes.now)
    (exit_is c.from_residual.ensures.1) c.in_err-write_images.ensures

pub returns-in_err-write_one : goal.returns-in_err-write_one
returns-in_err-write_one g c =
    runs_append c.in_ok-write_images.ensures
    (runs_before (replay_writes c.args.changes.now)
    (exit_is c.from_residual-in_err-write_one.ensures.1) (runs_as c.header_write.ensures c.in_err-write_one.ensures))

pub returns : goal.returns
returns g c =
    runs_append c.in_ok-write_images.ensures
    (runs_append (runs_as c.header_write.ensures c.in_ok-write_one.ensures) c.replay.ensures)
