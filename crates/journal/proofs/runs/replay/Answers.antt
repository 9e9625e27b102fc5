use Rattle.std.proofs.Common.{[], ◌∷◌, ap, ◌∙◌}
use Rattle.journal.specs.Header.{free_bytes}
use Rattle.journal.specs.Writes.{header_write}
use Rattle.journal.proofs.Writes.{runs_append, runs_before, runs_as, exit_is}
use Rattle.journal.proofs.runs.replay.Goals as goal

pub returns-in_err-write_all : goal.returns-in_err-write_all
returns-in_err-write_all g c =
    runs_before (header_write free_bytes ∷ []) (exit_is c.from_residual.ensures.1) c.in_err-write_all.ensures

pub returns : goal.returns
returns g c =
    runs_append c.in_ok-write_all.ensures
    (runs_as (c.header_write.ensures ∙ ap header_write c.free_header.ensures) c.write_one.ensures)
