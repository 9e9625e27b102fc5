use Rattle.std.proofs.Common.{◌+◌, ◌-◌, arith}
use Rattle.journal.proofs.Writes.{leads_more, leads_stop, leads_end, runs_as, exit_is}
use Rattle.startup.proofs.MakeWrites.{zeros_more, zeros_done}
use Rattle.startup.proofs.making.write_zeros.Goals as goal

pub returns-in_err-write_all : goal.returns-in_err-write_all
returns-in_err-write_all g c =
    leads_stop c.loop-block.invariant _ _ (zeros_more c.loop-block.block _ (77 - c.loop-block.block) (omega arith))
    (exit_is c.from_residual.ensures.1) (runs_as c.zero_block.ensures c.in_err-write_all.ensures)

pub loop-block-preserved : goal.loop-block-preserved
loop-block-preserved g c =
    leads_more c.loop-block.invariant _ _ (zeros_more c.loop-block.block _ (78 - (c.loop-block.block + 1)) (omega arith))
    (runs_as c.zero_block.ensures c.in_ok-write_all.ensures)

pub returns : goal.returns
returns g c = leads_end c.loop-block.invariant (zeros_done _ _ (omega arith))
