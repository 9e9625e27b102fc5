use Rattle.std.proofs.lemmas.List.{drop_more, drop_all}
use Rattle.journal.proofs.Writes.{leads_more, leads_stop, leads_end, exit_is}
use Rattle.journal.proofs.runs.write_all.Goals as goal

pub returns-in_err-write_one : goal.returns-in_err-write_one
returns-in_err-write_one g c =
    leads_stop c.loop-write.invariant _ _ (drop_more c.args.writes.now c.loop-write.write-index _ c.loop-write-test.true)
    (exit_is c.from_residual.ensures.1) c.in_err-write_one.ensures

pub loop-write-preserved : goal.loop-write-preserved
loop-write-preserved g c =
    leads_more c.loop-write.invariant _ _ (drop_more c.args.writes.now c.loop-write.write-index _ c.loop-write-test.true)
    c.in_ok-write_one.ensures

pub returns : goal.returns
returns g c = leads_end c.loop-write.invariant (drop_all _ _ c.loop-write-test.false)
