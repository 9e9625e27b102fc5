use Rattle.std.proofs.Common.{refl, ap}
use Rattle.std.proofs.lemmas.List.{drop_all}
use Rattle.journal.specs.Writes.{images_from}
use Rattle.journal.proofs.Writes.{leads_more, leads_stop, leads_end, images_more, runs_as, exit_is}
use Rattle.journal.proofs.runs.write_images.Goals as goal

pub returns-in_err-write_one : goal.returns-in_err-write_one
returns-in_err-write_one g c =
    leads_stop c.loop-change.invariant _ _
    (images_more c.loop-change.block _ c.args.changes.now c.loop-change.change-index _ c.loop-change-test.true refl)
    (exit_is c.from_residual.ensures.1) (runs_as c.image.ensures c.in_err-write_one.ensures)

pub loop-change-preserved : goal.loop-change-preserved
loop-change-preserved g c =
    leads_more c.loop-change.invariant _ _
    (images_more c.loop-change.block _ c.args.changes.now c.loop-change.change-index _ c.loop-change-test.true c.next_block-block.ensures)
    (runs_as c.image.ensures c.in_ok-write_one.ensures)

pub returns : goal.returns
returns g c = leads_end c.loop-change.invariant (ap (images_from c.loop-change.block) (drop_all _ _ c.loop-change-test.false))
