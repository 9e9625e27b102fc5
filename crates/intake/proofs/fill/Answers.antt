-- Each byte takes the table one step on.
use Rattle.std.proofs.Common.{◌∙◌, arith}
use Rattle.intake.proofs.Fills.{filled_is, filled_same, filled_more, room_more, count_all, filled_all}
use Rattle.intake.proofs.fill.Goals as goal
use Rattle.intake.proofs.fill.Goals.{in-Some, in_default}

pub bounds-table-count : goal.bounds-table-count
bounds-table-count c =
    let f = c.loop-byte.invariant.1 in
    room_more _ _ _ _ _ _ _ f c.loop-byte-test.true _ _ _ (c.in-Some.ensures.step f.line f.holds) (omega (arith, c.requires))

pub loop-byte-preserved : goal.loop-byte-preserved
loop-byte-preserved c =
    let f = c.loop-byte.invariant.1 in
    let here = c.loop-byte-test.true in (
      c.scan.ensures.same ∙ c.loop-byte.invariant.0,
      elim c.match-scan.branch [
        | in-Some w ↦
            let s = w.in-Some.ensures.step f.line f.holds in
            filled_is _ _ _ _ _ _ _ _ _ w.count-is w.table-is
            (filled_more _ _ _ _ _ _ _ f here _ _ _ s (room_more _ _ _ _ _ _ _ f here _ _ _ s (omega (arith, c.requires))))
        | in_default w ↦
            filled_is _ _ _ _ _ _ _ _ _ w.count-is w.table-is
            (filled_same _ _ _ _ _ _ _ f here _ _ (w.in_default.ensures.step f.line f.holds))
      ],
    )

pub returns-clause-count : goal.returns-clause-count
returns-clause-count c = count_all _ _ _ _ _ _ _ c.loop-byte.invariant.1 c.loop-byte-test.false

pub returns-clause-entries : goal.returns-clause-entries
returns-clause-entries c = filled_all _ _ _ _ _ _ _ c.loop-byte.invariant.1 c.loop-byte-test.false
