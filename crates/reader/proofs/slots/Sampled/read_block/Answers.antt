use Rattle.std.proofs.Common.{sym, refl, ◌∙◌, arith}
use Rattle.layout.specs.Reading.{slot_fault}
use Rattle.reader.proofs.SlotScans.{so_far_none, so_far_more, so_far_stops, so_far_all, slot_there, slots_exit}
use Rattle.reader.proofs.slots.Sampled.read_block.Goals as goal

pub loop-i-init : goal.loop-i-init
loop-i-init g c = λ view is gathered. so_far_none _ view _ _ _ _ gathered

pub loop-i-preserved : goal.loop-i-preserved
loop-i-preserved g c = λ view is gathered.
    let so = c.loop-i.invariant view is gathered in
    so_far_more
    _
    view
    _
    _
    8
    c.loop-i.i
    _
    _
    _
    (omega arith)
    refl
    so
    (c.in_ok-read_slot.ensures
    view
    (slot_there view c.args.j c.loop-i.i _ _ (omega arith) refl is ∙ sym c.slot_in.ensures)
    so.gathered)

pub returns-in_err-read_slot : goal.returns-in_err-read_slot
returns-in_err-read_slot g c = λ view is gathered.
    let so = c.loop-i.invariant view is gathered in
    slots_exit
    c.from_residual.ensures.1
    (so_far_stops
    (slot_fault g.K.Kind.reading view c.args.k _)
    view
    _
    _
    8
    c.loop-i.i
    _
    _
    _
    _
    _
    (omega arith)
    refl
    so
    (c.in_err-read_slot.ensures
    view
    (slot_there view c.args.j c.loop-i.i _ _ (omega arith) refl is ∙ sym c.slot_in.ensures)
    so.gathered))

pub returns : goal.returns
returns g c = λ view is gathered.
    so_far_all
    (slot_fault g.K.Kind.reading view c.args.k _)
    view
    _
    _
    8
    c.loop-i.i
    _
    _
    (omega arith)
    refl
    (c.loop-i.invariant view is gathered)
