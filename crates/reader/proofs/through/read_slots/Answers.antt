use Rattle.std.proofs.Common.{◌+◌, arith}
use Rattle.plans.specs.Views.{viewed}
use Rattle.reader.proofs.SlotScans.{block_there, blocks_none, blocks_more, blocks_stop, blocks_lost, blocks_all, fault_exit}
use Rattle.reader.proofs.through.read_slots.Goals as goal

pub loop-j-init : goal.loop-j-init
loop-j-init g c = λ s e. blocks_none _ _ _ _ _ e

pub loop-j-preserved : goal.loop-j-preserved
loop-j-preserved g c = λ s e.
    let so = c.loop-j.invariant s e in
    let view = viewed (g.D.Device.meaning c.args.view.now.device.now) c.args.view.now.first c.args.view.now.targets.now in
    let there = block_there view (14 + c.loop-j.j) _ (c.in_ok-bytes.ensures s (omega arith)) in
    blocks_more _ _ _ c.loop-j.j _ _ (omega arith) so there.0 (c.in_ok-read_block.ensures _ there.1 so.gathered)

pub returns-in_err-bytes : goal.returns-in_err-bytes
returns-in_err-bytes g c = λ s h e.
    fault_exit
    _
    _
    _
    _
    c.from_residual.ensures.1
    (blocks_lost _ _ _ c.loop-j.j _ _ (omega arith) (c.loop-j.invariant s e) (c.in_err-bytes.ensures s (omega arith)))

pub returns : goal.returns
returns g c = λ s h e. blocks_all _ _ _ c.loop-j.j _ (omega arith) (c.loop-j.invariant s e)

pub returns-in_err-read_block : goal.returns-in_err-read_block
returns-in_err-read_block g c = λ s h e.
    let so = c.loop-j.invariant s e in
    let view = viewed (g.D.Device.meaning c.args.view.now.device.now) c.args.view.now.first c.args.view.now.targets.now in
    let there = block_there view (14 + c.loop-j.j) _ (c.in_ok-bytes.ensures s (omega arith)) in
    fault_exit
    _
    _
    _
    _
    c.from_residual-in_err-read_block.ensures.1
    (blocks_stop _ _ _ c.loop-j.j _ _ _ (omega arith) so there.0 (c.in_err-read_block.ensures _ there.1 so.gathered))
