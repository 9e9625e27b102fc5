use Rattle.std.proofs.Common.{Ok, sym, ap, ◌∙◌, arith}
use Rattle.device.specs.MirrorDisk.{mirror_of}
use Rattle.device.proofs.Disk.{reading_outside, exit_is}
use Rattle.device.proofs.MirrorDisk.{left_refuses, right_refuses, both_read}
use Rattle.device.proofs.mirrors.MirrorDevice.read.Goals as goal

pub returns-then-block-count : goal.returns-then-block-count
returns-then-block-count g c =
    let l = g.L.Device.meaning c.args.self.now.left in
    let r = g.R.Device.meaning c.args.self.now.right in
    sym (reading_outside (mirror_of l r) c.args.block (omega arith))

pub returns-in_err-left : goal.returns-in_err-left
returns-in_err-left g c =
    let l = g.L.Device.meaning c.args.self.now.left in
    let r = g.R.Device.meaning c.args.self.now.right in
    exit_is c.from_residual.ensures.1 ∙ sym (left_refuses l r c.args.block (omega arith) _ c.in_err-left.ensures)

pub returns-in_err-right : goal.returns-in_err-right
returns-in_err-right g c =
    let l = g.L.Device.meaning c.args.self.now.left in
    let r = g.R.Device.meaning c.args.self.now.right in
    exit_is c.from_residual-in_err-right.ensures.1 ∙ sym (right_refuses l r c.args.block (omega arith) _ c.in_err-right.ensures)

pub returns : goal.returns
returns g c =
    let l = g.L.Device.meaning c.args.self.now.left in
    let r = g.R.Device.meaning c.args.self.now.right in
    ap Ok c.or.ensures
    ∙ sym (both_read l r c.args.block _ _ c.in_ok-left.ensures c.in_ok-right.ensures)
