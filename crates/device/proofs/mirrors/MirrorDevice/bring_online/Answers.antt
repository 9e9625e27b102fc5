use Rattle.device.specs.MirrorDisk.{BroughtBoth}
use Rattle.device.proofs.MirrorDisk.{brought_both}
use Rattle.device.proofs.mirrors.MirrorDevice.bring_online.Goals as goal

pub returns : goal.returns
returns g c =
    let l = g.L.Device.meaning c.args.self.now.left in
    let r = g.R.Device.meaning c.args.self.now.right in
    let l' = g.L.Device.meaning c.bring_online-left.new.self in
    let r' = g.R.Device.meaning c.bring_online-right.new.self in
    let s : BroughtBoth l r c.and.result l' r' = record {
      left_answer = c.bring_online-left.result;
      left = c.bring_online-left.ensures;
      right_answer = c.bring_online-right.result;
      right = c.bring_online-right.ensures;
      answer = c.and.ensures;
    } in
    record { brings = brought_both s; sides = s }
