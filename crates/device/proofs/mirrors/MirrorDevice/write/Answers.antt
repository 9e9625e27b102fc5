use Rattle.std.proofs.Common.{Err, arith}
use Rattle.device.specs.MirrorDisk.{mirror_of, WroteBoth, refused}
use Rattle.device.proofs.Disk.{reading_outside, exit_is}
use Rattle.device.proofs.MirrorDisk.{wrote_both, left_offline, right_offline, ends_copy, ends_left, ends_right}
use Rattle.device.proofs.mirrors.MirrorDevice.write.Goals as goal

pub returns-then-block-count : goal.returns-then-block-count
returns-then-block-count g c =
    let l = g.L.Device.meaning c.args.self.now.left in
    let r = g.R.Device.meaning c.args.self.now.right in
    let s : WroteBoth l r c.args.block c.args.bytes.now (Err _) l r =
    refused (reading_outside (mirror_of l r) c.args.block (omega arith)) in
    record { writes = wrote_both s; sides = s }

pub returns-in_err-old : goal.returns-in_err-old
returns-in_err-old g c =
    let l = g.L.Device.meaning c.args.self.now.left in
    let r = g.R.Device.meaning c.args.self.now.right in
    let s = left_offline l r c.args.block c.args.bytes.now (omega arith) c.in_err-old.ensures (exit_is c.from_residual.ensures.1) in
    record { writes = wrote_both s; sides = s }

pub returns-in_err-read : goal.returns-in_err-read
returns-in_err-read g c =
    let l = g.L.Device.meaning c.args.self.now.left in
    let r = g.R.Device.meaning c.args.self.now.right in
    let s = right_offline l r c.args.block c.args.bytes.now (omega arith) c.in_err-read.ensures (exit_is c.from_residual-in_err-read.ensures.1) in
    record { writes = wrote_both s; sides = s }

pub returns-in_err-copy : goal.returns-in_err-copy
returns-in_err-copy g c =
    let l = g.L.Device.meaning c.args.self.now.left in
    let r = g.R.Device.meaning c.args.self.now.right in
    let s = ends_copy l r c.args.block c.args.bytes.now _ _ c.in_ok-old.ensures c.in_ok-read.ensures c.in_err-copy.ensures (exit_is c.from_residual-in_err-copy.ensures.1) in
    record { writes = wrote_both s; sides = s }

pub returns-in_err-write : goal.returns-in_err-write
returns-in_err-write g c =
    let l = g.L.Device.meaning c.args.self.now.left in
    let r = g.R.Device.meaning c.args.self.now.right in
    let s = ends_left l r c.args.block c.args.bytes.now _ _ c.in_ok-old.ensures c.in_ok-read.ensures c.in_ok-copy.ensures c.in_err-write.ensures (exit_is c.from_residual-in_err-write.ensures.1) in
    record { writes = wrote_both s; sides = s }

pub returns : goal.returns
returns g c =
    let l = g.L.Device.meaning c.args.self.now.left in
    let r = g.R.Device.meaning c.args.self.now.right in
    let s = ends_right l r c.args.block c.args.bytes.now _ _ c.in_ok-old.ensures c.in_ok-read.ensures c.in_ok-copy.ensures c.in_ok-write.ensures c.write-2.ensures in
    record { writes = wrote_both s; sides = s }
