use Rattle.std.proofs.Common.{arith}
use Rattle.device.proofs.MirrorDisk.{blocks_mirror_of}
use Rattle.device.proofs.mirrors.MirrorDevice.count.Goals as goal

pub returns : goal.returns
returns g c =
    omega (arith, blocks_mirror_of (g.L.Device.meaning c.args.self.now.left) (g.R.Device.meaning c.args.self.now.right))
