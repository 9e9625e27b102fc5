use Rattle.std.proofs.Common.{arith}
use Rattle.device.proofs.ImageDisk.{blocks_disk_in}
use Rattle.device.proofs.images.ImageDevice.count.Goals as goal

pub returns : goal.returns
returns c = omega (arith, blocks_disk_in c.args.self.now.bytes.now)
