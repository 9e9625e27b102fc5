use Rattle.std.proofs.Common.{arith}
use Rattle.device.proofs.FailingDisk.{blocks_failing}
use Rattle.device.proofs.failures.FailingDevice.count.Goals as goal

pub returns : goal.returns
returns c = omega (arith, blocks_failing c.args.self.now.entries.now c.args.self.now.online)
