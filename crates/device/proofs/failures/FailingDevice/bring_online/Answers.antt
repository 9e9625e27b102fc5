use Rattle.std.proofs.Common.{ap, ◌∙◌}
use Rattle.device.specs.Disk.{turned}
use Rattle.device.specs.FailingDisk.{failing_disk}
use Rattle.device.proofs.Disk.{brings_done, brings_refused}
use Rattle.device.proofs.FailingDisk.{failing_turned}
use Rattle.device.proofs.failures.FailingDevice.bring_online.Goals as goal

pub returns-then-self-clause-brings : goal.returns-then-self-clause-brings
returns-then-self-clause-brings c =
    let s = c.args.self.now in
    brings_done (failing_turned s.entries.now s.online s.recovers ∙ ap (turned (failing_disk s.entries.now s.online)) c.if-self.true)

pub returns-else-self-clause-brings : goal.returns-else-self-clause-brings
returns-else-self-clause-brings c =
    let s = c.args.self.now in
    brings_refused (failing_turned s.entries.now s.online s.recovers ∙ ap (turned (failing_disk s.entries.now s.online)) c.if-self.false)
