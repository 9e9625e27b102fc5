use Rattle.std.proofs.Common.{true, sym}
use Rattle.device.specs.ImageDisk.{disk_in}
use Rattle.device.proofs.Disk.{turned_same, brings_done}
use Rattle.device.proofs.ImageDisk.{online_disk_in}
use Rattle.device.proofs.images.ImageDevice.bring_online.Goals as goal

pub returns-clause-brings : goal.returns-clause-brings
returns-clause-brings c =
    let bytes = c.args.self.now.bytes.now in
    brings_done (sym (turned_same (disk_in bytes) true (online_disk_in bytes)))
