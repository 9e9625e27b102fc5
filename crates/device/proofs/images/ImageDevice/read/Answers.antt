use Rattle.std.proofs.Common.{◌<◌, Ok, sym, ap, ◌∙◌, arith, Some}
use Rattle.device.specs.ImageDisk.{blocks_in, disk_in}
use Rattle.device.proofs.Disk.{reading_outside, reading_online}
use Rattle.device.proofs.ImageDisk.{blocks_disk_in, online_disk_in, entry_at_disk_in, block_within}
use Rattle.device.proofs.images.ImageDevice.read.Goals as goal

pub block_in-requires : goal.block_in-requires
block_in-requires c =
    block_within c.args.self.now.bytes.now c.args.block (omega (arith, blocks_disk_in c.args.self.now.bytes.now))

pub returns-then-block-count : goal.returns-then-block-count
returns-then-block-count c =
    let bytes = c.args.self.now.bytes.now in
    let h : c.args.block < blocks_in bytes = omega (arith, blocks_disk_in bytes) in
    ap (λ xs. Ok (Some xs)) c.block_in.ensures
    ∙ ap Ok (sym (entry_at_disk_in bytes c.args.block h))
    ∙ sym (reading_online (disk_in bytes) c.args.block (omega arith) (online_disk_in bytes))

pub returns-else-block-count : goal.returns-else-block-count
returns-else-block-count c = sym (reading_outside (disk_in c.args.self.now.bytes.now) c.args.block (omega arith))
