use Rattle.std.proofs.Common.{◌≡◌, ◌<◌, ◌≤◌, false, ltb, sym, refl, ap, ◌∙◌, arith}
use Rattle.std.proofs.lemmas.Bool.{le-ltb, cond-false}
use Rattle.device.specs.ImageDisk.{blocks_in, disk_in}
use Rattle.device.proofs.Disk.{writes_outside, writes_done}
use Rattle.device.proofs.ImageDisk.{blocks_disk_in, online_disk_in, block_within, disk_in_with_block}
use Rattle.device.proofs.images.ImageDevice.write.Goals as goal

pub returns-then-block-count : goal.returns-then-block-count
returns-then-block-count c =
    let bytes = c.args.self.now.bytes.now in
    let h : blocks_in bytes ≤ c.args.block = omega (arith, blocks_disk_in bytes) in
    let out : ltb c.args.block (blocks_in bytes) ≡ false = le-ltb c.args.block (blocks_in bytes) h in
    record {
      writes = writes_outside (omega arith);
      answer = sym (cond-false _ _ _ out);
      bytes = sym (cond-false _ _ _ out);
      lender = refl;
    }

pub put_block-requires : goal.put_block-requires
put_block-requires c =
    block_within c.args.self.now.bytes.now c.args.block (omega (arith, blocks_disk_in c.args.self.now.bytes.now))

pub returns-clause-writes : goal.returns-clause-writes
returns-clause-writes c =
    let bytes = c.args.self.now.bytes.now in
    let h : c.args.block < blocks_in bytes = omega (arith, blocks_disk_in bytes) in
    writes_done
    (omega arith)
    (online_disk_in bytes)
    (ap disk_in c.put_block.ensures ∙ disk_in_with_block bytes c.args.block c.args.bytes.now h (omega arith))
