use Rattle.std.proofs.Common.{◌<◌, length, Ok, sym, ap, ◌∙◌, arith}
use Rattle.std.proofs.lemmas.List.{get_or_default}
use Rattle.device.specs.FailingDisk.{failing_disk}
use Rattle.device.proofs.Disk.{reading_outside, reading_offline, reading_online}
use Rattle.device.proofs.FailingDisk.{online_failing, blocks_failing, entry_at_failing}
use Rattle.device.proofs.failures.FailingDevice.read.Goals as goal

pub returns-then-block-count : goal.returns-then-block-count
returns-then-block-count c =
    sym (reading_outside (failing_disk c.args.self.now.entries.now c.args.self.now.online) c.args.block (omega arith))

pub returns-then-not-self : goal.returns-then-not-self
returns-then-not-self c =
    let es = c.args.self.now.entries.now in
    let o = c.args.self.now.online in
    sym (reading_offline (failing_disk es o) c.args.block (omega arith) (online_failing es o ∙ c.if-not-self.true))

pub bounds-self-index : goal.bounds-self-index
bounds-self-index c = omega (arith, blocks_failing c.args.self.now.entries.now c.args.self.now.online)

pub returns : goal.returns
returns c =
    let es = c.args.self.now.entries.now in
    let o = c.args.self.now.online in
    let b = c.args.block in
    let within : b < length es = omega (arith, blocks_failing es o) in
    ap Ok (get_or_default es b _ _ within ∙ sym (entry_at_failing es o b (omega arith)))
    ∙ sym (reading_online (failing_disk es o) b (omega arith) (online_failing es o ∙ c.if-not-self.false))
