use Rattle.std.proofs.Common.{refl, ◌∙◌, arith}
use Rattle.std.proofs.lemmas.Bool.{both_ways}
use Rattle.device.proofs.Disk.{writes, writes_outside, writes_offline}
use Rattle.device.proofs.FailingDisk.{online_failing, blocks_failing, failing_done, failing_lost}
use Rattle.device.proofs.failures.FailingDevice.write.Goals as goal

pub returns-then-block-count-clause-writes : goal.returns-then-block-count-clause-writes
returns-then-block-count-clause-writes c = writes_outside (omega arith)

pub returns-then-not-self : goal.returns-then-not-self
returns-then-not-self c =
    let off = online_failing c.args.self.now.entries.now c.args.self.now.online ∙ c.if-not-self.true in
    record {
      writes = writes_offline (omega arith) off;
      event = λ h o. absurd (both_ways _ off o);
      good = refl;
      told = (refl, refl);
    }

pub bounds-self-at : goal.bounds-self-at
bounds-self-at c = omega (arith, blocks_failing c.args.self.now.entries.now c.args.self.now.online)

pub returns-then-self-gt0 : goal.returns-then-self-gt0
returns-then-self-gt0 c =
    let s = c.args.self.now in
    let w = failing_done s.entries.now s.online c.args.block c.args.bytes.now s.leaves (omega arith) c.if-not-self.false s.good (omega arith) in
    record { writes = writes w; event = λ h o. w; good = refl; told = (refl, refl) }

pub bounds-self-at-2 : goal.bounds-self-at-2
bounds-self-at-2 c = omega (arith, blocks_failing c.args.self.now.entries.now c.args.self.now.online)

pub bounds-self-at-3 : goal.bounds-self-at-3
bounds-self-at-3 c = omega (arith, blocks_failing c.args.self.now.entries.now c.args.self.now.online)

pub returns : goal.returns
returns c =
    let s = c.args.self.now in
    let w = failing_lost s.entries.now s.online c.args.block c.args.bytes.now s.leaves (omega arith) c.if-not-self.false s.good _ c.left_by.result (omega arith) c.left_by.ensures in
    record { writes = writes w; event = λ h o. w; good = refl; told = (refl, refl) }
