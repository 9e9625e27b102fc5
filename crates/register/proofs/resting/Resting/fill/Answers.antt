use Rattle.std.proofs.Common.{◌*◌, refl, ap, arith}
use Rattle.register.specs.Rested.{resting}
use Rattle.register.proofs.Held.{ok_is}
use Rattle.register.proofs.Showing.{block_laid, shown_more, shown_all}
use Rattle.register.proofs.resting.Resting.fill.Goals as goal

pub loop-j-preserved : goal.loop-j-preserved
loop-j-preserved g c =
    let k = g.K.Kind in
    let law = g.met.K.Kind in
    shown_more k.code k.form law.sized law.bounded (resting k.code k.reading (g.D.Device.meaning c.args.self.now.device.now)) c.args.page.now
    c.loop-j.j _ _ _ _
    (ap (λ n. 512 * n) c.from.ensures)
    (omega (arith, c.requires, c.loop-j.auto.page, c.loop-j-test.true))
    c.loop-j.invariant
    (ok_is (c.in_ok-block.ensures (block_laid _ (omega arith))))
    c.put.ensures

pub returns : goal.returns
returns g c =
    let k = g.K.Kind in
    let s = resting k.code k.reading (g.D.Device.meaning c.args.self.now.device.now) in
    (refl, shown_all k.code k.form s _ c.loop-j.j _ (omega arith) c.loop-j.invariant)
