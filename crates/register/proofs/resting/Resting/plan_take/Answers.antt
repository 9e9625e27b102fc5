use Rattle.register.specs.Rested.{resting}
use Rattle.register.proofs.Held.{ok_is}
use Rattle.register.proofs.Taking.{some_after, none_after, take_can, took}
use Rattle.register.proofs.resting.Resting.plan_take.Goals as goal

pub returns-in_err-after : goal.returns-in_err-after
returns-in_err-after g c = λ can.
    let k = g.K.Kind in
    let me = c.args.self.now in
    absurd (none_after c.after_take.result _ _ c.after_take.ensures c.in_err-after.ensures.ok_part
    (take_can k.code k.form g.met.K.Kind.sized me.found _ _ me.finds _ c.slot-slot.ensures me.storable can))

pub returns : goal.returns
returns g c = λ can.
    let k = g.K.Kind in
    let me = c.args.self.now in
    took k.code k.form g.met.K.Kind.sized me.found (resting k.code k.reading (g.D.Device.meaning me.device.now)) c.args.number me.finds
    _ c.slot-slot.ensures can _ _ _ _ _ c.header.result c.get.result (some_after c.after_take.result _ _ _ c.after_take.ensures c.in_ok-after.ensures.ok_part)
    (ok_is (c.in_ok-first.ensures _ c.slot-slot.ensures)) c.remove.ensures c.stock_change-stock.ensures c.head_change-head.ensures
    c.header.ensures c.get.ensures
