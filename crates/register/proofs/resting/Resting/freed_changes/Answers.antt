use Rattle.std.proofs.Common.{[], ◌∷◌, Ok}
use Rattle.plans.proofs.Standing.{err_ok}
use Rattle.register.specs.Rested.{resting}
use Rattle.register.proofs.Held.{ok_is}
use Rattle.register.proofs.TakeContents.{frees_read, slot_low, last_low}
use Rattle.register.proofs.resting.Resting.freed_changes.Goals as goal

pub returns-in_err-change : goal.returns-in_err-change
returns-in_err-change g c = λ number slot count.
    let k = g.K.Kind in
    let sized = g.met.K.Kind.sized in
    let me = c.args.self.now in
    let s = resting k.code k.reading (g.D.Device.meaning me.device.now) in
    let frees = frees_read k.code k.form sized s number me.storable _ _ _ _ _ slot count c.slot_block.ensures c.in_ok-block.ensures c.slot_in-bytes.ensures in
    absurd (err_ok (c.in_err-change.ensures number frees (slot_low k.code k.form sized s number me.storable _ slot)))

pub returns-in_err-change-2 : goal.returns-in_err-change-2
returns-in_err-change-2 g c = λ number slot count.
    let k = g.K.Kind in
    let sized = g.met.K.Kind.sized in
    let me = c.args.self.now in
    let s = resting k.code k.reading (g.D.Device.meaning me.device.now) in
    let frees = frees_read k.code k.form sized s number me.storable _ _ _ _ _ slot count c.slot_block.ensures c.in_ok-block.ensures c.slot_in-bytes.ensures in
    absurd (err_ok (c.in_err-change-2.ensures number frees (last_low k.code k.form sized s number me.storable _ count)))

pub returns : goal.returns
returns g c = λ number slot count.
    let k = g.K.Kind in
    let sized = g.met.K.Kind.sized in
    let me = c.args.self.now in
    let s = resting k.code k.reading (g.D.Device.meaning me.device.now) in
    let frees = frees_read k.code k.form sized s number me.storable _ _ _ _ _ slot count c.slot_block.ensures c.in_ok-block.ensures c.slot_in-bytes.ensures in
    let first = ok_is (c.in_ok-change.ensures number frees (slot_low k.code k.form sized s number me.storable _ slot)) in
    let second = ok_is (c.in_ok-change-2.ensures number frees (last_low k.code k.form sized s number me.storable _ count)) in
    λ i. Ok (first i ∷ second i ∷ [])
