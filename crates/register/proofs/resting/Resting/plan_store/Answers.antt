use Rattle.register.proofs.Held.{ok_is}
use Rattle.register.proofs.Performing.{prepared_exit}
use Rattle.register.proofs.Storing.{undrawn, slot_changed, planned}
use Rattle.register.proofs.resting.Resting.plan_store.Goals as goal

pub returns-in_err-step : goal.returns-in_err-step
returns-in_err-step g c = λ accepts.
    let k = g.K.Kind in
    let me = c.args.self.now in
    prepared_exit _ _ _ c.from_residual.ensures.1
    (undrawn k.code k.form me.found _ me.storable me.finds _ accepts c.args.item.now _ _ c.in_err-step.ensures)

pub returns : goal.returns
returns g c = λ accepts.
    let k = g.K.Kind in
    let me = c.args.self.now in
    let step = c.in_ok-step.ensures in
    planned k.code k.form me.found _ me.storable me.finds _ accepts c.args.item.now c.in_ok-step.step.drawn _ _ _ _ _ _
    c.in_ok-slots.slots _ step c.answer.ensures c.header.ensures
    (ok_is (
    slot_changed k.code k.form me.found _ me.storable me.finds _ accepts c.args.item.now c.in_ok-step.step.drawn g.met.K.Kind.sized
    _ step.from _ _ _ c.slot.ensures c.slot_bytes.ensures c.in_ok-slots.ensures))
    c.changes.ensures
