use Rattle.std.proofs.Common.{sym, ap, ◌∙◌, subst}
use Rattle.plans.specs.Plans.{at_rest, store_plan}
use Rattle.register.specs.Planned.{PlannedAs}
use Rattle.register.proofs.Held.{rests_is}
use Rattle.register.proofs.Performing.{prepared_exit}
use Rattle.register.proofs.StorePlans.{large_refused, unread_refused, check_refused, goes_on_lem, accepts}
use Rattle.register.proofs.stores.prepare_store.Goals as goal

pub returns-in_err-check_number : goal.returns-in_err-check_number
returns-in_err-check_number g c =
    let k = g.K.Kind in
    prepared_exit _ _ _ c.from_residual.ensures.1 (large_refused k.code k.form k.reading _ _ _ _ _ c.in_err-check_number.ensures)

pub returns-in_err-register : goal.returns-in_err-register
returns-in_err-register g c =
    let k = g.K.Kind in
    prepared_exit _ _ _ c.from_residual-in_err-register.ensures.1
    (unread_refused k.code k.form k.reading _ _ _ _ _ c.in_ok-check_number.ensures _ c.in_err-register.ensures)

pub returns-in_err-check_store : goal.returns-in_err-check_store
returns-in_err-check_store g c =
    let k = g.K.Kind in
    let me = c.in_ok-register.register in
    let d = g.D.Device.meaning me.device.now in
    prepared_exit _ _ _ c.from_residual-in_err-check_store.ensures.1
    (ap (λ d. store_plan k.code k.form k.reading d c.args.number c.args.item.now (g.S.Source.words c.args.source.now)) (sym (ap g.D.Device.meaning c.in_ok-register.ensures))
    ∙ check_refused k.code k.form k.reading d _ _ _ _ c.in_ok-check_number.ensures me.found _ (rests_is (at_rest k.code k.reading d) me.rests) me.finds _
    c.in_err-check_store.ensures)

pub returns : goal.returns
returns g c =
    let k = g.K.Kind in
    let me = c.in_ok-register.register in
    let d = g.D.Device.meaning me.device.now in
    let item = c.args.item.now in
    let words = g.S.Source.words c.args.source.now in
    let small = c.in_ok-check_number.ensures in
    let rests = rests_is (at_rest k.code k.reading d) me.rests in
    let passed = c.in_ok-check_store.ensures in
    subst (λ d. PlannedAs (store_plan k.code k.form k.reading d c.args.number item words) c.plan_store.result) (ap g.D.Device.meaning c.in_ok-register.ensures)
    (subst (λ p. PlannedAs p c.plan_store.result)
    (sym (goes_on_lem k.code k.form k.reading d _ item words _ small me.found _ rests me.finds _ passed))
    (c.plan_store.ensures (accepts k.code k.form k.reading d _ item words _ small me.found _ rests me.finds _ passed me.storable)))
