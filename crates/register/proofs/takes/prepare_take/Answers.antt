use Rattle.std.proofs.Common.{sym, ap, ◌∙◌, subst}
use Rattle.register.specs.Planned.{PlannedAs}
use Rattle.register.proofs.Held.{rests_is}
use Rattle.register.proofs.Performing.{prepared_exit}
use Rattle.register.proofs.TakePlans.{large_refused, unread_refused, check_refused, goes_on_lem, allowed}
use Rattle.plans.specs.Plans.{at_rest, take_plan}
use Rattle.register.proofs.takes.prepare_take.Goals as goal

pub returns-in_err-check_number : goal.returns-in_err-check_number
returns-in_err-check_number g c =
    let k = g.K.Kind in
    prepared_exit _ _ _ c.from_residual.ensures.1 (large_refused k.code k.form k.reading _ _ _ c.in_err-check_number.ensures)

pub returns-in_err-register : goal.returns-in_err-register
returns-in_err-register g c =
    let k = g.K.Kind in
    prepared_exit _ _ _ c.from_residual-in_err-register.ensures.1
    (unread_refused k.code k.form k.reading _ _ _ c.in_ok-check_number.ensures _ c.in_err-register.ensures)

pub returns-in_err-check_take : goal.returns-in_err-check_take
returns-in_err-check_take g c =
    let k = g.K.Kind in
    let me = c.in_ok-register.register in
    let own = ap g.D.Device.meaning c.in_ok-register.ensures in
    let d = g.D.Device.meaning me.device.now in
    prepared_exit _ _ _ c.from_residual-in_err-check_take.ensures.1
    (ap (λ d. take_plan k.code k.form k.reading d c.args.number) (sym own)
    ∙ check_refused k.code k.form k.reading d _ _ c.in_ok-check_number.ensures me.found _ (rests_is (at_rest k.code k.reading d) me.rests) me.finds _ c.in_err-check_take.ensures)

pub returns : goal.returns
returns g c =
    let k = g.K.Kind in
    let me = c.in_ok-register.register in
    let own = ap g.D.Device.meaning c.in_ok-register.ensures in
    let d = g.D.Device.meaning me.device.now in
    let small = c.in_ok-check_number.ensures in
    let rests = rests_is (at_rest k.code k.reading d) me.rests in
    let passed = c.in_ok-check_take.ensures in
    subst (λ d. PlannedAs (take_plan k.code k.form k.reading d c.args.number) c.plan_take.result) own
    (subst (λ p. PlannedAs p c.plan_take.result)
    (sym (goes_on_lem k.code k.form k.reading d _ _ small me.found _ rests me.finds _ passed))
    (c.plan_take.ensures (allowed k.code k.form k.reading d _ _ small me.found _ rests me.finds _ passed me.storable)))
