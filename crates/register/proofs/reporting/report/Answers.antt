use Rattle.std.proofs.Common.{Ok, ap, ◌∙◌, subst}
use Rattle.plans.specs.Plans.{at_rest}
use Rattle.register.specs.Reports.{Shown}
use Rattle.register.proofs.Held.{rests_is}
use Rattle.register.proofs.Showing.{too_short_lem, unread, all_shown}
use Rattle.register.proofs.reporting.report.Goals as goal

pub returns-in_err-check_page : goal.returns-in_err-check_page
returns-in_err-check_page g c =
    let k = g.K.Kind in
    too_short_lem k.code k.form k.reading _ _ _ _ c.from_residual.ensures.1 c.in_err-check_page.ensures

pub returns-in_err-register : goal.returns-in_err-register
returns-in_err-register g c =
    let k = g.K.Kind in
    unread k.code k.form k.reading _ _ _ c.in_ok-check_page.ensures _ _ c.from_residual-in_err-register.ensures.1
    c.in_err-register.ensures

pub returns : goal.returns
returns g c =
    let k = g.K.Kind in
    let me = c.in_ok-register.register in
    let d = g.D.Device.meaning me.device.now in
    subst (λ d. Shown k.code k.form k.reading d c.args.page.now (Ok c.get.result) c.fill.new.page) (ap g.D.Device.meaning c.in_ok-register.ensures)
    (all_shown k.code k.form k.reading d c.args.page.now _ c.in_ok-check_page.ensures _ _ c.fill.new.page
    (rests_is (at_rest k.code k.reading d) me.rests) (c.get.ensures ∙ me.finds.counts) c.in_ok-fill.ensures.1)
