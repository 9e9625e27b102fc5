use Rattle.std.proofs.Common.{◌-◌, length, Ok, sym, ap, ◌∙◌}
use Rattle.pairing.specs.Reservoir.{taken}
use Rattle.plans.specs.Plans.{changes_to}
use Rattle.register.specs.Rested.{resting}
use Rattle.register.specs.Takes.{slot_targets}
use Rattle.register.proofs.resting.Resting.slot_changes.Goals as goal

pub returns-in_default : goal.returns-in_default
returns-in_default g c = λ number is.
    let k = g.K.Kind in
    let s = resting k.code k.reading (g.D.Device.meaning c.args.self.now.device.now) in
    c.kept_changes.ensures number (length s.slots - 1) (sym is ∙ c.in_default.is)
    ∙ ap (λ o. Ok (changes_to k.code k.form (taken s number) (slot_targets o (length s.slots - 1)))) (sym c.in_default.is)
