use Rattle.std.proofs.Common.{◌≡◌, true, false, drop, is_some, sym, ◌∙◌}
use Rattle.layout.specs.Reading.{in_set}
use Rattle.layout.proofs.FaultSteps.{form_read, used_mark, used_range, used_absent, used_unlawful, used_read}
use Rattle.layout.proofs.slots.read_used.Goals as goal

pub returns-then-not-all_zero : goal.returns-then-not-all_zero
returns-then-not-all_zero g c =
    used_mark g.K.Kind.reading (in_set c.args.set.now.bytes) c.args.block c.args.slot.now _ c.not_register.ensures
    (sym c.if-not-all_zero.ensures)

pub returns-then-number-ge32768 : goal.returns-then-number-ge32768
returns-then-number-ge32768 g c =
    used_range g.K.Kind.reading (in_set c.args.set.now.bytes) c.args.block c.args.slot.now _ c.u16_at-number.ensures
    (sym c.if-not-all_zero.ensures) _ c.not_register-then-number-ge32768.ensures c.if-number-ge32768.true

pub returns-then-not-has : goal.returns-then-not-has
returns-then-not-has g c =
    used_absent g.K.Kind.reading (in_set c.args.set.now.bytes) c.args.block c.args.slot.now _ c.u16_at-number.ensures
    (sym c.if-not-all_zero.ensures) c.if-number-ge32768.false _ c.not_register-then-not-has.ensures (sym c.if-not-has.ensures)

pub returns-then-is_none : goal.returns-then-is_none
returns-then-is_none g c =
    let form : is_some (g.K.Kind.reading (drop 4 c.args.slot.now)) ≡ false = form_read g.K.Kind.reading c.args.slot.now _ c.told-slot c.from_form.ensures ∙ c.if-is_none.ensures in
    used_unlawful g.K.Kind.reading (in_set c.args.set.now.bytes) c.args.block c.args.slot.now _ c.u16_at-number.ensures
    (sym c.if-not-all_zero.ensures) c.if-number-ge32768.false (sym c.if-not-has.ensures) _ c.not_register-then-is_none.ensures form

pub returns : goal.returns
returns g c =
    let form : is_some (g.K.Kind.reading (drop 4 c.args.slot.now)) ≡ true = form_read g.K.Kind.reading c.args.slot.now _ c.told-slot c.from_form.ensures ∙ c.if-is_none.ensures in
    used_read g.K.Kind.reading (in_set c.args.set.now.bytes) c.args.block c.args.slot.now _ c.u16_at-number.ensures
    (sym c.if-not-all_zero.ensures) c.if-number-ge32768.false (sym c.if-not-has.ensures) form
