use Rattle.std.proofs.Common.{◌∙◌, ap, sym, position, eqb}
use Rattle.register.proofs.Taking.{slot_is}
use Rattle.register.proofs.resting.Resting.slot.Goals as goal

pub returns-in_err-slot : goal.returns-in_err-slot
returns-in_err-slot g c =
    c.from_residual.ensures ∙ sym c.in_err-slot.was
    ∙ slot_is c.args.self.now.found _ c.args.number c.args.self.now.finds _
    (c.place_of.ensures.place ∙ ap (position (λ m. eqb m c.args.number)) c.numbers.ensures.all)

pub returns : goal.returns
returns g c =
    sym c.in_ok-slot.was
    ∙ slot_is c.args.self.now.found _ c.args.number c.args.self.now.finds _
    (c.place_of.ensures.place ∙ ap (position (λ m. eqb m c.args.number)) c.numbers.ensures.all)
