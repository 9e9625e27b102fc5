-- Each arm is a step of the line that the field holds.
use Rattle.std.proofs.Common.{◌≡◌, false, eqb, None, sym, subst, rules}
use Rattle.intake.specs.Field.{Holds, Scanned}
use Rattle.intake.proofs.Fields.{filling_more, overlong_more}
use Rattle.intake.proofs.field.Field.scan.Goals as goal

pub returns-in-Filling-default-clause-step : goal.returns-in-Filling-default-clause-step
returns-in-Filling-default-clause-step c = λ line h.
    let not-confirm : eqb c.args.byte 10 ≡ false = search rules in
    let not-cancel : eqb c.args.byte 24 ≡ false = search rules in
    subst (λ xs. Scanned line c.args.byte None c.add-in-Filling-default.new.self.state xs) (sym c.add-in-Filling-default.ensures.bytes)
    (filling_more line c.in-Filling-default.n c.args.byte c.add-in-Filling-default.new.self.state c.args.self.now.bytes.now
    not-confirm not-cancel
    (subst (λ s. Holds line s c.args.self.now.bytes.now) c.in-Filling-default.is-0 h)
    c.add-in-Filling-default.ensures.state)

pub returns-in-Overlong-default-clause-step : goal.returns-in-Overlong-default-clause-step
returns-in-Overlong-default-clause-step c = λ line h.
    let not-confirm : eqb c.args.byte 10 ≡ false = search rules in
    let not-cancel : eqb c.args.byte 24 ≡ false = search rules in
    subst (λ s. Scanned line c.args.byte None s c.args.self.now.bytes.now) (sym c.in-Overlong-default.is-0)
    (overlong_more line c.args.byte c.args.self.now.bytes.now not-confirm not-cancel
    (subst (λ s. Holds line s c.args.self.now.bytes.now) c.in-Overlong-default.is-0 h))
