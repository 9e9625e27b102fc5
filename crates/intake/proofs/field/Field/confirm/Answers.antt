-- Each state tells what the line comes to.
use Rattle.std.proofs.Common.{Some, ap, ◌∙◌, subst}
use Rattle.intake.specs.Field.{Holds}
use Rattle.intake.proofs.Fields.{empty_confirmed, filling_confirmed, overlong_confirmed}
use Rattle.intake.proofs.field.Field.confirm.Goals as goal
use Rattle.intake.proofs.field.Field.confirm.Goals.{in-Empty, in-Filling, in-Overlong}

pub returns-clause-line : goal.returns-clause-line
returns-clause-line c = λ line h.
    let bytes = c.args.self.now.bytes.now in
    elim c.match-self.branch [
      | in-Empty w ↦ w.entry-is ∙ empty_confirmed line bytes (subst (λ s. Holds line s bytes) w.in-Empty.is h)
      | in-Filling w ↦
          w.entry-is ∙ ap Some w.parse.ensures.value
          ∙ filling_confirmed line w.in-Filling.n bytes (subst (λ s. Holds line s bytes) w.in-Filling.is h)
      | in-Overlong w ↦ w.entry-is ∙ overlong_confirmed line bytes (subst (λ s. Holds line s bytes) w.in-Overlong.is h)
    ]
