use Rattle.std.proofs.Common.{[], ◌∷◌, Ok, refl, ap, ◌∙◌, arith}
use Rattle.journal.specs.Writes.{write_at}
use Rattle.register.specs.Rested.{resting}
use Rattle.register.proofs.Held.{slot_laid, ok_is}
use Rattle.register.proofs.TakeContents.{content_kept}
use Rattle.register.proofs.resting.Resting.kept_changes.Goals as goal

pub returns : goal.returns
returns g c = λ number last none.
    let k = g.K.Kind in
    let s = resting k.code k.reading (g.D.Device.meaning c.args.self.now.device.now) in
    ap (λ b. Ok (write_at 14 b ∷ write_at 14 b ∷ []))
    (ok_is (c.in_ok-block.ensures (slot_laid 14 0 refl (omega arith))) ∙ content_kept k.code k.form g.met.K.Kind.sized s number none 0)
