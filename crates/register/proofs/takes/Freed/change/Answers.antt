use Rattle.std.proofs.Common.{Ok, ap, ◌∙◌}
use Rattle.journal.specs.Writes.{write_at}
use Rattle.layout.specs.Layout.{content}
use Rattle.register.specs.Rested.{resting}
use Rattle.register.proofs.Held.{slot_laid, ok_is}
use Rattle.register.proofs.TakeContents.{bytes_freed}
use Rattle.register.proofs.takes.Freed.change.Goals as goal

pub returns : goal.returns
returns g c = λ number frees low.
    let k = g.K.Kind in
    let s = resting k.code k.reading (g.D.Device.meaning c.args.register.now.device.now) in
    let at = c.slot_block-block.ensures in
    let was = ok_is (c.in_ok-block.ensures (slot_laid _ c.args.at at low)) ∙ ap (content k.code k.form s) at in
    λ i. Ok (write_at (at i) ((c.apply-bytes.ensures ∙ bytes_freed k.code k.form g.met.K.Kind.sized s number _ _ _ frees c.args.at _ was) i))
