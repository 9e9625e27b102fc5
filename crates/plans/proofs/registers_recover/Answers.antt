use Rattle.layout.proofs.LayoutLaws.{reads_back}
use Rattle.plans.proofs.Recovering.{recovers}
use Rattle.plans.proofs.registers_recover.Goals as goal

pub returns : goal.returns
returns g c =
    let k = g.K.Kind in
    let law = g.met.K.Kind in
    let back = reads_back k.code k.form k.reading law.known law.sized law.bounded law.round law.exact in
    recovers k.code k.form k.reading back law.sized law.bounded
