use Rattle.layout.proofs.LayoutLaws.{reads_back}
use Rattle.layout.proofs.laws.layout_reads_back.Goals as goal

pub returns : goal.returns
returns g c =
    let k = g.K.Kind in
    let law = g.met.K.Kind in
    reads_back k.code k.form k.reading law.known law.sized law.bounded law.round law.exact
