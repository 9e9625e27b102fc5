use Rattle.layout.proofs.LayoutLaws.{reads_exactly}
use Rattle.layout.proofs.laws.readings_are_exact.Goals as goal

pub returns : goal.returns
returns g c =
    let k = g.K.Kind in
    let law = g.met.K.Kind in
    reads_exactly k.code k.form k.reading law.known law.sized law.bounded law.round law.exact
