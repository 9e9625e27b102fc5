use Rattle.std.proofs.Common.{is_ok, sym, ap, subst}
use Rattle.layout.specs.Laws.{Storable}
use Rattle.layout.proofs.LayoutLaws.{reads_exactly}
use Rattle.reader.specs.Reads.{Finds}
use Rattle.register.specs.Rested.{held}
use Rattle.register.proofs.Held.{rested}
use Rattle.register.proofs.resting.Resting.read.Goals as goal

pub invariant_of-result : goal.invariant_of-result
invariant_of-result g c =
    let k = g.K.Kind in
    let law = g.met.K.Kind in
    let exact = reads_exactly k.code k.form k.reading law.known law.sized law.bounded law.round law.exact in
    let d = g.D.Device.meaning c.args.device.now in
    let read = c.in_ok-found.ensures in
    let is = sym (ap held read.1) in
    record {
      rests = ap is_ok read.1;
      storable = subst Storable is (rested k.code k.form k.reading exact d read.0 read.1).storable;
      finds = subst (Finds c.in_ok-found.found) is read.2;
    }
