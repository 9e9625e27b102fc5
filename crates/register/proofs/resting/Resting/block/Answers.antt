use Rattle.std.proofs.Common.{ap}
use Rattle.layout.proofs.LayoutLaws.{reads_exactly}
use Rattle.reader.specs.Reads.{BlockRead}
use Rattle.reader.proofs.BlockLaws.{plain_is}
use Rattle.register.specs.Rested.{resting}
use Rattle.register.proofs.Held.{read_held, rested_held}
use Rattle.register.proofs.resting.Resting.block.Goals as goal

pub returns : goal.returns
returns g c laid =
    let k = g.K.Kind in
    let law = g.met.K.Kind in
    let d = g.D.Device.meaning c.args.self.now.device.now in
    let exact = reads_exactly k.code k.form k.reading law.known law.sized law.bounded law.round law.exact in
    read_held k.code k.form law.sized law.bounded d (resting k.code k.reading d) c.args.block c.bytes.result
    (rested_held k.code k.form k.reading exact d c.args.self.now.rests)
    laid
    (plain_is (λ d first targets. BlockRead d first targets c.args.block c.bytes.result) (ap g.D.Device.meaning c.plain.ensures.device) c.plain.ensures.own c.bytes.ensures)
