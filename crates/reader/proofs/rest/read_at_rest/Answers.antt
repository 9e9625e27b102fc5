use Rattle.std.proofs.Common.{sym, ap, subst}
use Rattle.layout.specs.Reading.{decode}
use Rattle.plans.specs.Views.{viewed}
use Rattle.reader.specs.Reads.{Steady, ReadAs}
use Rattle.reader.proofs.AtRest.{large, small_refused, offline_refused, header_refused, rest_reads, rest_steady}
use Rattle.reader.proofs.BlockLaws.{plain_is}
use Rattle.reader.proofs.Wholes.{read_exit}
use Rattle.reader.proofs.rest.read_at_rest.Goals as goal

pub returns-in_err-require_blocks : goal.returns-in_err-require_blocks
returns-in_err-require_blocks g c =
    read_exit _ _ _ c.from_residual.ensures.1 (small_refused g.K.Kind.code g.K.Kind.reading _ _ c.in_err-require_blocks.ensures)

pub returns-in_err-read_header : goal.returns-in_err-read_header
returns-in_err-read_header g c =
    let d = g.D.Device.meaning c.args.device.now in
    read_exit _ _ _ c.from_residual-in_err-read_header.ensures.1
    (offline_refused g.K.Kind.code g.K.Kind.reading d (large d c.in_ok-require_blocks.ensures) _ c.in_err-read_header.ensures)

pub returns-in_err-require_free : goal.returns-in_err-require_free
returns-in_err-require_free g c =
    let d = g.D.Device.meaning c.args.device.now in
    read_exit _ _ _ c.from_residual-in_err-require_free.ensures.1
    (header_refused g.K.Kind.code g.K.Kind.reading d (large d c.in_ok-require_blocks.ensures) _ c.in_ok-read_header.ensures _
    c.in_err-require_free.ensures)

pub returns : goal.returns
returns g c =
    let k = g.K.Kind in
    let d = g.D.Device.meaning c.args.device.now in
    let enough = large d c.in_ok-require_blocks.ensures in
    let got = c.in_ok-read_header.ensures in
    subst
    (λ a. ReadAs a c.read_through.result)
    (sym (rest_reads k.code k.reading d enough _ got _ c.in_ok-require_free.ensures))
    (plain_is
    (λ d first targets. Steady d first targets → ReadAs (decode k.code k.reading (viewed d first targets)) c.read_through.result)
    (ap g.D.Device.meaning c.plain.ensures.device) c.plain.ensures.own c.read_through.ensures
    (rest_steady k.code k.reading d enough _ got))
