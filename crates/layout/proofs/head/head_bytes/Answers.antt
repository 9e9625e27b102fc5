use Rattle.std.proofs.Common.{sym, ap, ◌∙◌}
use Rattle.octets.specs.Numbers.{little}
use Rattle.octets.proofs.Edits.{piece}
use Rattle.octets.proofs.Numbers.{little_8}
use Rattle.layout.proofs.HeadSteps.{one_byte, head_made}
use Rattle.layout.proofs.head.head_bytes.Goals as goal

pub returns : goal.returns
returns c =
    head_made c.args.code c.args.counters.counts c.get-n.result _ c.get-n.ensures
    (piece 32 (piece 24 (piece 16 (piece 14 (piece 12 (piece 10 (piece 8 (piece 4 c.put.ensures
    c.put-2.ensures (one_byte c.args.code c.ranges.code.fits))
    c.put-3.ensures c.to_le_bytes.ensures)
    c.put-4.ensures c.to_le_bytes-2.ensures)
    c.put-5.ensures c.to_le_bytes-3.ensures)
    c.put-6.ensures c.to_le_bytes-4.ensures)
    c.put-7.ensures c.to_le_bytes-5.ensures)
    c.put-8.ensures (c.to_le_bytes-6.ensures ∙ sym (little_8 c.from.result) ∙ ap (little 8) c.from.ensures))
    c.put-9.ensures (c.to_le_bytes-7.ensures ∙ sym (little_8 c.get-n.result.words)))
