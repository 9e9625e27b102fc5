use Rattle.std.proofs.Common.{[], ◌∷◌, sym, refl, ◌∙◌}
use Rattle.octets.proofs.Edits.{piece}
use Rattle.octets.proofs.Numbers.{little_4, little_8}
use Rattle.journal.specs.Header.{field_bytes}
use Rattle.journal.proofs.headers.fields.Fields.to_bytes.Goals as goal

pub returns : goal.returns
unfolding field_bytes
returns c =
    let f = c.args.self.now in
    piece 46 (piece 44 (piece 42 (piece 40 (piece {ys = f.call.used ∷ []} 32 (piece 24 (piece 16 (piece 12 (piece 8 (piece 6 (piece {ys = f.call.letter ∷ []} 4 c.put.ensures
    c.put-2.ensures refl)
    c.put-3.ensures c.to_le_bytes.ensures)
    c.put-4.ensures (c.to_le_bytes-2.ensures ∙ sym (little_4 f.call.width)))
    c.put-5.ensures (c.to_le_bytes-3.ensures ∙ sym (little_4 f.call.draw)))
    c.put-6.ensures (c.to_le_bytes-4.ensures ∙ sym (little_8 f.calls)))
    c.put-7.ensures (c.to_le_bytes-5.ensures ∙ sym (little_8 f.words)))
    c.put-8.ensures refl)
    c.put-9.ensures c.to_le_bytes-6.ensures)
    c.put-10.ensures c.to_le_bytes-7.ensures)
    c.put-11.ensures c.to_le_bytes-8.ensures)
    c.put-12.ensures c.to_le_bytes-9.ensures
