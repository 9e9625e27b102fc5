use Rattle.std.proofs.Common.{◌≡◌, length, sym, subst}
use Rattle.items.specs.Padded.{Padded}
use Rattle.items.specs.Texts.{padded, padded_is}
use Rattle.items.specs.Same.{made_text, padded_from}
use Rattle.items.proofs.text.Text.short.Goals as goal

pub invariant_of-result : goal.invariant_of-result
invariant_of-result g c =
    let bytes : c.array_at-bytes.result ≡ padded g.row.N c.args.characters.now = padded_from _ _ _ c.requires c.array_at-bytes.ensures.long c.array_at-bytes.ensures.each in
    record { padded = subst (Padded g.row.N (length c.args.characters.now)) (sym bytes) (padded_is g.row.N c.args.characters.now c.requires) }

pub returns : goal.returns
returns g c =
    made_text g.row.N c.args.characters.now c.requires _ (padded_from _ _ _ c.requires c.array_at-bytes.ensures.long c.array_at-bytes.ensures.each) _
