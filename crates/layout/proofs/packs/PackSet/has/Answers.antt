use Rattle.std.proofs.Common.{◌≡◌, get_or, ap, ◌∙◌, arith}
use Rattle.std.specs.Option.{unwrap_or}
use Rattle.layout.proofs.SetLaws.{looked_up}
use Rattle.layout.proofs.packs.PackSet.has.Goals as goal

pub returns : goal.returns
returns c =
    let bytes = c.args.self.now.bytes in
    let is : c.unwrap_or-byte.result ≡ get_or bytes c.from.result 0 =
    c.unwrap_or-byte.ensures ∙ ap (λ o. unwrap_or o 0) c.copied.ensures ∙ c.get.ensures.lookup.4 (omega arith) 0 in
    looked_up bytes c.args.number c.from.result c.unwrap_or-byte.result c.from.ensures is
