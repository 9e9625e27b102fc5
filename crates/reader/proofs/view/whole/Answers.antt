use Rattle.std.proofs.Common.{◌≡◌, ℕ, ◌<◌, length, get_or, rules}
use Rattle.reader.proofs.view.whole.Goals as goal
use Rattle.reader.proofs.BlockLaws.{whole_bytes}
use Rattle.octets.proofs.Under.{under_from}
use Rattle.layout.proofs.Blocks.{block_from}

pub returns-in-Some : goal.returns-in-Some
returns-in-Some c =
    let l : length c.in-Some.bytes ≡ 512 = search rules in
    let e : (i : ℕ) → get_or c.in-Some.bytes i 0 < 256 = (λ i. search rules) in
    whole_bytes _ _ c.args.block c.in-Some.is (block_from _ l (under_from _ e))
