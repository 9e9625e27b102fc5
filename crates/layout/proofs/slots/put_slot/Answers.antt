use Rattle.std.proofs.Common.{◌≡◌, ◌+◌, ◌*◌, ◌%◌, ◌++◌, length, take, drop, ◌∙◌, arith, rules}
use Rattle.octets.proofs.Edits.{placed_fits}
use Rattle.layout.specs.Layout.{with_slot}
use Rattle.layout.proofs.slots.put_slot.Goals as goal

pub returns : goal.returns
unfolding with_slot
returns c =
    let xs = c.args.block.now in
    let new = c.args.bytes.now in
    let long : length xs ≡ 512 = search rules in
    let size : length new ≡ 64 = search rules in
    let at : 64 * c.from.result ≡ 64 * (c.args.slot % 8) = omega (arith, c.from.ensures) in
    c.put.ensures
    ∙ placed_fits xs new (64 * c.from.result) (omega (arith, long, size, c.from.ensures))
    ∙ (λ i. take (at i) xs ++ (new ++ drop (at i + size i) xs))
