use Rattle.std.proofs.Common.{◌≡◌, ◌*◌, length, sym, ap, ◌∙◌, arith, rules}
use Rattle.std.proofs.lemmas.Bool.{cond-true, cond-false, lt-ltb, le-ltb}
use Rattle.octets.specs.Edits.{written}
use Rattle.octets.proofs.Edits.{placed_fits}
use Rattle.layout.specs.Edits.{with_part}
use Rattle.layout.proofs.packs.PackSet.put_block.Goals as goal

pub returns-then-j-lt8 : goal.returns-then-j-lt8
unfolding with_part
returns-then-j-lt8 c =
    let xs = c.args.self.now.bytes in
    let new = c.args.block.now in
    let long : length xs ≡ 4096 = search rules in
    let size : length new ≡ 512 = search rules in
    c.put.ensures
    ∙ placed_fits xs new (512 * c.from.result) (omega (arith, long, size, c.from.ensures, c.if-j-lt8.true))
    ∙ ap (λ j. written xs (512 * j) new) c.from.ensures
    ∙ sym (cond-true _ _ _ (lt-ltb c.args.j 8 c.if-j-lt8.true))

pub returns-else-j-lt8 : goal.returns-else-j-lt8
unfolding with_part
returns-else-j-lt8 c = sym (cond-false _ _ _ (le-ltb c.args.j 8 c.if-j-lt8.false))
