use Rattle.std.proofs.Common.{sym, ◌∙◌}
use Rattle.std.proofs.lemmas.Slice.Eq.{slice_eq-Decides}
use Rattle.layout.proofs.SetLaws.{decides_same}
use Rattle.layout.proofs.packs.same_bytes.Goals as goal
use Rattle.std.proofs.lemmas.Bool.Decides.{Decides-eqb}

pub returns-clause-numbers : goal.returns-clause-numbers
returns-clause-numbers c =
    decides_same c.args.left.now c.args.right.now (c.told-left ∙ sym c.told-right) c.fits-left c.fits-right c.eq.result
    (slice_eq-Decides Decides-eqb c.args.left.now c.args.right.now c.eq.result c.eq.ensures)
