-- The worked examples of draws. Assumes nothing.
use Rattle.std.proofs.Common.{refl, ap, ◌∙◌, add-zero, arith}
use Rattle.words.specs.Laws.{Examples}
use Rattle.words.proofs.Looks.{draw_wide, looked_low, looked_high}

pub examples : Examples
examples = (
  λ words place is.
      draw_wide words 3 place (λ e. omega arith)
      ∙ looked_low words 3 place 0 64 63 refl 4294967294 (ap words (add-zero place) ∙ is) (omega arith),
  λ words place is then.
      draw_wide words 3 place (λ e. omega arith)
      ∙ looked_high words 3 place 0 64 63 refl 4294967295 (ap words (add-zero place) ∙ is) (omega arith)
      ∙ looked_low words 3 place 1 63 62 refl 4 then (omega arith),
)
