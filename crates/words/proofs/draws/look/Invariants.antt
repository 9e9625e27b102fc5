use Rattle.std.proofs.Common.{◌≡◌, ◌-◌}
use Rattle.words.specs.Draws.{addressable, looked, draw_of}
use Rattle.words.proofs.draws.look.Given as goal

-- what the words still to be looked at give is the draw
abbrev pub invariant-loop-used : goal.invariant-loop-used
invariant-loop-used g l =
    let words = addressable (g.S.Source.words l.source) in
    looked words l.width.value l.place l.used (64 - l.used) ≡ draw_of words l.width.value l.place
