use Rattle.std.proofs.Common.{◌≡◌}
use Rattle.layout.specs.Layout.{content}
use Rattle.register.specs.Rested.{resting}
use Rattle.register.proofs.Showing.{shown_over}
use Rattle.register.proofs.resting.Resting.fill.Given as goal

-- the blocks before are in the page, and the rest of it stays
abbrev pub invariant-loop-j : goal.invariant-loop-j
invariant-loop-j g l =
    l.page
    ≡ shown_over (content g.K.Kind.code g.K.Kind.form (resting g.K.Kind.code g.K.Kind.reading (g.D.Device.meaning l.self.device.now))) 14 l.j l.initial.page
