use Rattle.std.proofs.Common.{◌≡◌, ◌*◌, ◌≤◌, reverse, take}
use Rattle.items.specs.CheckDigit.{weighed}
use Rattle.items.proofs.rules.sections.check_sum.Given as goal

abbrev pub invariant-loop-digit : goal.invariant-loop-digit
invariant-loop-digit l =
    (l.sum ≡ weighed 1 3 (reverse (take l.digit-index l.code)))
    × (l.other ≡ weighed 3 1 (reverse (take l.digit-index l.code)))
    × (l.sum ≤ 621 * l.digit-index)
    × (l.other ≤ 621 * l.digit-index)
