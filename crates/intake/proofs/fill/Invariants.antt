use Rattle.std.proofs.Common.{◌≡◌}
use Rattle.intake.proofs.Fills.{Filled}
use Rattle.intake.proofs.fill.Given as goal

abbrev pub invariant-loop-byte : goal.invariant-loop-byte
invariant-loop-byte l =
    (l.field.bytes.ghost_name ≡ l.initial.field.bytes.ghost_name)
    × Filled l.input l.initial.table l.byte-index l.count l.field.state l.field.bytes.now l.table
