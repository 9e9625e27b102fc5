use Rattle.std.proofs.Common.{◌≡◌, ◌+◌, ◌≤◌, false, drop}
use Rattle.intake.proofs.Scans.{lines_count}
use Rattle.intake.proofs.count_lines.Given as goal

abbrev pub invariant-loop-byte : goal.invariant-loop-byte
invariant-loop-byte l = (l.lines ≤ l.byte-index) × (l.lines + lines_count l.filling (drop l.byte-index l.input) ≡ lines_count false l.input)
