use Rattle.std.proofs.Common.{rules}
use Rattle.layout.specs.Reading.{unused_fault}
use Rattle.layout.proofs.slots.read_unused.Goals as goal

pub returns-then-all_zero : goal.returns-then-all_zero
unfolding unused_fault
returns-then-all_zero c = search rules

pub returns-else-all_zero : goal.returns-else-all_zero
unfolding unused_fault
returns-else-all_zero c = search rules
