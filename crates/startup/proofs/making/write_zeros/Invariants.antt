use Rattle.std.proofs.Common.{◌-◌}
use Rattle.journal.proofs.Writes.{Leads}
use Rattle.startup.specs.Makes.{zero_writes}
use Rattle.startup.proofs.making.write_zeros.Given as goal

-- the blocks before are done
abbrev pub invariant-loop-block : goal.invariant-loop-block
invariant-loop-block g l = Leads (zero_writes 6 72) (g.D.Device.meaning l.initial.device) (zero_writes l.block (78 - l.block)) (g.D.Device.meaning l.device)
