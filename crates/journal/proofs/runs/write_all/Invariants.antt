use Rattle.std.proofs.Common.{drop}
use Rattle.journal.proofs.Writes.{Leads}
use Rattle.journal.proofs.runs.write_all.Given as goal

abbrev pub invariant-loop-write : goal.invariant-loop-write
invariant-loop-write g l = Leads l.writes (g.D.Device.meaning l.initial.device) (drop l.write-index l.writes) (g.D.Device.meaning l.device)
