use Rattle.std.proofs.Common.{drop}
use Rattle.journal.specs.Writes.{images_from}
use Rattle.journal.proofs.Writes.{Leads}
use Rattle.journal.proofs.runs.write_images.Given as goal

abbrev pub invariant-loop-change : goal.invariant-loop-change
invariant-loop-change g l = Leads (images_from l.first l.changes) (g.D.Device.meaning l.initial.device) (images_from l.block (drop l.change-index l.changes)) (g.D.Device.meaning l.device)
