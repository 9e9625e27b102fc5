use Rattle.std.proofs.Common.{◌≡◌}
use Rattle.layout.specs.Reading.{stock_in}
use Rattle.plans.specs.Views.{viewed}
use Rattle.reader.specs.Reads.{Steady}
use Rattle.reader.proofs.SlotScans.{BlocksSoFar}
use Rattle.reader.proofs.through.read_slots.Given as goal

-- the blocks before were read without a fault
abbrev pub invariant-loop-j : goal.invariant-loop-j
invariant-loop-j g l =
    let d = g.D.Device.meaning l.view.device.now in
    let blocks = viewed d l.view.first l.view.targets.now in
    Steady d l.view.first l.view.targets.now → l.initial.sampled.unsampled.bytes ≡ stock_in blocks →
    BlocksSoFar g.K.Kind.reading blocks l.k l.j l.sampled
