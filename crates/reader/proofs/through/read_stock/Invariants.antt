use Rattle.plans.specs.Views.{viewed}
use Rattle.reader.specs.Reads.{Steady}
use Rattle.reader.proofs.StockScans.{StockSoFar}
use Rattle.reader.proofs.through.read_stock.Given as goal

-- the blocks before were read
abbrev pub invariant-loop-j : goal.invariant-loop-j
invariant-loop-j g l =
    let d = g.D.Device.meaning l.view.device.now in
    Steady d l.view.first l.view.targets.now →
    StockSoFar (viewed d l.view.first l.view.targets.now) l.j l.stock.bytes
