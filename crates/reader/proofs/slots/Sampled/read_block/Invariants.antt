use Rattle.std.proofs.Common.{◌≡◌, ℕ, ◌+◌, ◌*◌, Some}
use Rattle.layout.specs.Reading.{slot_fault}
use Rattle.reader.specs.Reads.{Gathered}
use Rattle.reader.proofs.SlotScans.{SoFar}
use Rattle.reader.proofs.slots.Sampled.read_block.Given as goal
use Rattle.device.specs.Disk.{Entry}

-- the slots below were read without a fault
abbrev pub invariant-loop-i : goal.invariant-loop-i
invariant-loop-i g l =
    (view : ℕ → Entry) → view (14 + l.j) ≡ Some l.bytes → Gathered view l.k (8 * l.j) l.initial.self →
    SoFar (slot_fault g.K.Kind.reading view l.k (14 + l.j)) view l.k (8 * l.j) 8 l.i l.self
