-- The law of one call: where a register stands, every call has an outcome of the table, and the register stands after it.
-- Assumes nothing.
use Rattle.std.specs.Prelude.{ℕ, List, ◌≢◌}
use Rattle.device.specs.Disk.{Disk, Event}
use Rattle.pairing.specs.Reservoir.{Reservoir}
use Rattle.session.specs.Calls.{Kind, Call, Reply, DidCall}
use Rattle.session.specs.Runs.{Keeps}
use Rattle.session.specs.Steps.{Step, after}

-- for two kinds with different codes
abbrev pub StepsAreLawful : {X Y : Type 0} → Kind X → Kind Y → Type 0
StepsAreLawful {X} {Y} own other =
    (own.code ≢ other.code) →
    (d d' : Disk) (page page' : List ℕ) (r : Reservoir X) (c : Call X Y) (a : Reply) (es : List Event) → Keeps own d r →
    DidCall own other d page c a es d' page' →
    Step own other d page r c a es d' page' (after c es r) × Keeps own d' (after c es r)
