-- What the register at rest that a call found keeps.
-- Assumes nothing.
use Rattle.items.specs.declared.kind.Kind as trait_of
use Rattle.device.specs.declared.Device as device_of
use Rattle.pairing.specs.Reservoir.{Reservoir}
use Rattle.register.specs.Rested.{kept_on}
use Rattle.register.specs.declared.resting.Resting.{Resting}

-- the reservoir that it keeps
abbrev pub kept_by : {X D : Type 0} → (k : trait_of.Ghosts X) → (g : device_of.Ghosts D) → Resting X D k g → Reservoir X
kept_by k g r = kept_on k (g.meaning r.device.now)
