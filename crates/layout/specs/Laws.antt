-- Laying out and reading are each other's inverse.
-- Assumes nothing.
use Rattle.std.specs.Prelude.{◌≡◌, ℕ, ◌^◌, ◌<◌, List, Ok, Option}
use Rattle.pairing.specs.Reservoir.{Reservoir}
use Rattle.pairing.specs.Rules.{Lawful}
use Rattle.layout.specs.Layout.{Holds}
use Rattle.layout.specs.Reading.{decode}
use Rattle.device.specs.Disk.{Entry}

-- a reservoir that can be stored: it keeps the rules, and its calls can be counted
pub record Storable {X : Type 0} (r : Reservoir X) : Type 0 where
  pub lawful : Lawful r
  pub countable : r.calls < 2 ^ 32

-- a reservoir that is laid out reads back
abbrev pub ReadsBack : {X : Type 0} → ℕ → (X → List ℕ) → (List ℕ → Option X) → Type 0
ReadsBack {X} code form reading =
    (blocks : ℕ → Entry) (r : Reservoir X) → Storable r → Holds code form blocks r → decode code reading blocks ≡ Ok r

-- blocks that read as a reservoir are exactly its layout
abbrev pub ReadsExactly : {X : Type 0} → ℕ → (X → List ℕ) → (List ℕ → Option X) → Type 0
ReadsExactly {X} code form reading =
    (blocks : ℕ → Entry) (r : Reservoir X) → decode code reading blocks ≡ Ok r → Storable r × Holds code form blocks r
