-- A text in a fixed array: its characters, then zeros.
-- Assumes nothing.
use Rattle.std.specs.Prelude.{◌≡◌, ℕ, ◌-◌, ◌≤◌, List, length, drop}
use Rattle.octets.specs.Zeros.{zeros}

-- n bytes in all, of which those from len on are zeros
abbrev pub Padded : ℕ → ℕ → List ℕ → Type 0
Padded n len bytes = (len ≤ n) × (length bytes ≡ n) × (drop len bytes ≡ zeros (n - len))
