-- Bytes that are all zeros, or all pass a test.
-- Assumes nothing.
use Rattle.std.specs.Prelude.{ℕ, Bool, List, replicate, ◌==◌}
use Rattle.std.specs.List.{list_all}

abbrev pub zeros : ℕ → List ℕ
zeros n = replicate n 0

-- each byte passes the test
abbrev pub every : (ℕ → Bool) → List ℕ → Bool
every test bytes = list_all test bytes

abbrev pub blank : ℕ → Bool
blank b = b == 0
