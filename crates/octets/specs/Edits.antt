-- Bytes written over others.
-- Assumes nothing.
use Rattle.std.specs.Prelude.{ℕ, ◌+◌, cond, List, ◌++◌, length, take, drop, nat_le}

-- xs with new bytes from a place on
abbrev pub written : List ℕ → ℕ → List ℕ → List ℕ
written xs at new = take at xs ++ (new ++ drop (at + length new) xs)

-- the same where there is room for all of them, and xs where there is not
abbrev pub placed : List ℕ → ℕ → List ℕ → List ℕ
placed xs at new = cond (nat_le (at + length new) (length xs)) (written xs at new) xs
