-- Numbers in bytes, the lowest first.
-- Assumes nothing.
use Rattle.std.specs.Prelude.{ℕ, zero, suc, ◌+◌, ◌*◌, ◌/◌, ◌%◌, List, [], ◌∷◌, take, drop}

-- a number in so many bytes
abbrev pub little : ℕ → ℕ → List ℕ
little zero n = []
little (suc c) n = n % 256 ∷ little c (n / 256)

-- the number that bytes spell
abbrev pub value_of : List ℕ → ℕ
value_of [] = 0
value_of (b ∷ bs) = b + 256 * value_of bs

-- the number in so many bytes from a place on
abbrev pub number_at : List ℕ → ℕ → ℕ → ℕ
number_at xs at count = value_of (take count (drop at xs))
