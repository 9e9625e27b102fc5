-- A block put into a set.
-- Assumes nothing.
use Rattle.std.specs.Prelude.{ℕ, ◌*◌, cond, List, nat_lt}
use Rattle.octets.specs.Edits.{written}

-- the eight blocks of a set, with another j-th
unfoldable pub with_part : List ℕ → ℕ → List ℕ → List ℕ
with_part xs j new = cond (nat_lt j 8) (written xs (512 * j) new) xs
