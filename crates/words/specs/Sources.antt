-- The words of a tape.
-- Assumes nothing.
use Rattle.std.specs.Prelude.{ℕ, ◌+◌, ◌*◌, cond, List, length, Some, None, Option, nat_le}
use Rattle.octets.specs.Numbers.{number_at}

-- word n of a tape is the number in its bytes 4n to 4n + 3, if all four are there
abbrev pub tape_word : List ℕ → ℕ → Option ℕ
tape_word bytes n = cond (nat_le (4 * n + 4) (length bytes)) (Some (number_at bytes (4 * n) 4)) None
