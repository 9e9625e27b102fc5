-- A draw: the word that it is taken from, its value, and the words used.
-- Assumes nothing.
use Rattle.std.specs.Prelude.{ℕ, zero, suc, ◌+◌, ◌*◌, ◌/◌, ◌%◌, ◌^◌, cond, Some, None, Option, ◌==◌, nat_lt}
use Rattle.words.specs.declared.draws.Drawn.{Drawn}

-- the words at the places that 64 bits can name; at any other there is none
abbrev pub addressable : (ℕ → Option ℕ) → ℕ → Option ℕ
addressable words n = cond (nat_lt n (2 ^ 64)) (words n) None

-- the largest multiple of the width up to 2^32
abbrev pub limit : ℕ → ℕ
limit width = 2 ^ 32 / width * width

-- a word below the limit gives the draw; after any other the draw comes from later words
abbrev pub judged : Option ℕ → ℕ → ℕ → Option Drawn → Option Drawn
judged None width used later = None
judged (Some v) width used later = cond (nat_lt v (limit width)) (Some (record { value = v % width; used = used })) later

-- the draw once `used` words have been looked at, when `left` more may be
unfoldable pub looked : (ℕ → Option ℕ) → ℕ → ℕ → ℕ → ℕ → Option Drawn
looked words width place used zero = None
looked words width place used (suc left) =
    judged (words (place + used)) width (used + 1) (looked words width place (used + 1) left)

-- the draw of a width from a place on: with width 1 it is 0 and uses no word
unfoldable pub draw_of : (ℕ → Option ℕ) → ℕ → ℕ → Option Drawn
draw_of words width place = cond (width == 1) (Some (record { value = 0; used = 0 })) (looked words width place 0 64)
