-- Which sections are lawful: those of a pack label and those of a ward box.
-- Assumes nothing.
use Rattle.std.specs.Prelude.{ℕ, ◌+◌, ◌-◌, ◌*◌, Bool, true, ◌&&◌, ◌||◌, List, length, ℤ, pos, negsuc, Some, None, Option, ◌==◌, int_le, nat_le, slice_index}
use Rattle.octets.specs.Zeros.{every}
use Rattle.items.specs.Alphabets.{letter}
use Rattle.items.specs.Calendar.{is_day}
use Rattle.items.specs.CheckDigit.{checks}
use Rattle.items.specs.declared.rules.Alphabet.TheVariants.{Digits, Alphanumeric, UpperAlphanumeric}

-- a pack's code: 8, 13 or 14 digits, the last a right check digit
abbrev pub lawful_code : List ℕ → Bool
lawful_code c = (length c == 8 || (length c == 13 || length c == 14)) && (every (letter Digits) c && checks c)

-- a pack's batch: at most 20 letters or digits
abbrev pub lawful_batch : List ℕ → Bool
lawful_batch b = nat_le (length b) 20 && every (letter Alphanumeric) b

-- the number of two digits
abbrev pub two_digits : ℕ → ℕ → ℕ
two_digits a b = 10 * (a - 48) + (b - 48)

-- a pack's expiry: none, or a day as YYMMDD
abbrev pub lawful_expiry : List ℕ → Bool
lawful_expiry e =
    (length e == 0)
    || (length e == 6
    && (every (letter Digits) e && is_day (two_digits (slice_index e 0) (slice_index e 1)) (two_digits (slice_index e 2) (slice_index e 3)) (two_digits (slice_index e 4) (slice_index e 5))))

abbrev pub lawful_label : List ℕ → List ℕ → List ℕ → Bool
lawful_label c b e = lawful_code c && (lawful_batch b && lawful_expiry e)

-- a ward: 1 to 12 capitals or digits
abbrev pub lawful_ward : List ℕ → Bool
lawful_ward w = nat_le 1 (length w) && (nat_le (length w) 12 && every (letter UpperAlphanumeric) w)

-- a ward box's weight difference: none, or -30,000 to 30,000 grams
abbrev pub lawful_difference : Option ℤ → Bool
lawful_difference None = true
lawful_difference (Some d) = int_le (negsuc 29999) d && int_le d (pos 30000)

abbrev pub lawful_box : List ℕ → Option ℤ → Bool
lawful_box w d = lawful_ward w && lawful_difference d
