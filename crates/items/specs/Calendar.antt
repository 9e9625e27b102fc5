-- The days of the years 2000 to 2099, each year by its last two digits.
-- Assumes nothing.
use Rattle.std.specs.Prelude.{ℕ, ◌%◌, Bool, cond, ◌&&◌, ◌||◌, ◌==◌, nat_le}

-- February has 29 days when 4 divides the year; April, June, September and November have 30
abbrev pub month_length : ℕ → ℕ → ℕ
month_length year month =
    cond (month == 2) (cond (year % 4 == 0) 29 28)
    (cond (month == 4 || (month == 6 || (month == 9 || month == 11))) 30 31)

abbrev pub is_day : ℕ → ℕ → ℕ → Bool
is_day year month day = nat_le 1 month && (nat_le month 12 && (nat_le 1 day && nat_le day (month_length year month)))
