-- The ranges of a reservoir's numbers.
-- Assumes nothing.
use Rattle.std.specs.Prelude.{◌≡◌, ℕ, ◌+◌, ◌*◌, ◌^◌, ◌≤◌, min, Bool, cond, ◌&&◌, Ok, Err, OkIff, Result, ◌==◌, nat_le, nat_lt}
use Rattle.pairing.specs.declared.counts.Counts.{Counts}
use Rattle.pairing.specs.declared.counts.CountsError.{CountsError}
use Rattle.pairing.specs.declared.counts.CountsError.TheVariants.{OutOfRange, Unbalanced}

-- M from 1 to 512
abbrev pub Limits : Counts → Type 0
Limits n = (1 ≤ n.capacity) × (n.capacity ≤ 512)

-- k at most M and at most N
abbrev pub Sample : Counts → Type 0
Sample n = (n.sampled ≤ n.capacity) × (n.sampled ≤ n.size)

-- N + D at most 32,768, where D = c1 + c2
abbrev pub Room : Counts → Type 0
Room n = n.size + (n.c1 + n.c2) ≤ 32768

-- k + c1 is the smaller of M and N + D
abbrev pub Balance : Counts → Type 0
Balance n = n.sampled + n.c1 ≡ min n.capacity (n.size + (n.c1 + n.c2))

-- w at most 64 × q
abbrev pub Usage : Counts → Type 0
Usage n = n.words ≤ 64 * n.calls

pub record Ranges (n : Counts) : Type 0 where
  pub limits : Limits n
  pub sample : Sample n
  pub room : Room n
  pub balance : Balance n
  pub usage : Usage n

-- the numbers of an empty reservoir
abbrev pub no_counts : ℕ → Counts
no_counts m = record { capacity = m; size = 0; sampled = 0; c1 = 0; c2 = 0; calls = 0; words = 0 }

-- ---- as tests

-- whether each number is in its range, but for the balance
abbrev pub in_range : Counts → Bool
in_range n =
    (nat_le 1 n.capacity && nat_le n.capacity 512)
    && ((nat_le n.sampled n.capacity && nat_le n.sampled n.size)
    && (nat_le (n.size + (n.c1 + n.c2)) 32768 && (nat_lt n.calls (2 ^ 32) && nat_le n.words (64 * n.calls))))

abbrev pub balanced : Counts → Bool
balanced n = n.sampled + n.c1 == min n.capacity (n.size + (n.c1 + n.c2))

-- what the numbers n come to: themselves, exactly where they are in their ranges, and else the first fault
pub record Checks (n : Counts) (r : Result Counts CountsError) : Type 0 where
  pub made : OkIff r (Ranges n) n
  pub tests : r ≡ cond (in_range n) (cond (balanced n) (Ok n) (Err Unbalanced)) (Err OutOfRange)
