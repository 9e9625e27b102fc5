-- The number that digits write.
use Rattle.std.proofs.Common.{◌≡◌, ℕ, zero, suc, ◌+◌, ◌*◌, ◌^◌, ◌<◌, ◌≤◌, true, List, length, get_or, ap, ◌∙◌, inl, inr, add-one, arith}
use native.Mathlib.Nat.{pow-succ'}
use Rattle.std.specs.List.{AllByRecursion}
use Rattle.std.proofs.ByRecursion.{All-get_or}
use Rattle.std.proofs.lemmas.Bool.{and_parts, leb-true}
use Rattle.lines.specs.declared.Field.TheVariants.{Number}
use Rattle.std.specs.Char.{is_ascii_digit}
use Rattle.lines.specs.Grammar.{Written}

-- the digits of a number, of which there are at most five
pub digits : (xs : List ℕ) → Written Number xs → AllByRecursion (λ b. is_ascii_digit b ≡ true) xs × (length xs ≤ 5)
digits xs (inl w) = (w.0, w.2)
digits xs (inr w) = cc

-- the byte at a place of a number, and how far that place is from the front
pub digit_at : (xs : List ℕ) → Written Number xs → (i d : ℕ) → i < length xs → (48 ≤ get_or xs i d) × (get_or xs i d ≤ 57) × (i ≤ 4)
digit_at xs w i d h =
    let p = and_parts _ _ (All-get_or (λ b. is_ascii_digit b ≡ true) xs i d h (digits xs w).0) in
    (leb-true _ _ p.0, leb-true _ _ p.1, omega (arith, (digits xs w).1))

pub power_more : (n : ℕ) → 10 ^ (n + 1) ≡ 10 * 10 ^ n
power_more n = ap (λ j. 10 ^ j) (add-one n) ∙ pow-succ' 10 n

pub power_at_most : (n : ℕ) → n ≤ 4 → 10 ^ n ≤ 10000
power_at_most zero h = omega arith
power_at_most (suc zero) h = omega arith
power_at_most (suc (suc zero)) h = omega arith
power_at_most (suc (suc (suc zero))) h = omega arith
power_at_most (suc (suc (suc (suc zero)))) h = omega arith
power_at_most (suc (suc (suc (suc (suc n))))) h = absurd (omega arith)
