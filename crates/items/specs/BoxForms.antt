-- The 60-byte form of a ward box: the ward after its count byte; then 0, or 1 and the weight difference; then zeros.
-- Assumes nothing.
use Rattle.std.specs.Prelude.{ℕ, ◌+◌, ◌*◌, ◌/◌, ◌%◌, Bool, cond, ◌&&◌, List, [], ◌∷◌, ◌++◌, length, drop, ℤ, Some, None, Option, ◌==◌, nat_le, slice_index}
use Rattle.std.specs.Int.{w16}
use Rattle.std.proofs.Common.{of_z, to_z}
use Rattle.std.specs.Result.{result_ok}
use Rattle.octets.specs.Zeros.{every, blank}
use Rattle.items.specs.Boxes.{ward_box}
use Rattle.items.specs.Forms.{counted, front, behind}
use Rattle.items.specs.Texts.{chars, padded}
use Rattle.items.specs.declared.ward_box.WardBox.{WardBox}

-- the weight difference after the count of numbers, in two bytes, two's complement, the low one first
abbrev pub difference_form : Option ℤ → List ℕ
difference_form None = 0 ∷ []
difference_form (Some d) = 1 ∷ of_z w16 d % 256 ∷ of_z w16 d / 256 % 256 ∷ []

unfoldable pub box_form : WardBox → List ℕ
box_form x = padded 60 (counted (chars x.ward) ++ difference_form x.difference)

-- the box with this ward and difference, if nothing but zeros stands behind them
abbrev pub ended : List ℕ → Option ℤ → List ℕ → Option WardBox
ended w d rest = cond (every blank rest) (result_ok (ward_box w d)) None

abbrev pub two_bytes : List ℕ → Bool
two_bytes r = nat_le 2 (length r) && (nat_le (slice_index r 0) 255 && nat_le (slice_index r 1) 255)

-- the box with the weight difference that r begins with
abbrev pub with_difference : List ℕ → List ℕ → Option WardBox
with_difference w r =
    cond (two_bytes r) (ended w (Some (to_z w16 (slice_index r 0 + slice_index r 1 * 256))) (drop 2 r)) None

-- the box whose second section r begins with
abbrev pub after_ward : List ℕ → List ℕ → Option WardBox
after_ward w [] = None
after_ward w (n ∷ r) = cond (n == 0) (ended w None r) (cond (n == 1) (with_difference w r) None)

unfoldable pub box_reading : List ℕ → Option WardBox
box_reading s = cond (length s == 60) (after_ward (front s) (behind s)) None
