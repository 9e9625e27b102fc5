-- The limit of a width, and words below the width. Assumes nothing.
use Rattle.std.proofs.Common.{ℕ, ◌*◌, ◌/◌, ◌^◌, ◌<◌, ◌≤◌, Some, ap, ◌∙◌, add-zero, mul-le-mul_right, mod-eq_of_lt, div-mul-le_self, arith}
use native.Mathlib.Nat.{mul-mod_left}
use Rattle.std.proofs.lemmas.Nat.{le-div}
use Rattle.words.specs.Draws.{limit}
use Rattle.words.specs.Laws.{LimitLargest, SmallIsDrawn}
use Rattle.words.proofs.Looks.{draw_wide, looked_low}

pub limit_below : (width : ℕ) → limit width ≤ 2 ^ 32
limit_below width = div-mul-le_self (2 ^ 32) width

most : (width : ℕ) → 1 ≤ width → (k : ℕ) → k * width ≤ 2 ^ 32 → k * width ≤ limit width
most width positive k fits = mul-le-mul_right width (le-div k (2 ^ 32) width positive fits)

pub limit_largest : LimitLargest
limit_largest width positive = (mul-mod_left (2 ^ 32 / width) width, limit_below width, most width positive)

-- the width itself is such a multiple
width_within : (width : ℕ) → 1 ≤ width → width ≤ 2 ^ 32 → width ≤ limit width
width_within width positive fits = omega (arith, most width positive 1 (omega arith))

pub small_is_drawn : SmallIsDrawn
small_is_drawn words width place v wide bound is small =
    let low : v < limit width = omega (arith, width_within width (omega arith) (omega arith)) in
    draw_wide words width place (omega arith)
    ∙ looked_low words width place 0 64 63 (omega arith) v (ap words (add-zero place) ∙ is) low
    ∙ ap (λ r. Some (record { value = r; used = 1 })) (mod-eq_of_lt small)
