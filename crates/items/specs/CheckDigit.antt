-- The GS1 check digit.
-- Assumes nothing.
use Rattle.std.specs.Prelude.{ℕ, ◌+◌, ◌-◌, ◌*◌, ◌%◌, Bool, List, [], ◌∷◌, reverse, ◌==◌}

-- the digits weighed v, w, v, w and so on
abbrev pub weighed : ℕ → ℕ → List ℕ → ℕ
weighed v w [] = 0
weighed v w (d ∷ ds) = v * (d - 48) + weighed w v ds

-- Leftwards from the last digit, which weighs 1, the weights are 3, 1, 3 and so on.
abbrev pub check_sum : List ℕ → ℕ
check_sum code = weighed 1 3 (reverse code)

-- the last digit makes the sum a multiple of 10
abbrev pub checks : List ℕ → Bool
checks code = check_sum code % 10 == 0
