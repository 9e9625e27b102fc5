-- The bytes of a scan that a cancel takes back, and the scan without them.
-- Assumes nothing.
use Rattle.std.specs.Prelude.{ℕ, Bool, false, cond, not, ◌&&◌, ◌||◌, List, [], ◌∷◌, ◌==◌}

-- a cancel, byte 24, stands in s before the first confirm, byte 10
unfoldable pub cancels : List ℕ → Bool
cancels [] = false
cancels (b ∷ bs) = b == 24 || (not (b == 10) && cancels bs)

-- s without its cancelled bytes: a byte is cancelled when a cancel stands at it, or after it with no confirm from it up to there
unfoldable pub struck : List ℕ → List ℕ
struck [] = []
struck (b ∷ bs) = cond (cancels (b ∷ bs)) (struck bs) (b ∷ struck bs)
