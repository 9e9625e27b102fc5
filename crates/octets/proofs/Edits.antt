-- Bytes cut out of others, and written over others.
-- Assumes nothing.
use Rattle.std.proofs.Common.{◌≡◌, ℕ, ◌+◌, ◌≤◌, List, length, ◌∙◌}
use Rattle.std.proofs.lemmas.Bool.{cond-true, le-leb}
use Rattle.octets.specs.Edits.{written, placed}

pub placed_fits : (xs new : List ℕ) (at : ℕ) → at + length new ≤ length xs → placed xs at new ≡ written xs at new
placed_fits xs new at h = cond-true _ _ _ (le-leb _ _ h)

-- one piece more
pub piece : {f g xs ys new : List ℕ} (at : ℕ) → f ≡ xs → g ≡ placed f at new → new ≡ ys → g ≡ placed xs at ys
piece at before after is = after ∙ (λ i. placed (before i) at (is i))
