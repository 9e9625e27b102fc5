-- Zeros.
-- Assumes nothing.
use Rattle.std.proofs.Common.{◌≡◌, ℕ, zero, suc, true, eqb, List, [], ◌∷◌, length, get_or, refl, eqb-true}
use Rattle.std.proofs.lemmas.Bool.{and_parts}
use Rattle.octets.specs.Zeros.{zeros, every, blank}

-- each is 0, and so is what is read past them
pub zero_at : (n i : ℕ) → get_or (zeros n) i 0 ≡ 0
zero_at zero i = refl
zero_at (suc n) zero = refl
zero_at (suc n) (suc i) = zero_at n i

pub zeros_blank : (n : ℕ) → every blank (zeros n) ≡ true
zeros_blank zero = refl
zeros_blank (suc n) = zeros_blank n

pub blank_zeros : (s : List ℕ) → every blank s ≡ true → s ≡ zeros (length s)
blank_zeros [] h = refl
blank_zeros (b ∷ s) h =
    let p = and_parts (eqb b 0) (every blank s) h in
    λ i. eqb-true b 0 p.0 i ∷ blank_zeros s p.1 i
