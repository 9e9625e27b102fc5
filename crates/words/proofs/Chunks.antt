-- The parts of one length that a list is cut into. Assumes nothing.
use Rattle.std.proofs.Common.{◌≡◌, ℕ, zero, suc, ◌*◌, ◌<◌, ◌≤◌, List, get_or, take, drop, sym, refl, ap, ◌∙◌, mul-zero, mul-suc, arith}
use Rattle.std.proofs.lemmas.List.{drop-drop}
use Rattle.std.specs.Simd.{first_chunks}

pub chunk_at : {X : Type 0} (n : ℕ) (xs : List X) (d : List X) (k i : ℕ) → i < k → get_or (first_chunks n k xs) i d ≡ take n (drop (n * i) xs)
chunk_at n xs d zero i h = absurd (omega arith)
chunk_at n xs d (suc k) zero h = ap (λ m. take n (drop m xs)) (sym (mul-zero n))
chunk_at n xs d (suc k) (suc i) h =
    chunk_at n (drop n xs) d k i (omega arith)
    ∙ ap (take n) (drop-drop (n * i) n xs ∙ ap (λ m. drop m xs) (omega (arith, mul-suc n i)))

-- there is no part behind the last
pub chunk_past : {X : Type 0} (n : ℕ) (xs : List X) (d : List X) (k i : ℕ) → k ≤ i → get_or (first_chunks n k xs) i d ≡ d
chunk_past n xs d zero i h = refl
chunk_past n xs d (suc k) zero h = absurd (omega arith)
chunk_past n xs d (suc k) (suc i) h = chunk_past n (drop n xs) d k i (omega arith)
