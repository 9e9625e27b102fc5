-- Lists of bytes: each below 256.
-- Assumes nothing.
use Rattle.std.proofs.Common.{◌≡◌, ℕ, zero, suc, ◌<◌, true, ltb, List, [], ◌∷◌, ◌++◌, get_or, take, drop, refl, arith}
use Rattle.std.specs.List.{AllByRecursion}
use Rattle.std.proofs.lemmas.Bool.{and_from, and_parts, lt-ltb, ltb-true}
use Rattle.octets.specs.Zeros.{every, zeros}

abbrev pub Under256 : List ℕ → Type 0
Under256 xs = every (λ b. ltb b 256) xs ≡ true

pub under_first : (b : ℕ) (bs : List ℕ) → Under256 (b ∷ bs) → b < 256
under_first b bs h = ltb-true b 256 (and_parts _ _ h).0

pub under_rest : (b : ℕ) (bs : List ℕ) → Under256 (b ∷ bs) → Under256 bs
under_rest b bs h = (and_parts _ _ h).1

pub under_at : (xs : List ℕ) → Under256 xs → (i : ℕ) → get_or xs i 0 < 256
under_at [] h i = omega arith
under_at (x ∷ xs) h zero = under_first x xs h
under_at (x ∷ xs) h (suc i) = under_at xs (under_rest x xs h) i

pub under_from : (xs : List ℕ) → ((i : ℕ) → get_or xs i 0 < 256) → Under256 xs
under_from [] h = refl
under_from (x ∷ xs) h = and_from _ _ (lt-ltb x 256 (h 0)) (under_from xs (λ i. h (suc i)))

pub under_all : (xs : List ℕ) → AllByRecursion (λ b. b < 256) xs → Under256 xs
under_all [] h = refl
under_all (x ∷ xs) h = and_from _ _ (lt-ltb x 256 h.0) (under_all xs h.1)

pub under_append : (xs ys : List ℕ) → Under256 xs → Under256 ys → Under256 (xs ++ ys)
under_append [] ys h k = k
under_append (x ∷ xs) ys h k = and_from _ _ (and_parts _ _ h).0 (under_append xs ys (under_rest x xs h) k)

pub under_zeros : (n : ℕ) → Under256 (zeros n)
under_zeros zero = refl
under_zeros (suc n) = under_zeros n

pub under_take : (n : ℕ) (xs : List ℕ) → Under256 xs → Under256 (take n xs)
under_take zero xs h = refl
under_take (suc n) [] h = refl
under_take (suc n) (x ∷ xs) h = and_from _ _ (and_parts _ _ h).0 (under_take n xs (under_rest x xs h))

pub under_drop : (n : ℕ) (xs : List ℕ) → Under256 xs → Under256 (drop n xs)
under_drop zero xs h = h
under_drop (suc n) [] h = refl
under_drop (suc n) (x ∷ xs) h = under_drop n xs (under_rest x xs h)
