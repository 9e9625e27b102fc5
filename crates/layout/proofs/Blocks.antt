-- Blocks of 512 bytes: an array is one, and eight of them spell a set.
-- Assumes nothing.
use Rattle.std.proofs.Common.{◌≡◌, ℕ, zero, suc, ◌+◌, ◌*◌, ◌<◌, true, eqb, ltb, List, ◌++◌, length, get_or, take, sym, ap, ◌∙◌, append_assoc, arith, length-append, take_all}
use Rattle.std.proofs.lemmas.List.{append-nil, take_at, length-take-le}
use Rattle.std.proofs.lemmas.Bool.{cond-true, lt-ltb, eq-eqb, eqb-true, and_from, and_parts}
use Rattle.octets.specs.Edits.{written}
use Rattle.octets.specs.Zeros.{every}
use Rattle.octets.proofs.Under.{Under256, under_from}
use Rattle.layout.specs.Edits.{with_part}
use Rattle.layout.specs.Layout.{joined}
use Rattle.layout.specs.Reading.{is_block}

pub block_length : (xs : List ℕ) → is_block xs ≡ true → length xs ≡ 512
unfolding is_block
block_length xs h = eqb-true (length xs) 512 (and_parts (eqb (length xs) 512) (every (λ b. ltb b 256) xs) h).0

pub block_under : (xs : List ℕ) → is_block xs ≡ true → Under256 xs
unfolding is_block
block_under xs h = (and_parts (eqb (length xs) 512) (every (λ b. ltb b 256) xs) h).1

pub block_from : (xs : List ℕ) → length xs ≡ 512 → Under256 xs → is_block xs ≡ true
unfolding is_block
block_from xs l h = and_from (eqb (length xs) 512) (every (λ b. ltb b 256) xs) (eq-eqb (length xs) 512 l) h

pub array_is_block : (xs : List ℕ) → length xs ≡ 512 → ((i : ℕ) → get_or xs i 0 < 256) → is_block xs ≡ true
array_is_block xs long small = block_from xs long (under_from xs small)

-- one part more at the end
pub joined_push : (part : ℕ → List ℕ) (i n : ℕ) → joined part i (n + 1) ≡ joined part i n ++ part (i + n)
joined_push part i zero = append-nil (part i) ∙ ap part (omega arith)
joined_push part i (suc n) =
    let next : joined part (i + 1) (n + 1) ≡ joined part (i + 1) n ++ part (i + 1 + n) = joined_push part (i + 1) n in
    ap (joined part i) {y = suc (n + 1)} (omega arith)
    ∙ ap (λ l. part i ++ l) next
    ∙ sym (append_assoc (part i) (joined part (i + 1) n) (part (i + 1 + n)))
    ∙ ap (λ k. joined part i (suc n) ++ part k) (omega arith)

-- one block more put into a set
pub parts_more : (part : ℕ → List ℕ) (i j : ℕ) (xs new : List ℕ) → length xs ≡ 4096 → length new ≡ 512 → j < 8 → new ≡ part (i + j) → take (512 * j) xs ≡ joined part i j →
    take (512 * (j + 1)) (with_part xs j new) ≡ joined part i (j + 1)
unfolding with_part
parts_more part i j xs new long size h is so_far =
    let front : length (take (512 * j) xs ++ new) ≡ 512 * (j + 1) =
    length-append (take (512 * j) xs) new ∙ omega (arith, length-take-le (512 * j) xs (omega arith)) in
    ap (take (512 * (j + 1))) (cond-true (ltb j 8) (written xs (512 * j) new) xs (lt-ltb j 8 h) ∙ sym (append_assoc (take (512 * j) xs) new _))
    ∙ take_at (take (512 * j) xs ++ new) _ (512 * (j + 1)) front
    ∙ (λ k. so_far k ++ is k)
    ∙ sym (joined_push part i j)

-- all eight
pub parts_all : (part : ℕ → List ℕ) (i : ℕ) (xs : List ℕ) → length xs ≡ 4096 → take (512 * 8) xs ≡ joined part i 8 → xs ≡ joined part i 8
parts_all part i xs long all = sym (take_all 4096 xs (omega arith)) ∙ all
