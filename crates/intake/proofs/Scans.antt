-- The lines of a scan, one byte on: how many they are, and what they fill. Assumes nothing.
use Rattle.std.proofs.Common.{◌≡◌, ℕ, ◌+◌, ◌≤◌, Bool, true, false, cond, not, ◌&&◌, ◌||◌, eqb, List, [], ◌∷◌, ◌++◌, length, refl, ap, ◌∙◌, arith}
use Rattle.std.proofs.lemmas.Bool.{cond_both}
use Rattle.intake.specs.Lines.{lines_after, passed}

-- ---- how many lines there are

abbrev pub filled : List ℕ → Bool
filled [] = false
filled (x ∷ xs) = true

-- one line more where a confirm finds a field that is filled
abbrev pub counted : Bool → ℕ → ℕ
counted filling b = cond (filling && eqb b 10) 1 0

pub lines_count : Bool → List ℕ → ℕ
lines_count filling [] = 0
lines_count filling (b ∷ bs) = counted filling b + lines_count (not (eqb b 10 || eqb b 24)) bs

filled_more : (line : List ℕ) (b : ℕ) → filled (line ++ b ∷ []) ≡ true
filled_more [] b = refl
filled_more (x ∷ xs) b = refl

none_more : (filling : Bool) (n : ℕ) → n ≡ cond (filling && false) 1 0 + n
none_more true n = omega arith
none_more false n = omega arith

count_confirmed : (line : List ℕ) (later : List (List ℕ)) → length (passed line later) ≡ cond (filled line && true) 1 0 + length later
count_confirmed [] later = omega arith
count_confirmed (x ∷ xs) later = omega arith

pub count_lines : (line bs : List ℕ) → length (lines_after line bs) ≡ lines_count (filled line) bs
unfolding lines_after lines_count
count_lines line [] = refl
count_lines line (b ∷ bs) = by_byte (λ l. count_lines l bs) (eqb b 10) (eqb b 24)
  where
    by_byte : ((l : List ℕ) → length (lines_after l bs) ≡ lines_count (filled l) bs) → (t k : Bool)
        → length (cond t (passed line (lines_after [] bs)) (cond k (lines_after [] bs) (lines_after (line ++ b ∷ []) bs)))
        ≡ cond (filled line && t) 1 0 + lines_count (not (t || k)) bs
    by_byte ih true k = count_confirmed line (lines_after [] bs) ∙ ap (λ n. cond (filled line && true) 1 0 + n) (ih [])
    by_byte ih false true = ih [] ∙ none_more (filled line) (lines_count false bs)
    by_byte ih false false =
        ih (line ++ b ∷ []) ∙ ap (λ f. lines_count f bs) (filled_more line b) ∙ none_more (filled line) (lines_count true bs)

-- where the scan is at its end, and one byte on

pub count_none : (filling : Bool) → lines_count filling [] ≡ 0
unfolding lines_count
count_none filling = refl

pub count_more : (filling : Bool) (b : ℕ) (bs : List ℕ) → lines_count filling (b ∷ bs) ≡ counted filling b + lines_count (not (eqb b 10 || eqb b 24)) bs
unfolding lines_count
count_more filling b bs = refl

pub counted_most : (filling : Bool) (b : ℕ) → counted filling b ≤ 1
counted_most filling b = cond_both (filling && eqb b 10) 1 0 (λ n. n ≤ 1) (λ _. omega arith) (λ _. omega arith)
