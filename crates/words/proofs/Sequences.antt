-- All choices of words fall evenly on the draws. Assumes nothing.
use Rattle.std.proofs.Common.{◌≡◌, ℕ, zero, suc, ◌+◌, ◌-◌, ◌*◌, ◌/◌, ◌%◌, ◌^◌, ◌<◌, ◌≤◌, Bool, true, false, cond, eqb, List, [], ◌∷◌, length, get_or, drop, Some, None, Option, sym, refl, ap, ◌∙◌, inl, inr, add-mul, one-mul, zero-mul, arith}
use Rattle.std.proofs.lemmas.List.{drop_all, drop_more}
use Rattle.std.proofs.lemmas.Bool.{lt-ltb, le-ltb, cases_eq}
use Rattle.std.specs.List.{AllByRecursion}
use Rattle.words.specs.Draws.{limit, judged, looked, draw_of}
use Rattle.words.specs.Laws.{total, ways, gives, DrawsAreEven}
use Rattle.words.specs.declared.draws.Drawn.{Drawn}
use Rattle.words.proofs.Evenness.{total_like, total_parts, mark, rounds}
use Rattle.words.proofs.Limits.{limit_below}
use Rattle.words.proofs.Looks.{draw_wide, looked_end, at_word}

-- ---- sums and ways

pub total_none : (n : ℕ) → total (λ v. 0) n ≡ 0
unfolding total
total_none zero = refl
total_none (suc n) = omega (arith, total_none n)

total_times : (f : ℕ → ℕ) (k n : ℕ) → total (λ v. f v * k) n ≡ total f n * k
unfolding total
total_times f k zero = sym (zero-mul k)
total_times f k (suc n) = omega (arith, total_times f k n, add-mul (f n) (total f n) k)

ways_like : (n : ℕ) (p q : List ℕ → Bool) → ((vs : List ℕ) → length vs ≡ n → AllByRecursion (λ v. v < 2 ^ 32) vs → p vs ≡ q vs) → ways n p ≡ ways n q
unfolding ways
ways_like zero p q same = ap (λ b. cond b 1 0) (same [] refl tt)
ways_like (suc n) p q same =
    total_like (λ v. ways n (λ vs. p (v ∷ vs))) (λ v. ways n (λ vs. q (v ∷ vs))) (2 ^ 32)
    (λ v below. ways_like n (λ vs. p (v ∷ vs)) (λ vs. q (v ∷ vs)) (λ vs sized each. same (v ∷ vs) (ap suc sized) (below, each)))

ways_none : (n : ℕ) → ways n (λ vs. false) ≡ 0
unfolding ways
ways_none zero = refl
ways_none (suc n) =
    total_like (λ v. ways n (λ vs. false)) (λ v. 0) (2 ^ 32) (λ v below. ways_none n) ∙ total_none (2 ^ 32)

-- a test that does not look at the words
ways_fixed : (n : ℕ) (b : Bool) → ways n (λ vs. b) ≡ cond b 1 0 * ways n (λ vs. true)
ways_fixed n true = sym (one-mul (ways n (λ vs. true)))
ways_fixed n false = ways_none n ∙ sym (zero-mul (ways n (λ vs. true)))

-- ---- a draw from a list of words

abbrev run : List ℕ → ℕ → ℕ → Option Drawn
run [] width used = None
run (v ∷ vs) width used = judged (Some v) width (used + 1) (run vs width (used + 1))

module _ (width a : ℕ) (within : a < width) (n used : ℕ) where
  -- the ways to go on after the word v
  after : ℕ → ℕ
  after v = ways n (λ vs. gives a (run (v ∷ vs) width used))

  low : (v : ℕ) → v < limit width → after v ≡ mark a (v % width) * ways n (λ vs. true)
  unfolding after
  low v below =
      ap (λ b. ways n (λ vs. gives a (cond b (Some (record { value = v % width; used = used + 1 })) (run vs width (used + 1)))))
      (lt-ltb v (limit width) below)
      ∙ ways_fixed n (eqb (v % width) a)

  high : (v : ℕ) → limit width ≤ v → after v ≡ ways n (λ vs. gives a (run vs width (used + 1)))
  unfolding after
  high v above =
      ap (λ b. ways n (λ vs. gives a (cond b (Some (record { value = v % width; used = used + 1 })) (run vs width (used + 1)))))
      (le-ltb v (limit width) above)

  lows : total after (limit width) ≡ 2 ^ 32 / width * ways n (λ vs. true)
  lows =
      total_like after (λ v. mark a (v % width) * ways n (λ vs. true)) (limit width) low
      ∙ total_times (λ v. mark a (v % width)) (ways n (λ vs. true)) (limit width)
      ∙ ap (λ k. k * ways n (λ vs. true)) (rounds width a (2 ^ 32 / width) within)

  -- a word below the limit decides, and any other leaves it to the rest
  ways_more :
      ways (suc n) (λ vs. gives a (run vs width used))
      ≡ 2 ^ 32 / width * ways n (λ vs. true)
      + total (λ v. ways n (λ vs. gives a (run vs width (used + 1)))) (2 ^ 32 - limit width)
  unfolding ways after
  ways_more =
      let rest : ℕ = 2 ^ 32 - limit width in
      let all : 2 ^ 32 ≡ limit width + rest = omega (arith, limit_below width) in
      ap (total after) all
      ∙ total_parts after (limit width) rest
      ∙ ap (λ k. k + total (λ v. after (limit width + v)) rest) lows
      ∙ ap (λ k. 2 ^ 32 / width * ways n (λ vs. true) + k)
      (total_like (λ v. after (limit width + v)) (λ v. ways n (λ vs. gives a (run vs width (used + 1)))) rest (λ v below. high (limit width + v) (omega arith)))

runs_even :
    (width a b : ℕ) → a < width → b < width → (n used : ℕ) →
    ways n (λ vs. gives a (run vs width used)) ≡ ways n (λ vs. gives b (run vs width used))
unfolding ways
runs_even width a b ha hb zero used = refl
runs_even width a b ha hb (suc n) used =
    ways_more width a ha n used
    ∙ ap (λ k. 2 ^ 32 / width * ways n (λ vs. true) + k)
    (total_like (λ v. ways n (λ vs. gives a (run vs width (used + 1)))) (λ v. ways n (λ vs. gives b (run vs width (used + 1)))) (2 ^ 32 - limit width) (λ v below. runs_even width a b ha hb n (used + 1)))
    ∙ sym (ways_more width b hb n used)

-- ---- a draw from a source that holds the words

module _ (words : ℕ → Option ℕ) (width place : ℕ) (ws : List ℕ) (holds : (i : ℕ) → i < length ws → words (place + i) ≡ Some (get_or ws i 0)) where
  looked_run : (left used : ℕ) → used + left ≡ length ws → looked words width place used left ≡ run (drop used ws) width used
  looked_run zero used all =
      looked_end words width place used 0 refl ∙ sym (ap (λ vs. run vs width used) (drop_all used ws (omega arith)))
  looked_run (suc left) used all =
      let within : used < length ws = omega arith in
      at_word words width place used (suc left) left refl (Some (get_or ws used 0)) (holds used within)
      ∙ ap (judged (Some (get_or ws used 0)) width (used + 1)) (looked_run left (used + 1) (omega arith))
      ∙ sym (ap (λ vs. run vs width used) (drop_more ws used 0 within))

  draw_run : (width ≡ 1 → ⊥) → 64 ≡ length ws → draw_of words width place ≡ run ws width 0
  draw_run other sized = draw_wide words width place other ∙ looked_run 64 0 sized

pub draws_are_even : DrawsAreEven
draws_are_even source width place a b holds ha hb =
    elim (cases_eq width 1) [
      | inl one ↦ ap (λ r. ways 64 (λ vs. gives r (draw_of (source vs) width place))) (omega arith)
      | inr other ↦
          same a other ∙ runs_even width a b ha hb 64 0 ∙ sym (same b other)
    ] where
      same : (r : ℕ) → (width ≡ 1 → ⊥) → ways 64 (λ vs. gives r (draw_of (source vs) width place)) ≡ ways 64 (λ vs. gives r (run vs width 0))
      same r other =
          ways_like 64 (λ vs. gives r (draw_of (source vs) width place)) (λ vs. gives r (run vs width 0))
          (λ vs sized each. ap (gives r) (draw_run (source vs) width place vs (holds vs each) other (sym sized)))
