-- The worked example, counted by the law. Assumes nothing.
use Rattle.std.proofs.Common.{◌≡◌, ℕ, ◌*◌, Bool, false, ◌&&◌, refl, ap, ◌∙◌, arith}
use Rattle.std.proofs.lemmas.Bool.{and_right}
use Rattle.pairing.specs.Reservoir.{with, store, taken}
use Rattle.pairing.proofs.Stock.{count_none}
use Rattle.pairing.proofs.Sums.{count_like}
use Rattle.fairness.specs.Histories.{Possible, stock_after}
use Rattle.fairness.specs.Laws.{choose, weight, none, times, example, Example}
use Rattle.fairness.proofs.Counts.{size_in, size_more}
use Rattle.fairness.proofs.Fairness.{counting}

possible : {X : Type 0} (x : X) → Possible none (example x)
possible x = (omega arith, refl, (omega arith, refl, (omega arith, refl, (omega arith, refl, (refl, (refl, tt))))))

module _ {X : Type 0} (x : X) where
  abbrev left : ℕ → Bool
  left = stock_after none (example x)

  none_in : size_in 32768 left none ≡ 0
  none_in = count_like (λ q. left q && none q) none 32768 (λ q l. and_right (left q) false refl) ∙ count_none 32768

  -- of a group of s packs
  of_size : (a : ℕ → Bool) (s : ℕ) → size_in 32768 left a ≡ s → times 2 (example x) a ≡ 2 * weight 2 2 s
  of_size a s e = counting 2 (example x) (possible x) a ∙ ap (λ k. 2 * weight 2 2 k) e

  with_12 : size_in 32768 left (with none 12) ≡ 1
  with_12 = omega (arith, size_more 32768 left none 12 (omega arith) refl refl, none_in)

  with_13 : size_in 32768 left (with none 13) ≡ 1
  with_13 = omega (arith, size_more 32768 left none 13 (omega arith) refl refl, none_in)

  with_both : size_in 32768 left (with (with none 12) 13) ≡ 2
  with_both = omega (arith, size_more 32768 left (with none 12) 13 (omega arith) refl refl, with_12)

pub example_holds : {X : Type 0} → Example X
unfolding store taken choose
example_holds x = (
  refl,
  refl,
  refl,
  refl,
  refl,
  refl,
  refl,
  refl,
  of_size x none 0 (none_in x),
  of_size x (with none 12) 1 (with_12 x),
  of_size x (with none 13) 1 (with_13 x),
  of_size x (with (with none 12) 13) 2 (with_both x),
)
