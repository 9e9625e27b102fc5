-- Counts over the draw lists of the widths above 1: a width of 1 has one draw.
-- Assumes nothing.
use Rattle.std.proofs.Common.{◌≡◌, ℕ, ◌+◌, ◌≤◌, Bool, true, false, cond, ltb, List, [], ◌∷◌, get_or, drop, sym, refl, ap, ◌∙◌, arith}
use Rattle.std.specs.List.{AllByRecursion}
use Rattle.std.proofs.lemmas.Bool.{ltb-false}
use Rattle.words.specs.Laws.{total}
use Rattle.words.proofs.Evenness.{total_like}
use Rattle.fairness.specs.Histories.{draw_lists, count}
use Rattle.fairness.proofs.Enumerations.{count_draws}
use Rattle.session.specs.Law.{above_one, Below, none, next}

-- tests that are equal on every draw list pass equally many
pub count_like :
    (f g : List ℕ → Bool) (ws : List ℕ) → ((ds : List ℕ) → Below ws ds → f ds ≡ g ds) → count f (draw_lists ws) ≡ count g (draw_lists ws)
count_like f g [] h = ap (λ b. cond b 1 0 + 0) (h [] none)
count_like f g (w ∷ ws) h =
    count_draws f w ws
    ∙ total_like (λ d. count (λ ds. f (d ∷ ds)) (draw_lists ws)) (λ d. count (λ ds. g (d ∷ ds)) (draw_lists ws)) w
    (λ d l. count_like (λ ds. f (d ∷ ds)) (λ ds. g (d ∷ ds)) ws (λ ds b. h (d ∷ ds) (next l b)))
    ∙ sym (count_draws g w ws)

-- the draws for all widths: 0 for a width of 1, else the next
abbrev pub filled : List ℕ → List ℕ → List ℕ
filled [] ds = []
filled (w ∷ ws) ds = cond (ltb 1 w) (get_or ds 0 0 ∷ filled ws (drop 1 ds)) (0 ∷ filled ws ds)

pub count_filled :
    (t : List ℕ → Bool) (ws : List ℕ) → AllByRecursion (λ w. 1 ≤ w) ws → count t (draw_lists ws) ≡ count (λ ds. t (filled ws ds)) (draw_lists (above_one ws))
unfolding total
count_filled t [] h = refl
count_filled t (w ∷ ws) h = by (ltb 1 w) refl (λ d. count_filled (λ ds. t (d ∷ ds)) ws h.1) where
  by :
      (b : Bool) → ltb 1 w ≡ b →
      ((d : ℕ) → count (λ ds. t (d ∷ ds)) (draw_lists ws) ≡ count (λ ds. t (d ∷ filled ws ds)) (draw_lists (above_one ws))) →
      count t (draw_lists (w ∷ ws))
      ≡ count (λ ds. t (cond b (get_or ds 0 0 ∷ filled ws (drop 1 ds)) (0 ∷ filled ws ds))) (draw_lists (cond b (w ∷ above_one ws) (above_one ws)))
  by true e rest =
      count_draws t w ws
      ∙ total_like (λ d. count (λ ds. t (d ∷ ds)) (draw_lists ws)) (λ d. count (λ ds. t (d ∷ filled ws ds)) (draw_lists (above_one ws))) w (λ d l. rest d)
      ∙ sym (count_draws (λ ds. t (get_or ds 0 0 ∷ filled ws (drop 1 ds))) w (above_one ws))
  by false e rest =
      let one : w ≡ 1 = omega (arith, h.0, ltb-false 1 w e) in
      count_draws t w ws
      ∙ ap (total (λ d. count (λ ds. t (d ∷ ds)) (draw_lists ws))) one
      ∙ omega (arith, rest 0)
