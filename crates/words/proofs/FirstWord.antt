-- The first word below the limit gives the draw. Assumes nothing.
use Rattle.std.proofs.Common.{◌≡◌, ℕ, zero, suc, ◌+◌, ◌-◌, ◌%◌, ◌<◌, ◌≤◌, ◌⊎◌, Some, None, Option, sym, refl, ap, ◌∙◌, subst, inl, inr, add-one, arith, below_more}
use Rattle.std.proofs.lemmas.Bool.{cases_lt}
use Rattle.words.specs.Draws.{limit, looked, draw_of}
use Rattle.words.specs.Laws.{Passed, Draws, Refuses, FirstIsDrawn}
use Rattle.words.specs.declared.draws.Drawn.{Drawn}
use Rattle.words.proofs.Looks.{draw_wide, looked_end, looked_none, looked_low, looked_high}

module _ (words : ℕ → Option ℕ) (width place : ℕ) where
  -- after i words that are not below the limit, the rest gives the draw
  passed_on : (i : ℕ) → i ≤ 64 → Passed words width place i → looked words width place 0 64 ≡ looked words width place i (64 - i)
  passed_on zero within passed = refl
  passed_on (suc i) within passed =
      let high = passed i (omega arith) in
      passed_on i (omega arith) (λ j below. passed j (omega arith))
      ∙ looked_high words width place i (64 - i) (64 - suc i) (omega arith) high.0 high.1 high.2
      ∙ ap (λ used. looked words width place used (64 - suc i)) (add-one i)

  drawn : (d : Drawn) → Draws words width place d → looked words width place 0 64 ≡ Some d
  drawn d (i, v, within, passed, is, low, same) =
      passed_on i (omega arith) passed
      ∙ looked_low words width place i (64 - i) (64 - suc i) (omega arith) v is low
      ∙ ap Some (sym same)

  refused : Refuses words width place → looked words width place 0 64 ≡ None
  refused (inl (i, within, passed, is)) =
      passed_on i (omega arith) passed ∙ looked_none words width place i (64 - i) (64 - suc i) (omega arith) is
  refused (inr passed) = passed_on 64 (omega arith) passed ∙ looked_end words width place 64 0 refl

  -- how a draw can end
  Ending : Type 0
  Ending = ((d : Drawn) × Draws words width place d) ⊎ Refuses words width place

  module _ (i : ℕ) (within : i < 64) (passed : Passed words width place i) where
    high_passed : (v : ℕ) → words (place + i) ≡ Some v → limit width ≤ v → Passed words width place (i + 1)
    high_passed v is high = below_more (λ j. (w : ℕ) × (words (place + j) ≡ Some w) × (limit width ≤ w)) i passed (v, is, high)

    -- what the next place holds
    next : (w : Option ℕ) → words (place + i) ≡ w → (Passed words width place (i + 1) → Ending) → Ending
    unfolding Ending
    next None is go = inr (inl (i, within, passed, is))
    next (Some v) is go =
        elim (cases_lt v (limit width)) [
          | inl low ↦ inl (record { value = v % width; used = i + 1 }, (i, v, within, passed, is, low, refl))
          | inr high ↦ go (high_passed v is high)
        ]

  ends : (left i : ℕ) → i + left ≡ 64 → Passed words width place i → Ending
  unfolding Ending
  ends zero i all passed = inr (inr (subst (Passed words width place) (omega arith) passed))
  ends (suc left) i all passed = next i (omega arith) passed (words (place + i)) refl (ends left (i + 1) (omega arith))

  module _ (wide : 2 ≤ width) where
    draws : (d : Drawn) → Draws words width place d → draw_of words width place ≡ Some d
    draws d how = draw_wide words width place (omega arith) ∙ drawn d how

    refuses : Refuses words width place → draw_of words width place ≡ None
    refuses how = draw_wide words width place (omega arith) ∙ refused how

    ending : Ending
    ending = ends 64 0 refl (λ i below. absurd (omega arith))

    draws_only : Ending → (d : Drawn) → draw_of words width place ≡ Some d → Draws words width place d
    unfolding Ending
    draws_only (inl (e, how)) d is =
        let given = draws e how in
        let same : e ≡ d = cc in
        subst (Draws words width place) same how
    draws_only (inr how) d is =
        let given = refuses how in
        let never : ◌≡◌ {A = ℕ} 0 1 = cc in
        absurd (omega arith)

    refuses_only : Ending → draw_of words width place ≡ None → Refuses words width place
    unfolding Ending
    refuses_only (inl (e, how)) is =
        let given = draws e how in
        let never : ◌≡◌ {A = ℕ} 0 1 = cc in
        absurd (omega arith)
    refuses_only (inr how) is = how

pub first_is_drawn : FirstIsDrawn
first_is_drawn words width place wide = (
  draws_only words width place wide (ending words width place wide),
  draws words width place wide,
  refuses_only words width place wide (ending words width place wide),
  refuses words width place wide,
)
