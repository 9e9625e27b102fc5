-- What a draw's result keeps to. Assumes nothing.
use Rattle.std.proofs.Common.{◌≡◌, ℕ, zero, suc, ◌+◌, ◌%◌, ◌^◌, ◌<◌, ◌≤◌, ltb, IfOk, Some, None, Option, sym, refl, ap, ◌∙◌, inl, inr, mod-lt, arith}
use Rattle.fault.specs.declared.Fault.{Fault}
use Rattle.std.proofs.lemmas.Bool.{lt-ltb, cond-true, cases_eq}
use Rattle.std.specs.Option.{ok_or}
use Rattle.words.specs.Draws.{addressable, judged, looked, draw_of}
use Rattle.words.specs.declared.draws.Drawn.{Drawn}
use Rattle.words.proofs.FirstWord.{first_is_drawn}
use Rattle.words.proofs.Looks.{draw_sure, draw_wide, looked_end, at_word}

-- a draw is below its width, and uses at most 64 words
pub drawn_within :
    (words : ℕ → Option ℕ) (width place : ℕ) (d : Drawn) → 1 ≤ width → draw_of words width place ≡ Some d →
    (d.value < width) × (d.used ≤ 64)
drawn_within words width place d positive is =
    elim (cases_eq width 1) [
      | inl one ↦
          let sure = draw_sure words width place one in
          let value : d.value ≡ 0 = cc in
          let used : d.used ≡ 0 = cc in
          (omega arith, omega arith)
      | inr other ↦
          let how = (first_is_drawn words width place (omega arith)).0 d is in
          let v = how.1 in
          let value : d.value ≡ v % width = ap (λ x. x.value) how.6 in
          let used : d.used ≡ how.0 + 1 = ap (λ x. x.used) how.6 in
          (omega (arith, mod-lt v positive), omega arith)
    ]

-- at lawful places a source is asked only for places that 64 bits can name
module _ (words : ℕ → Option ℕ) (width place : ℕ) where
  looked_near :
      (left used : ℕ) → place + used + left ≤ 2 ^ 64 →
      looked (addressable words) width place used left ≡ looked words width place used left
  looked_near zero used near = looked_end (addressable words) width place used 0 refl ∙ sym (looked_end words width place used 0 refl)
  looked_near (suc left) used near =
      let at = place + used in
      let named : addressable words at ≡ words at = cond-true (ltb at (2 ^ 64)) (words at) None (lt-ltb at (2 ^ 64) (omega arith)) in
      at_word (addressable words) width place used (suc left) left refl (words at) named
      ∙ ap (judged (words at) width (used + 1)) (looked_near left (used + 1) (omega arith))
      ∙ sym (at_word words width place used (suc left) left refl (words at) refl)

  pub draw_near : place + 64 ≤ 2 ^ 64 → draw_of (addressable words) width place ≡ draw_of words width place
  draw_near near =
      elim (cases_eq width 1) [
        | inl one ↦ draw_sure (addressable words) width place one ∙ sym (draw_sure words width place one)
        | inr other ↦
            draw_wide (addressable words) width place other
            ∙ looked_near 64 0 (omega arith)
            ∙ sym (draw_wide words width place other)
      ]

made_from : (o : Option Drawn) (e : Fault) (P : Drawn → Type 0) → ((d : Drawn) → o ≡ Some d → P d) → IfOk (ok_or o e) P
made_from None e P each = tt
made_from (Some d) e P each = each d refl

pub made_within :
    (words : ℕ → Option ℕ) (width place : ℕ) (e : Fault) → 1 ≤ width →
    IfOk (ok_or (draw_of words width place) e) (λ d. (d.value < width) × (d.used ≤ 64))
made_within words width place e positive =
    made_from (draw_of words width place) e (λ d. (d.value < width) × (d.used ≤ 64)) (λ d is. drawn_within words width place d positive is)
