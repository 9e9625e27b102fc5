-- A draw, one word after the other. Assumes nothing.
use Rattle.std.proofs.Common.{◌≡◌, ℕ, suc, ◌+◌, ◌-◌, ◌%◌, ◌<◌, ◌≤◌, eqb, ltb, Some, None, Option, sym, ap, ◌∙◌, arith}
use Rattle.std.proofs.lemmas.Bool.{eq-eqb, ne_eqb, lt-ltb, le-ltb, cond-true, cond-false}
use Rattle.words.specs.Draws.{limit, judged, looked, draw_of}

module _ (words : ℕ → Option ℕ) (width place : ℕ) where
  -- with width 1
  pub draw_sure : width ≡ 1 → draw_of words width place ≡ Some (record { value = 0; used = 0 })
  unfolding draw_of
  draw_sure one = cond-true (eqb width 1) _ _ (eq-eqb width 1 one)

  -- with any other width
  pub draw_wide : (width ≡ 1 → ⊥) → draw_of words width place ≡ looked words width place 0 64
  unfolding draw_of
  draw_wide other = cond-false (eqb width 1) _ _ (ne_eqb width 1 other)

  -- no word may be looked at any more
  pub looked_end : (used n : ℕ) → n ≡ 0 → looked words width place used n ≡ None
  unfolding looked
  looked_end used n none = ap (looked words width place used) none

  module _ (used n left : ℕ) (more : n ≡ suc left) where
    looked_more : looked words width place used n ≡ judged (words (place + used)) width (used + 1) (looked words width place (used + 1) left)
    unfolding looked
    looked_more = ap (looked words width place used) more

    -- the next place holds w
    pub at_word :
        (w : Option ℕ) → words (place + used) ≡ w →
        looked words width place used n ≡ judged w width (used + 1) (looked words width place (used + 1) left)
    at_word w is = looked_more ∙ ap (λ x. judged x width (used + 1) (looked words width place (used + 1) left)) is

    -- the next place has no word
    pub looked_none : words (place + used) ≡ None → looked words width place used n ≡ None
    looked_none is = at_word None is

    -- the next word is below the limit
    pub looked_low :
        (v : ℕ) → words (place + used) ≡ Some v → v < limit width →
        looked words width place used n ≡ Some (record { value = v % width; used = used + 1 })
    looked_low v is low = at_word (Some v) is ∙ cond-true (ltb v (limit width)) _ _ (lt-ltb v (limit width) low)

    -- the next word is not below it
    pub looked_high :
        (v : ℕ) → words (place + used) ≡ Some v → limit width ≤ v →
        looked words width place used n ≡ looked words width place (used + 1) left
    looked_high v is high = at_word (Some v) is ∙ cond-false (ltb v (limit width)) _ _ (le-ltb v (limit width) high)

  -- a turn of the loop, where the words still to be looked at give the draw
  module _ (used : ℕ) (inv : looked words width place used (64 - used) ≡ draw_of words width place) where
    pub turn_end : 64 ≤ used → None ≡ draw_of words width place
    turn_end all = sym (looked_end used (64 - used) (omega arith)) ∙ inv

    module _ (more : used < 64) where
      pub turn_none : None ≡ words (place + used) → None ≡ draw_of words width place
      turn_none is = sym (looked_none used (64 - used) (64 - (used + 1)) (omega arith) (sym is)) ∙ inv

      pub turn_low :
          (v : ℕ) → Some v ≡ words (place + used) → v < limit width →
          Some (record { value = v % width; used = used + 1 }) ≡ draw_of words width place
      turn_low v is low = sym (looked_low used (64 - used) (64 - (used + 1)) (omega arith) v (sym is) low) ∙ inv

      pub turn_high :
          (v : ℕ) → Some v ≡ words (place + used) → limit width ≤ v →
          looked words width place (used + 1) (64 - (used + 1)) ≡ draw_of words width place
      turn_high v is high = sym (looked_high used (64 - used) (64 - (used + 1)) (omega arith) v (sym is) high) ∙ inv
