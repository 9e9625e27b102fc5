-- Which groups are the sample after a step, by those that were before. Assumes nothing.
use Rattle.std.proofs.Common.{◌≡◌, ℕ, ◌+◌, ◌*◌, ◌<◌, Bool, true, false, not, ◌&&◌, ◌||◌, eqb, ltb, List, [], ◌∷◌, ◌++◌, length, get_or, set, sym, refl, ap, ◌∙◌, inl, inr, one-mul, zero-mul, arith}
use mathlib.Core.Bool.{beq}
use Rattle.std.proofs.lemmas.Bool.{eq-eqb, ne_eqb, cases_eq, ltb-true, ltb-false}
use Rattle.pairing.specs.Reservoir.{Slot, with, without}
use Rattle.pairing.specs.Rules.{bit, occurs, count_below}
use Rattle.pairing.proofs.Apart.{occurs_at}
use Rattle.pairing.proofs.Lawfulness.{Tidy, tidy_distinct, tidy_stocked}
use Rattle.pairing.proofs.Slots.{occurs_push, occurs_set}
use Rattle.pairing.proofs.Stock.{with_same, with_other, without_same, without_other, total_occurs}
use Rattle.words.proofs.Evenness.{total_like}
use Rattle.pairing.proofs.Sums.{count_total}
use Rattle.fairness.specs.Laws.{holds, every}
use Rattle.fairness.proofs.Sums.{every_at, every_false, every_at_each}
use Rattle.fairness.proofs.Slots.{holds_occurs, holds_like, holds_some, holds_none}

-- ---- tests

pub bit_and : (x y : Bool) → bit (x && y) ≡ bit x * bit y
bit_and true y = sym (one-mul (bit y))
bit_and false y = sym (zero-mul (bit y))

beq_true : (t : Bool) → beq true t ≡ t
beq_true true = refl
beq_true false = refl

beq_false : (t : Bool) → beq false t ≡ not t
beq_false true = refl
beq_false false = refl

-- ---- a group is the sample

abbrev pub agree : {X : Type 0} → ℕ → (ℕ → Bool) → List (Slot X) → (ℕ → Bool) → Bool
agree b st xs a = every (λ q. not (st q) || beq (holds xs q) (a q)) b

module _ {X : Type 0} (b : ℕ) (st : ℕ → Bool) (xs : List (Slot X)) (kept : Tidy xs st) where
  -- the group then has as many packs in stock as there are slots
  occurs_found : (a : ℕ → Bool) (q : ℕ) (s : Bool) → st q ≡ s → (g : Bool) → a q ≡ g → (not s || beq (ltb 0 (occurs q xs)) g) ≡ true → occurs q xs ≡ bit (s && g)
  occurs_found a q false e g f h = omega (arith, kept q, ap bit e)
  occurs_found a q true e true f h =
      omega (arith, kept q, ap bit e, ltb-true 0 (occurs q xs) (sym (beq_of_true (ltb 0 (occurs q xs))) ∙ h)) where
        beq_of_true : (t : Bool) → beq t true ≡ t
        beq_of_true true = refl
        beq_of_true false = refl
  occurs_found a q true e false f h = omega (arith, ltb-false 0 (occurs q xs) (turned (ltb 0 (occurs q xs)) h)) where
    turned : (t : Bool) → beq t false ≡ true → t ≡ false
    turned true k = sym k
    turned false k = refl

  pub found_size : ((q : ℕ) → st q ≡ true → q < b) → (a : ℕ → Bool) → agree b st xs a ≡ true → length xs ≡ count_below (λ q. st q && a q) b
  found_size lows a is =
      sym (total_occurs xs b (λ q some. lows q (tidy_stocked xs st kept q some)))
      ∙ total_like (λ q. occurs q xs) (λ q. bit (st q && a q)) b
      (λ q below. occurs_found a q (st q) refl (a q) refl (ap (λ h. not (st q) || beq h (a q)) (sym (holds_occurs xs q)) ∙ every_at_each (λ q. not (st q) || beq (holds xs q) (a q)) b is q below))
      ∙ sym (count_total (λ q. st q && a q) b)

  module _ (p : ℕ) (within : p < b) where
    -- ---- after a store of p

    module _ (off : st p ≡ false) where
      agree_new : (ys : List (Slot X)) (a : ℕ → Bool) → ((q : ℕ) → (q ≡ p → ⊥) → occurs q ys ≡ occurs q xs) →
          agree b (with st p) ys a ≡ (beq (holds ys p) (a p) && agree b st xs a)
      agree_new ys a same =
          every_at (λ q. not (with st p q) || beq (holds ys q) (a q)) (λ q. not (st q) || beq (holds xs q) (a q)) p b within
          (λ q ne.
          ap (λ t. not t || beq (holds ys q) (a q)) (with_other st p q ne)
          ∙ ap (λ h. not (st q) || beq h (a q)) (holds_like ys xs q (same q ne)))
          (ap (λ t. not t || beq (holds xs p) (a p)) off)
          ∙ ap (λ t. (not t || beq (holds ys p) (a p)) && agree b st xs a) (with_same st p p refl)

      absent : occurs p xs ≡ 0
      absent = omega (arith, kept p, ap bit off)

      pub entered : (s : Slot X) (a : ℕ → Bool) → s.number ≡ p → agree b (with st p) (xs ++ s ∷ []) a ≡ (a p && agree b st xs a)
      entered s a e =
          agree_new (xs ++ s ∷ []) a (λ q ne. omega (arith, occurs_push q xs s, ap bit (ne_eqb s.number q (λ f. ne (sym f ∙ e)))))
          ∙ ap (λ h. beq h (a p) && agree b st xs a)
          (holds_some (xs ++ s ∷ []) p (omega (arith, occurs_push p xs s, ap bit (eq-eqb s.number p e))))
          ∙ ap (λ h. h && agree b st xs a) (beq_true (a p))

      pub stayed : (a : ℕ → Bool) → agree b (with st p) xs a ≡ (not (a p) && agree b st xs a)
      stayed a =
          agree_new xs a (λ q ne. refl)
          ∙ ap (λ h. beq h (a p) && agree b st xs a) (holds_none xs p absent)
          ∙ ap (λ h. h && agree b st xs a) (beq_false (a p))

      module _ (s : Slot X) (e : s.number ≡ p) (i : ℕ) (inside : i < length xs) where
        set_occurs : (q : ℕ) → occurs q (set xs i s) + bit (eqb (get_or xs i s).number q) ≡ occurs q xs + bit (eqb s.number q)
        set_occurs q = occurs_set q xs i s s inside

        -- the pack that leaves is in a slot, in stock, and is not p
        left_there : 0 < occurs (get_or xs i s).number xs
        left_there = occurs_at (get_or xs i s).number xs i s inside refl

        left_other : (get_or xs i s).number ≡ p → ⊥
        left_other f = omega (arith, left_there, ap (λ q. occurs q xs) f, absent)

        set_here : holds (set xs i s) p ≡ true
        set_here =
            holds_some (set xs i s) p
            (omega (arith, set_occurs p, ap bit (eq-eqb s.number p e), ap bit (ne_eqb (get_or xs i s).number p left_other)))

        pub replaced_out : (a : ℕ → Bool) → a p ≡ false → agree b (with st p) (set xs i s) a ≡ false
        replaced_out a out =
            every_false (λ q. not (with st p q) || beq (holds (set xs i s) q) (a q)) p b within
            (ap (λ t. not t || beq (holds (set xs i s) p) (a p)) (with_same st p p refl)
            ∙ ap (λ h. beq h (a p)) set_here
            ∙ ap (beq true) out)

        pub replaced_in : ((q : ℕ) → st q ≡ true → q < b) → (a : ℕ → Bool) → a p ≡ true →
            agree b (with st p) (set xs i s) a ≡ (not (a (get_or xs i s).number) && agree b st xs (with a (get_or xs i s).number))
        replaced_in lows a has =
            let y : ℕ = (get_or xs i s).number in
            every_at f g y b (lows y on) other
            (ap (λ h. not (st y) || beq h (with a y y)) (holds_some xs y left_there) ∙ ap (λ t. not (st y) || beq true t) (with_same a y y refl) ∙ or_true (not (st y)))
            ∙ ap (λ t. t && agree b st xs (with a y))
            (ap (λ t. not t || beq (holds (set xs i s) y) (a y)) (with_other st p y left_other ∙ on)
            ∙ ap (λ h. beq h (a y)) (holds_none (set xs i s) y gone)
            ∙ beq_false (a y)) where
              f : ℕ → Bool
              f q = not (with st p q) || beq (holds (set xs i s) q) (a q)

              g : ℕ → Bool
              g q = not (st q) || beq (holds xs q) (with a (get_or xs i s).number q)

              or_true : (t : Bool) → (t || true) ≡ true
              or_true true = refl
              or_true false = refl

              on : st (get_or xs i s).number ≡ true
              on = tidy_stocked xs st kept (get_or xs i s).number left_there

              gone : occurs (get_or xs i s).number (set xs i s) ≡ 0
              gone =
                  omega (
                    arith,
                    set_occurs (get_or xs i s).number,
                    tidy_distinct xs st kept (get_or xs i s).number,
                    ap bit (eq-eqb (get_or xs i s).number (get_or xs i s).number refl),
                    ap bit (ne_eqb s.number (get_or xs i s).number (λ h. left_other (sym h ∙ e))),
                  )

              other : (q : ℕ) → (q ≡ (get_or xs i s).number → ⊥) → f q ≡ g q
              other q ne =
                  elim (cases_eq q p) [
                    | inl same ↦
                        ap f same
                        ∙ ap (λ t. not t || beq (holds (set xs i s) p) (a p)) (with_same st p p refl)
                        ∙ ap (λ h. beq h (a p)) set_here
                        ∙ ap (beq true) has
                        ∙ sym (ap g same ∙ ap (λ t. not t || beq (holds xs p) (with a (get_or xs i s).number p)) off)
                    | inr np ↦
                        ap (λ t. not t || beq (holds (set xs i s) q) (a q)) (with_other st p q np)
                        ∙ ap (λ h. not (st q) || beq h (a q))
                        (holds_like (set xs i s) xs q
                        (omega (arith, set_occurs q, ap bit (ne_eqb (get_or xs i s).number q (λ h. ne (sym h))), ap bit (ne_eqb s.number q (λ h. np (sym h ∙ e))))))
                        ∙ ap (λ t. not (st q) || beq (holds xs q) t) (sym (with_other a (get_or xs i s).number q ne))
                  ]

    -- ---- after a take of p

    agree_left : (ys : List (Slot X)) (a c : ℕ → Bool) → st p ≡ true → ((q : ℕ) → (q ≡ p → ⊥) → occurs q ys ≡ occurs q xs) → ((q : ℕ) → (q ≡ p → ⊥) → c q ≡ a q) →
        agree b st xs c ≡ (beq (holds xs p) (c p) && agree b (without st p) ys a)
    agree_left ys a c on same like =
        every_at (λ q. not (st q) || beq (holds xs q) (c q)) (λ q. not (without st p q) || beq (holds ys q) (a q)) p b within
        (λ q ne.
        ap (λ t. not t || beq (holds xs q) (c q)) (sym (without_other st p q ne))
        ∙ ap (λ h. not (without st p q) || beq h (c q)) (holds_like xs ys q (sym (same q ne)))
        ∙ ap (λ t. not (without st p q) || beq (holds ys q) t) (like q ne))
        (ap (λ t. not t || beq (holds ys p) (a p)) (without_same st p p refl))
        ∙ ap (λ t. (not t || beq (holds xs p) (c p)) && agree b (without st p) ys a) on

    split : (h x : Bool) → bit (beq h true && x) + bit (beq h false && x) ≡ bit x
    split true x = omega arith
    split false x = omega arith

    pub left : (ys : List (Slot X)) (a : ℕ → Bool) → st p ≡ true → ((q : ℕ) → (q ≡ p → ⊥) → occurs q ys ≡ occurs q xs) →
        bit (agree b (without st p) ys a) ≡ bit (agree b st xs (with a p)) + bit (agree b st xs (without a p))
    left ys a on same =
        let u : Bool = agree b (without st p) ys a in
        let one : bit (agree b st xs (with a p)) ≡ bit (beq (holds xs p) true && u) =
        ap bit (agree_left ys a (with a p) on same (λ q ne. with_other a p q ne) ∙ ap (λ t. beq (holds xs p) t && u) (with_same a p p refl)) in
        let two : bit (agree b st xs (without a p)) ≡ bit (beq (holds xs p) false && u) =
        ap bit (agree_left ys a (without a p) on same (λ q ne. without_other a p q ne) ∙ ap (λ t. beq (holds xs p) t && u) (without_same a p p refl)) in
        omega (arith, split (holds xs p) u)
