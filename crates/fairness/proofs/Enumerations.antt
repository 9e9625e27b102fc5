-- The draw lists of a history are the admissible ones, each once; and what they leave alone. Assumes nothing.
use Rattle.std.proofs.Common.{◌≡◌, ℕ, zero, suc, ◌+◌, ◌-◌, ◌*◌, ◌<◌, Bool, true, false, not, ◌&&◌, ◌||◌, eqb, ltb, List, [], ◌∷◌, ◌++◌, map, sym, refl, ap, ◌∙◌, subst, inl, inr, one-mul, zero-mul, arith}
use mathlib.Core.Bool.{beq}
use Rattle.std.proofs.lemmas.Bool.{ne_eqb, cases_lt, ltb-true, lt-ltb, le-ltb, and_parts, false≢true}
use Rattle.pairing.specs.Reservoir.{Reservoir, empty, with, without, width, width_of, store, taken}
use Rattle.pairing.specs.Rules.{bit, count_below}
use Rattle.words.proofs.Evenness.{total_like}
use Rattle.words.specs.Laws.{total}
use Rattle.pairing.proofs.Sums.{total_mark}
use Rattle.words.proofs.Sequences.{total_none}
use Rattle.fairness.specs.Histories.{Call, Store, Take, Possible, stock_after, size_after, due_after, widths, below, each, draw_lists, count, same, run, admits}
use Rattle.fairness.specs.Laws.{holds, every, found, none, Enumerated, OnlyTheSampleIsDrawn, FoundIsSameSet}
use Rattle.fairness.proofs.Sums.{every_true, every_at_each}
use Rattle.fairness.proofs.Slots.{holds_none}
use Rattle.fairness.proofs.Keeping.{Keeps, keeps_empty, keeps_store, keeps_taken, breadth, width_kept}
use Rattle.fairness.proofs.Counts.{ways}

-- ---- counts over lists

count_append : {A : Type 0} (t : A → Bool) (xs ys : List A) → count t (xs ++ ys) ≡ count t xs + count t ys
count_append t [] ys = omega arith
count_append t (x ∷ xs) ys = omega (arith, count_append t xs ys)

count_map : {A B : Type 0} (t : B → Bool) (f : A → B) (xs : List A) → count t (map f xs) ≡ count (λ x. t (f x)) xs
count_map t f [] = refl
count_map t f (x ∷ xs) = ap (λ k. bit (t (f x)) + k) (count_map t f xs)

count_none : {A : Type 0} (xs : List A) → count (λ x. false) xs ≡ 0
count_none [] = refl
count_none (x ∷ xs) = omega (arith, count_none xs)

count_and : {A : Type 0} (b : Bool) (t : A → Bool) (xs : List A) → count (λ x. b && t x) xs ≡ bit b * count t xs
count_and true t xs = sym (one-mul (count t xs))
count_and false t xs = count_none xs ∙ sym (zero-mul (count t xs))

count_each : {A : Type 0} (t : A → Bool) (f : ℕ → List A) (w : ℕ) → count t (each f (below w)) ≡ total (λ d. count t (f d)) w
unfolding total
count_each t f zero = refl
count_each t f (suc w) = count_append t (f w) (each f (below w)) ∙ ap (λ k. count t (f w) + k) (count_each t f w)

pub count_draws : (t : List ℕ → Bool) (w : ℕ) (ws : List ℕ) → count t (draw_lists (w ∷ ws)) ≡ total (λ d. count (λ ds. t (d ∷ ds)) (draw_lists ws)) w
count_draws t w ws =
    count_each t (λ d. map (λ ds. d ∷ ds) (draw_lists ws)) w
    ∙ total_like (λ d. count t (map (λ ds. d ∷ ds) (draw_lists ws))) (λ d. count (λ ds. t (d ∷ ds)) (draw_lists ws)) w
    (λ d l. count_map t (λ ds. d ∷ ds) (draw_lists ws))

-- ---- each list once

abbrev fits : List ℕ → List ℕ → Bool
fits [] [] = true
fits [] (d ∷ ds) = false
fits (w ∷ ws) [] = false
fits (w ∷ ws) (d ∷ ds) = ltb d w && fits ws ds

marks : (d w c : ℕ) → total (λ e. bit (eqb d e) * c) w ≡ bit (ltb d w) * c
marks d w c =
    elim (cases_lt d w) [
      | inl l ↦ total_mark (λ e. c) d w l ∙ sym (ap (λ b. bit b * c) (lt-ltb d w l) ∙ one-mul c)
      | inr l ↦
          total_like (λ e. bit (eqb d e) * c) (λ e. 0) w (λ e le. ap (λ b. bit b * c) (ne_eqb d e (λ h. omega arith)) ∙ zero-mul c)
          ∙ total_none w
          ∙ sym (ap (λ b. bit b * c) (le-ltb d w l) ∙ zero-mul c)
    ]

times_bit : (x y : Bool) → bit x * bit y ≡ bit (x && y)
times_bit true y = one-mul (bit y)
times_bit false y = zero-mul (bit y)

once : (ws ds : List ℕ) → count (same ds) (draw_lists ws) ≡ bit (fits ws ds)
once [] [] = refl
once [] (d ∷ ds) = refl
once (w ∷ ws) [] =
    count_draws (same []) w ws
    ∙ total_like (λ d. count (λ (es : List ℕ). false) (draw_lists ws)) (λ d. 0) w (λ d l. count_none (draw_lists ws))
    ∙ total_none w
once (w ∷ ws) (d ∷ ds) =
    count_draws (same (d ∷ ds)) w ws
    ∙ total_like (λ e. count (λ es. eqb d e && same ds es) (draw_lists ws)) (λ e. bit (eqb d e) * bit (fits ws ds)) w
    (λ e l. count_and (eqb d e) (same ds) (draw_lists ws) ∙ ap (λ k. bit (eqb d e) * k) (once ws ds))
    ∙ marks d w (bit (fits ws ds))
    ∙ times_bit (ltb d w) (fits ws ds)

-- ---- along a run

pub width_is : {X : Type 0} (m n d : ℕ) (st : ℕ → Bool) (r : Reservoir X) → Keeps 32768 m n d st r → width r ≡ width_of m n d 0
width_is m n d st r k = width_kept 32768 m n d st r k ∙ ap (breadth m n) {x = d} {y = d + 0} (omega arith)

within_breadth : {X : Type 0} (m n d : ℕ) (st : ℕ → Bool) (r : Reservoir X) → Keeps 32768 m n d st r → (x : ℕ) → x < width_of m n d 0 → x < breadth m n d
within_breadth m n d st r k x l = subst (λ w. x < w) (sym (width_is m n d st r k) ∙ width_kept 32768 m n d st r k) l

admits_fits : {X : Type 0} (h : List (Call X)) (m n d : ℕ) (st : ℕ → Bool) (r : Reservoir X) → Keeps 32768 m n d st r → Possible st h → (ds : List ℕ) →
    admits r h ds ≡ fits (widths m n d h) ds
admits_fits [] m n d st r k possible [] = refl
admits_fits [] m n d st r k possible (x ∷ ds) = refl
admits_fits (Store p i ∷ h) m n d st r k possible [] = refl
admits_fits {X} (Store p i ∷ h) m n d st r k (within, off, possible) (x ∷ ds) =
    ap (λ w. ltb x w && admits (store r p i x 0) h ds) (width_is m n d st r k)
    ∙ both (ltb x (width_of m n d 0)) (admits (store r p i x 0) h ds) (fits (widths m (n + 1) (d - 1) h) ds)
    (λ e. admits_fits h m (n + 1) (d - 1) (with st p) (store r p i x 0)
    (keeps_store 32768 m n d st r k p i x 0 within off (within_breadth m n d st r k x (ltb-true x (width_of m n d 0) e))) possible ds) where
      both : (b s t : Bool) → (b ≡ true → s ≡ t) → (b && s) ≡ (b && t)
      both true s t e = e refl
      both false s t e = refl
admits_fits (Take p ∷ h) m n d st r k (on, possible) ds =
    admits_fits h m (n - 1) (d + 1) (without st p) (taken r p) (keeps_taken 32768 m n d st r k p on) possible ds

run_keeps : {X : Type 0} (h : List (Call X)) (m n d : ℕ) (st : ℕ → Bool) (r : Reservoir X) → Keeps 32768 m n d st r → Possible st h → (ds : List ℕ) →
    admits r h ds ≡ true → Keeps 32768 m (size_after n h) (due_after d h) (stock_after st h) (run r h ds)
run_keeps [] m n d st r k possible ds e = k
run_keeps (Store p i ∷ h) m n d st r k possible [] e = absurd (false≢true e)
run_keeps (Store p i ∷ h) m n d st r k (within, off, possible) (x ∷ ds) e =
    let parts = and_parts (ltb x (width r)) (admits (store r p i x 0) h ds) e in
    run_keeps h m (n + 1) (d - 1) (with st p) (store r p i x 0)
    (keeps_store 32768 m n d st r k p i x 0 within off (subst (λ w. x < w) (width_kept 32768 m n d st r k) (ltb-true x (width r) parts.0))) possible ds parts.1
run_keeps (Take p ∷ h) m n d st r k (on, possible) ds e =
    run_keeps h m (n - 1) (d + 1) (without st p) (taken r p) (keeps_taken 32768 m n d st r k p on) possible ds e

-- a count over the draw lists is the sum over the ends of the history
pub counted : {X : Type 0} (h : List (Call X)) (m n d : ℕ) (st : ℕ → Bool) (r : Reservoir X) → Keeps 32768 m n d st r → Possible st h →
    (t : Reservoir X → Bool) → count (λ ds. t (run r h ds)) (draw_lists (widths m n d h)) ≡ ways h (λ r. bit (t r)) r
counted [] m n d st r k possible t = omega arith
counted (Store p i ∷ h) m n d st r k (within, off, possible) t =
    count_draws (λ ds. t (run r (Store p i ∷ h) ds)) (width_of m n d 0) (widths m (n + 1) (d - 1) h)
    ∙ total_like (λ x. count (λ ds. t (run (store r p i x 0) h ds)) (draw_lists (widths m (n + 1) (d - 1) h))) (λ x. ways h (λ r. bit (t r)) (store r p i x 0)) (width_of m n d 0)
    (λ x l. counted h m (n + 1) (d - 1) (with st p) (store r p i x 0) (keeps_store 32768 m n d st r k p i x 0 within off (within_breadth m n d st r k x l)) possible t)
    ∙ ap (total (λ x. ways h (λ r. bit (t r)) (store r p i x 0))) (sym (width_is m n d st r k))
counted (Take p ∷ h) m n d st r k (on, possible) t =
    counted h m (n - 1) (d + 1) (without st p) (taken r p) (keeps_taken 32768 m n d st r k p on) possible t

-- ---- the laws

pub enumerated : {X : Type 0} → Enumerated X
enumerated m h possible ds = once (widths m 0 0 h) ds ∙ ap bit (sym (admits_fits h m 0 0 none (empty m) (keeps_empty 32768 m) possible ds))

pub settled : {X : Type 0} → OnlyTheSampleIsDrawn X
settled m h possible ds e =
    let k = run_keeps h m 0 0 none (empty m) (keeps_empty 32768 m) possible ds e in
    record {
      stock = λ p. ap (λ (s : ℕ → Bool). s p) k.stock;
      size = k.size;
      due = k.due;
      width = width_is m (size_after 0 h) (due_after 0 h) (stock_after none h) (run (empty m) h ds) k;
      counted = k.size ∙ k.stocked.counted ∙ ap (λ (s : ℕ → Bool). count_below s 32768) (sym k.stock);
      filled = k.filled;
    }

module _ {X : Type 0} (m n d : ℕ) (st : ℕ → Bool) (r : Reservoir X) (k : Keeps 32768 m n d st r) (a : ℕ → Bool) where
  as_kept : found a r ≡ every (λ q. not (st q) || beq (holds r.slots q) (a q)) 32768
  as_kept = ap (λ (s : ℕ → Bool). every (λ q. not (s q) || beq (holds r.slots q) (a q)) 32768) k.stock

  alike : (x y : Bool) → beq x y ≡ true → x ≡ y
  alike true true e = refl
  alike true false e = sym e
  alike false true e = e
  alike false false e = refl

  itself : (x : Bool) → beq x x ≡ true
  itself true = refl
  itself false = refl

  found_set : found a r ≡ true → (q : ℕ) → holds r.slots q ≡ (st q && a q)
  found_set e q = go (st q) refl where
    go : (t : Bool) → st q ≡ t → holds r.slots q ≡ (t && a q)
    go false off = holds_none r.slots q (omega (arith, k.slots q, ap bit off))
    go true on =
        alike (holds r.slots q) (a q)
        (ap (λ t. not t || beq (holds r.slots q) (a q)) (sym on)
        ∙ every_at_each (λ q. not (st q) || beq (holds r.slots q) (a q)) 32768 (sym as_kept ∙ e) q (k.stocked.low q on))

  set_found : ((q : ℕ) → holds r.slots q ≡ (st q && a q)) → found a r ≡ true
  set_found e =
      as_kept ∙ every_true (λ q. not (st q) || beq (holds r.slots q) (a q)) 32768
      (λ q l. ap (λ h. not (st q) || beq h (a q)) (e q) ∙ go (st q) (a q)) where
        go : (t g : Bool) → (not t || beq (t && g) g) ≡ true
        go false g = refl
        go true g = itself g

pub found_is_same_set : {X : Type 0} → FoundIsSameSet X
found_is_same_set m h possible ds e a =
    let k = run_keeps h m 0 0 none (empty m) (keeps_empty 32768 m) possible ds e in (
      found_set m (size_after 0 h) (due_after 0 h) (stock_after none h) (run (empty m) h ds) k a,
      set_found m (size_after 0 h) (due_after 0 h) (stock_after none h) (run (empty m) h ds) k a,
    )
