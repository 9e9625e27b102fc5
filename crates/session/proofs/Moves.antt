-- The committed calls of a session as a history: what it needs of the tape, and the reservoir that it leaves.
-- Assumes nothing.
use Rattle.std.proofs.Common.{◌≡◌, ℕ, suc, ◌+◌, ◌-◌, ◌%◌, ◌<◌, ◌≤◌, Bool, true, false, cond, ltb, List, [], ◌∷◌, length, get_or, drop, Some, Option, sym, refl, ap, ◌∙◌, subst, add-zero, mod-lt, mod-eq_of_lt, arith}
use Rattle.std.specs.List.{AllByRecursion}
use Rattle.std.proofs.lemmas.Bool.{cond_both, lt-ltb, le-ltb, ltb-true}
use Rattle.words.specs.Draws.{draw_of}
use Rattle.words.specs.declared.draws.Drawn.{Drawn}
use Rattle.pairing.specs.Reservoir.{Reservoir, with, without, width, width_of, store, taken}
use Rattle.pairing.proofs.Stock.{count_with, count_bound}
use Rattle.fairness.specs.Histories.{Call, Store, Take, Possible, widths, run}
use Rattle.fairness.proofs.Keeping.{Keeps, keeps_store, keeps_taken, width_kept, stocked_some}
use Rattle.fairness.proofs.Enumerations.{width_is}
use Rattle.session.specs.Law.{above_one, Below, next}
use Rattle.session.proofs.DrawLists.{filled}
use Rattle.session.proofs.PlannedRuns.{some_same}
use Rattle.session.proofs.Tapes.{Begins, Tape, Draws, draws, sure, word}

-- the committed calls, each possible when it comes, the Stores with the draws of the words
pub data Moves {X : Type 0} (words : ℕ → Option ℕ) : Reservoir X → List (Call X) → Reservoir X → Type 0 where
  ends : {r : Reservoir X} → Moves words r [] r
  stores :
      {r r' : Reservoir X} {h : List (Call X)} {number : ℕ} {item : X} {drawn : Drawn} → number < 32768 → r.stock number ≡ false →
      draw_of words (width r) r.words ≡ Some drawn → Moves words (store r number item drawn.value drawn.used) h r' →
      Moves words r (Store number item ∷ h) r'
  takes :
      {r r' : Reservoir X} {h : List (Call X)} {number : ℕ} → r.stock number ≡ true → Moves words (taken r number) h r' →
      Moves words r (Take number ∷ h) r'

-- ---- what each reservoir keeps: capacity m, N packs of the stock st, D deletions to compensate

pub record Kept {X : Type 0} (m n d : ℕ) (st : ℕ → Bool) (r : Reservoir X) : Type 0 where
  pub keeps : Keeps 32768 m n d st r
  pub room : n + d ≤ 32768

module _ {X : Type 0} {m n d : ℕ} {st : ℕ → Bool} {r : Reservoir X} (k : Kept m n d st r) where
  pub kept_width : width r ≡ width_of m n d 0
  kept_width = width_is m n d st r k.keeps

  pub kept_stock : (p : ℕ) {b : Bool} → r.stock p ≡ b → st p ≡ b
  kept_stock p e = sym (ap (λ (s : ℕ → Bool). s p) k.keeps.stock) ∙ e

  module _ {p : ℕ} (low : p < 32768) (out : r.stock p ≡ false) where
    below_all : n < 32768
    below_all =
        omega (
          arith,
          k.keeps.stocked.counted,
          count_with st p 32768 low (kept_stock p out),
          count_bound (with st p) 32768,
        )

    pub kept_store : (item : X) (x used : ℕ) → x < width r → Kept m (n + 1) (d - 1) (with st p) (store r p item x used)
    kept_store item x used below = record {
      keeps = keeps_store 32768 m n d st r k.keeps p item x used low (kept_stock p out) (subst (λ w. x < w) (width_kept 32768 m n d st r k.keeps) below);
      room = omega (arith, k.room, below_all);
    }

    pub width_most : width_of m n d 0 ≤ 32768
    width_most =
        cond_both (ltb 0 (d + 0)) (d + 0) (cond (ltb n m) 1 (n + 1)) (λ w. w ≤ 32768)
        (λ e. omega (arith, k.room))
        (λ e. cond_both (ltb n m) 1 (n + 1) (λ w. w ≤ 32768) (λ f. omega arith) (λ f. omega (arith, below_all)))

  pub kept_taken : (p : ℕ) → r.stock p ≡ true → Kept m (n - 1) (d + 1) (without st p) (taken r p)
  kept_taken p inside = record {
    keeps = keeps_taken 32768 m n d st r k.keeps p (kept_stock p inside);
    room = omega (arith, k.room, stocked_some 32768 n st p k.keeps.stocked (kept_stock p inside));
  }

pub width_least : (m n d : ℕ) → 1 ≤ width_of m n d 0
width_least m n d =
    cond_both (ltb 0 (d + 0)) (d + 0) (cond (ltb n m) 1 (n + 1)) (λ w. 1 ≤ w)
    (λ e. omega (arith, ltb-true 0 (d + 0) e))
    (λ e. cond_both (ltb n m) 1 (n + 1) (λ w. 1 ≤ w) (λ f. omega arith) (λ f. omega arith))

pub store_words : {X : Type 0} (r : Reservoir X) (p : ℕ) (item : X) (x used : ℕ) → (store r p item x used).words ≡ r.words + used
unfolding store
store_words r p item x used = refl

pub taken_words : {X : Type 0} (r : Reservoir X) (p : ℕ) → (taken r p).words ≡ r.words
unfolding taken
taken_words r p = refl

-- ---- what a history needs of a tape

pub record Bounded {X : Type 0} (n place : ℕ) (m s d : ℕ) (st : ℕ → Bool) (h : List (Call X)) : Type 0 where
  pub possible : Possible st h
  pub least : AllByRecursion (λ w. 1 ≤ w) (widths m s d h)
  pub most : AllByRecursion (λ w. w ≤ 32768) (widths m s d h)
  pub few : length (above_one (widths m s d h)) ≤ n - place

module _ {n w k : ℕ} {words : ℕ → Option ℕ} where
  pub drawn_below : {drawn : Drawn} → Draws n w k words (Some drawn) → drawn.value < w
  drawn_below (sure e) = omega arith
  drawn_below (word v wide inside is) = mod-lt v (omega arith)

  few_more : {drawn : Drawn} → Draws n w k words (Some drawn) → (ws : List ℕ) → length (above_one ws) ≤ n - (k + drawn.used) → length (above_one (w ∷ ws)) ≤ n - k
  few_more (sure e) ws few = subst (λ b. length (cond b (w ∷ above_one ws) (above_one ws)) ≤ n - k) (sym (le-ltb 1 w (omega arith))) (omega arith)
  few_more (word v wide inside is) ws few = subst (λ b. length (cond b (w ∷ above_one ws) (above_one ws)) ≤ n - k) (sym (lt-ltb 1 w (omega arith))) (omega arith)

module _ {X : Type 0} {t : ℕ} {words : ℕ → Option ℕ} (tape : Tape t words) where
  -- the draw of a Store
  pub draw_at_lem :
      {m n d : ℕ} {st : ℕ → Bool} {r : Reservoir X} → Kept m n d st r → {p : ℕ} → p < 32768 → r.stock p ≡ false → {o : Option Drawn} →
      draw_of words (width r) r.words ≡ o → Draws t (width_of m n d 0) r.words words o
  draw_at_lem {m} {n} {d} {st} {r} k low out {o} is =
      draws tape (width_of m n d 0) r.words (width_least m n d) (width_most k low out) (ap (λ w. draw_of words w r.words) (sym (kept_width k)) ∙ is)

  pub store_kept :
      {m n d : ℕ} {st : ℕ → Bool} {r : Reservoir X} → Kept m n d st r → {p : ℕ} → p < 32768 → r.stock p ≡ false → {drawn : Drawn} →
      draw_of words (width r) r.words ≡ Some drawn → (item : X) → Kept m (n + 1) (d - 1) (with st p) (store r p item drawn.value drawn.used)
  store_kept k low out {drawn} is item =
      kept_store k low out item drawn.value drawn.used (subst (λ w. drawn.value < w) (sym (kept_width k)) (drawn_below (draw_at_lem k low out is)))

  pub bounded :
      {r r' : Reservoir X} {h : List (Call X)} → Moves words r h r' → {m n d : ℕ} {st : ℕ → Bool} → Kept m n d st r →
      Bounded t r.words m n d st h
  bounded ends k = record { possible = tt; least = tt; most = tt; few = omega arith }
  bounded {r} (stores {h = h} {number = number} {item = item} {drawn = drawn} low out is rest) {m} {n} {d} {st} k =
      let b = bounded rest (store_kept k low out is item) in
      record {
        possible = (low, kept_stock k number out, b.possible);
        least = (width_least m n d, b.least);
        most = (width_most k low out, b.most);
        few =
            few_more (draw_at_lem k low out is) (widths m (n + 1) (d - 1) h)
            (subst (λ p. length (above_one (widths m (n + 1) (d - 1) h)) ≤ t - p) (store_words r number item drawn.value drawn.used) b.few);
      }
  bounded {r} (takes {h = h} {number = number} inside rest) {m} {n} {d} {st} k =
      let b = bounded rest (kept_taken k number inside) in
      record {
        possible = (kept_stock k number inside, b.possible);
        least = b.least;
        most = b.most;
        few = subst (λ p. length (above_one (widths m (n - 1) (d + 1) h)) ≤ t - p) (taken_words r number) b.few;
      }

-- ---- the reservoir that it leaves

-- the reservoir, without the count of words
abbrev pub unworded : {X : Type 0} → Reservoir X → Reservoir X
unworded r = record {
  capacity = r.capacity;
  stock = r.stock;
  size = r.size;
  slots = r.slots;
  c1 = r.c1;
  c2 = r.c2;
  calls = r.calls;
  words = 0;
}

store_unworded : {X : Type 0} (r : Reservoir X) (p : ℕ) (item : X) (x used : ℕ) → store (unworded r) p item x 0 ≡ unworded (store r p item x used)
unfolding store
store_unworded r p item x used = refl

taken_unworded : {X : Type 0} (r : Reservoir X) (p : ℕ) → taken (unworded r) p ≡ unworded (taken r p)
unfolding taken
taken_unworded r p = refl

begins_on : (words : ℕ → Option ℕ) (place x : ℕ) (ds : List ℕ) → Begins words place (x ∷ ds) → Begins words (place + 1) ds
begins_on words place x ds h i within = ap words {x = place + 1 + i} {y = place + suc i} (omega arith) ∙ h (suc i) (omega arith)

module _ {X : Type 0} {t : ℕ} {words : ℕ → Option ℕ} (r r' : Reservoir X) (number : ℕ) (item : X) (h : List (Call X)) (w : ℕ) (ws : List ℕ) where
  run_store :
      {drawn : Drawn} → Draws t w r.words words (Some drawn) →
      ((ds : List ℕ) → Below (above_one ws) ds → Begins words (r.words + drawn.used) ds →
      run (unworded (store r number item drawn.value drawn.used)) h (filled ws ds) ≡ unworded r') →
      (ds : List ℕ) → Below (above_one (w ∷ ws)) ds → Begins words r.words ds →
      run (unworded r) (Store number item ∷ h) (filled (w ∷ ws) ds) ≡ unworded r'
  run_store (sure e) rest ds = by (ltb 1 w) (le-ltb 1 w (omega arith)) where
    by :
        (b : Bool) → b ≡ false → Below (cond b (w ∷ above_one ws) (above_one ws)) ds → Begins words r.words ds →
        run (unworded r) (Store number item ∷ h) (cond b (get_or ds 0 0 ∷ filled ws (drop 1 ds)) (0 ∷ filled ws ds)) ≡ unworded r'
    by true e below begins = absurd (let z : ◌≡◌ {A = ℕ} 0 1 = cc in omega arith)
    by false e below begins =
        ap (λ s. run s h (filled ws ds)) (store_unworded r number item 0 0)
        ∙ rest ds below (subst (λ p. Begins words p ds) (sym (add-zero r.words)) begins)
  run_store (word v wide inside is) rest ds = by (ltb 1 w) (lt-ltb 1 w (omega arith)) ds where
    by :
        (b : Bool) → b ≡ true → (ds : List ℕ) → Below (cond b (w ∷ above_one ws) (above_one ws)) ds → Begins words r.words ds →
        run (unworded r) (Store number item ∷ h) (cond b (get_or ds 0 0 ∷ filled ws (drop 1 ds)) (0 ∷ filled ws ds)) ≡ unworded r'
    by false e ds below begins = absurd (let z : ◌≡◌ {A = ℕ} 0 1 = cc in omega arith)
    by true e [] below begins = elim below [ ]
    by true e (x ∷ ds) (next low below) begins =
        let same : v ≡ x = some_same (sym is ∙ ap words (sym (add-zero r.words)) ∙ begins 0 (omega arith)) in
        let value : v % w ≡ x = ap (λ y. y % w) same ∙ mod-eq_of_lt low in
        ap (λ s. run s h (filled ws ds)) (store_unworded r number item x 1)
        ∙ ap (λ y. run (unworded (store r number item y 1)) h (filled ws ds)) (sym value)
        ∙ rest ds below (begins_on words r.words x ds begins)

module _ {X : Type 0} {t : ℕ} {words : ℕ → Option ℕ} (tape : Tape t words) where
  pub run_moves :
      {r r' : Reservoir X} {h : List (Call X)} → Moves words r h r' → {m n d : ℕ} {st : ℕ → Bool} → Kept m n d st r →
      (ds : List ℕ) → Below (above_one (widths m n d h)) ds → Begins words r.words ds →
      run (unworded r) h (filled (widths m n d h) ds) ≡ unworded r'
  run_moves ends k ds below begins = refl
  run_moves {r} {r'} (stores {h = h} {number = number} {item = item} {drawn = drawn} low out is rest) {m} {n} {d} {st} k ds below begins =
      run_store r r' number item h (width_of m n d 0) (widths m (n + 1) (d - 1) h) (draw_at_lem tape k low out is)
      (λ ds below begins.
      run_moves rest (store_kept tape k low out is item) ds below
      (subst (λ p. Begins words p ds) (sym (store_words r number item drawn.value drawn.used)) begins))
      ds below begins
  run_moves {r} {r'} (takes {h = h} {number = number} inside rest) {m} {n} {d} {st} k ds below begins =
      ap (λ s. run s h (filled (widths m (n - 1) (d + 1) h) ds)) (taken_unworded r number)
      ∙ run_moves rest (kept_taken k number inside) ds below (subst (λ p. Begins words p ds) (sym (taken_words r number)) begins)
