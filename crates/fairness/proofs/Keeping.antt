-- What every reservoir of a history keeps. Assumes nothing.
use Rattle.std.proofs.Common.{◌≡◌, ℕ, ◌+◌, ◌-◌, ◌<◌, ◌≤◌, min, Bool, true, false, cond, ltb, length, sym, refl, ap, ◌∙◌, subst, inl, inr, arith}
use Rattle.std.proofs.lemmas.Bool.{both_ways, cases_eq, lt-ltb, le-ltb}
use Rattle.pairing.specs.Reservoir.{Slot, Reservoir, empty, with, without, effect_of, width, effect, c1_after, c2_after, store, slot_of, taken}
use Rattle.pairing.specs.Rules.{count_below}
use Rattle.pairing.proofs.Keeping.{Way, way, store_due, store_balance}
use Rattle.pairing.proofs.Lawfulness.{Tidy, store_tidy, take_tidy}
use Rattle.pairing.proofs.Slots.{search_found, length_placed}
use Rattle.pairing.proofs.Stock.{with_other, without_other, count_none, count_with, count_without}
use Rattle.fairness.specs.Laws.{none}
use Rattle.fairness.proofs.Slots.{after_length, after_due}

-- ---- the stock

-- n packs below b
pub record Stocked (b n : ℕ) (st : ℕ → Bool) : Type 0 where
  pub low : (q : ℕ) → st q ≡ true → q < b
  pub counted : n ≡ count_below st b

pub stocked_none : (b : ℕ) → Stocked b 0 none
stocked_none b = record {
  low = λ q e. absurd (both_ways false refl e);
  counted = sym (count_none b);
}

pub stocked_with : (b n : ℕ) (st : ℕ → Bool) (p : ℕ) → Stocked b n st → p < b → st p ≡ false → Stocked b (n + 1) (with st p)
stocked_with b n st p s within off = record {
  low = λ q e. elim (cases_eq q p) [
    | inl e' ↦ omega arith
    | inr ne ↦ s.low q (sym (with_other st p q ne) ∙ e)
  ];
  counted = omega (arith, s.counted, count_with st p b within off);
}

pub stocked_without : (b n : ℕ) (st : ℕ → Bool) (p : ℕ) → Stocked b n st → st p ≡ true → Stocked b (n - 1) (without st p)
stocked_without b n st p s on = record {
  low = λ q e. elim (cases_eq q p) [
    | inl e' ↦ omega (arith, s.low p on)
    | inr ne ↦ s.low q (sym (without_other st p q ne) ∙ e)
  ];
  counted = omega (arith, s.counted, count_without st p b (s.low p on) on);
}

pub stocked_some : (b n : ℕ) (st : ℕ → Bool) (p : ℕ) → Stocked b n st → st p ≡ true → 1 ≤ n
stocked_some b n st p s on = omega (arith, s.counted, count_without st p b (s.low p on) on)

-- ---- the width

-- it hangs on D = c1 + c2 alone
abbrev pub breadth : (m n d : ℕ) → ℕ
breadth m n d = cond (ltb 0 d) d (cond (ltb n m) 1 (n + 1))

pub breadth_due : (m n d : ℕ) → 0 < d → breadth m n d ≡ d
breadth_due m n d some = ap (λ b. cond b d (cond (ltb n m) 1 (n + 1))) (lt-ltb 0 d some)

pub breadth_fills : (m n d : ℕ) → d ≡ 0 → n < m → breadth m n d ≡ 1
breadth_fills m n d e l =
    ap (λ b. cond b d (cond (ltb n m) 1 (n + 1))) (le-ltb 0 d (omega arith)) ∙ ap (λ b. cond b 1 (n + 1)) (lt-ltb n m l)

pub breadth_full : (m n d : ℕ) → d ≡ 0 → m ≤ n → breadth m n d ≡ n + 1
breadth_full m n d e l =
    ap (λ b. cond b d (cond (ltb n m) 1 (n + 1))) (le-ltb 0 d (omega arith)) ∙ ap (λ b. cond b 1 (n + 1)) (le-ltb n m l)

-- ---- what a reservoir keeps, with capacity m, N packs of the stock st, and D deletions to compensate

pub record Keeps {X : Type 0} (b m n d : ℕ) (st : ℕ → Bool) (r : Reservoir X) : Type 0 where
  pub capacity : r.capacity ≡ m
  pub stock : r.stock ≡ st
  pub size : r.size ≡ n
  pub due : r.c1 + r.c2 ≡ d
  -- the slots' numbers are in stock, and apart
  pub slots : Tidy r.slots st
  pub filled : length r.slots + r.c1 ≡ min m (n + d)
  pub stocked : Stocked b n st

pub keeps_empty : {X : Type 0} (b m : ℕ) → Keeps {X = X} b m 0 0 none (empty m)
keeps_empty b m = record {
  capacity = refl;
  stock = refl;
  size = refl;
  due = refl;
  slots = λ q. omega arith;
  filled = omega arith;
  stocked = stocked_none b;
}

pub width_kept : {X : Type 0} (b m n d : ℕ) (st : ℕ → Bool) (r : Reservoir X) → Keeps b m n d st r → width r ≡ breadth m n d
width_kept b m n d st r k =
    ap (λ c. breadth c r.size (r.c1 + r.c2)) k.capacity ∙ ap (λ c. breadth m c (r.c1 + r.c2)) k.size ∙ ap (breadth m n) k.due

module _ {X : Type 0} (b m n d : ℕ) (st : ℕ → Bool) (r : Reservoir X) (k : Keeps b m n d st r) (p : ℕ) where
  -- the width and the effect over the history's values
  pub way_kept : (x : ℕ) → Way m n r.c1 r.c2 x (breadth m n (r.c1 + r.c2)) (effect r x)
  way_kept x =
      subst (Way m n r.c1 r.c2 x (breadth m n (r.c1 + r.c2)))
      (sym (ap (λ c. effect_of c r.size r.c1 r.c2 x) k.capacity ∙ ap (λ j. effect_of m j r.c1 r.c2 x) k.size))
      (way m n r.c1 r.c2 x)

  pub keeps_store : (item : X) (x used : ℕ) → p < b → st p ≡ false → x < breadth m n d → Keeps b m (n + 1) (d - 1) (with st p) (store r p item x used)
  unfolding store
  keeps_store item x used within off drawn =
      let s : Slot X = record { number = p; item = item } in
      let e : breadth m n (r.c1 + r.c2) ≡ breadth m n d = ap (breadth m n) k.due in
      let low : x < breadth m n (r.c1 + r.c2) = omega arith in
      let left : c1_after r.c1 (effect r x) + c2_after r.c2 (effect r x) ≡ d - 1 =
      store_due m n r.c1 r.c2 x (way_kept x) low ∙ ap (λ j. j - 1) k.due in
      record {
        capacity = k.capacity;
        stock = ap (λ (t : ℕ → Bool). with t p) k.stock;
        size = ap (λ j. j + 1) k.size;
        due = left;
        slots = store_tidy r.slots st (effect r x) s k.slots off;
        filled =
            ap (λ l. l + c1_after r.c1 (effect r x)) (length_placed (effect r x) r.slots s)
            ∙ store_balance m n (length r.slots) r.c1 r.c2 x (way_kept x) low (k.filled ∙ ap (λ j. min m (n + j)) (sym k.due))
            ∙ ap (λ j. min m (n + 1 + j)) left;
        stocked = stocked_with b n st p k.stocked within off;
      }

  pub keeps_taken : st p ≡ true → Keeps b m (n - 1) (d + 1) (without st p) (taken r p)
  unfolding taken
  keeps_taken on =
      let some : 1 ≤ n = stocked_some b n st p k.stocked on in
      record {
        capacity = k.capacity;
        stock = ap (λ (t : ℕ → Bool). without t p) k.stock;
        size = ap (λ j. j - 1) k.size;
        due = after_due (slot_of r.slots p) r.c1 r.c2 ∙ ap (λ j. j + 1) k.due;
        slots = take_tidy r.slots st p (search_found r.slots p) k.slots;
        filled = omega (arith, after_length r.slots p r.c1 (search_found r.slots p), k.filled);
        stocked = stocked_without b n st p k.stocked on;
      }
