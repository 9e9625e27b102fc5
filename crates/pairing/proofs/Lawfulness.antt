-- Each call keeps the rules. Assumes nothing.
use Rattle.std.proofs.Common.{◌≡◌, ℕ, ◌<◌, ◌≤◌, Bool, true, false, eqb, ◌≢◌, List, length, is_some, Option, sym, refl, ap, ◌∙◌, subst, ⊎_elim, arith}
use Rattle.std.proofs.lemmas.Bool.{both_ways, ne_eqb, cases_eq, cases_lt}
use Rattle.words.specs.declared.draws.Drawn.{Drawn}
use Rattle.pairing.specs.declared.Effect.{Effect}
use Rattle.pairing.specs.Ranges.{Ranges}
use Rattle.pairing.specs.Reservoir.{Slot, Reservoir, empty, store, taken, width, effect, placed, slot_of, slots_after, with, without}
use Rattle.pairing.specs.Steps.{counts_of, CanCall}
use Rattle.pairing.specs.Rules.{bit, occurs, count_below, Lawful, Reachable, starts, stores, takes, after_take, CanTake, CallsPossible}
use Rattle.pairing.proofs.Following.{store_follows, take_follows}
use Rattle.pairing.proofs.Keeping.{store_keeps, width_fits, take_in_keeps, take_out_keeps, empty_keeps}
use Rattle.pairing.proofs.Slots.{Found, there, nowhere, search_found, occurs_placed, occurs_taken, occurs_other}
use Rattle.pairing.proofs.Stock.{bit_most, count_none, count_bound, with_same, with_other, count_with, without_other, count_without, slots_less}

-- each number is in as many slots at most as it is in stock
abbrev pub Tidy : {X : Type 0} → List (Slot X) → (ℕ → Bool) → Type 0
Tidy xs s = (p : ℕ) → occurs p xs ≤ bit (s p)

bit_true : (b : Bool) → 1 ≤ bit b → b ≡ true
bit_true true h = refl
bit_true false h = absurd (omega arith)

pub tidy_distinct : {X : Type 0} (xs : List (Slot X)) (s : ℕ → Bool) → Tidy xs s → (p : ℕ) → occurs p xs ≤ 1
tidy_distinct xs s tidy p = let a = tidy p in let b = bit_most (s p) in omega (arith, a, b)

pub tidy_stocked : {X : Type 0} (xs : List (Slot X)) (s : ℕ → Bool) → Tidy xs s → (p : ℕ) → 1 ≤ occurs p xs → s p ≡ true
tidy_stocked xs s tidy p h = bit_true (s p) (let a = tidy p in omega (arith, a))

tidy_by : {X : Type 0} (r : Reservoir X) → Lawful r → (p : ℕ) (b : Bool) → r.stock p ≡ b → occurs p r.slots ≤ bit b
tidy_by r l p true e = l.distinct p
tidy_by r l p false e =
    ⊎_elim
    (λ (h : occurs p r.slots < 1). omega (arith, h))
    (λ (h : 1 ≤ occurs p r.slots). absurd (both_ways (r.stock p) e (l.stocked p h)))
    (cases_lt (occurs p r.slots) 1)

tidy : {X : Type 0} (r : Reservoir X) → Lawful r → Tidy r.slots r.stock
tidy r l p = tidy_by r l p (r.stock p) refl

in_stock_below : {X : Type 0} (r : Reservoir X) → Lawful r → (p : ℕ) → r.stock p ≡ true → p < 32768
in_stock_below r l p h =
    ⊎_elim
    (λ (low : p < 32768). low)
    (λ (high : 32768 ≤ p). absurd (both_ways (r.stock p) (l.below p high) h))
    (cases_lt p 32768)

-- ---- a store

pub store_tidy : {X : Type 0} (xs : List (Slot X)) (s : ℕ → Bool) (e : Effect) (x : Slot X) → Tidy xs s → s x.number ≡ false →
    Tidy (placed e xs x) (with s x.number)
store_tidy xs s e x t out p =
    let most = occurs_placed p e xs x in
    let before = t p in
    ⊎_elim
    (λ (is : p ≡ x.number).
    let a : bit (s p) ≡ 0 = ap (λ k. bit (s k)) is ∙ ap bit out in
    let b : bit (with s x.number p) ≡ 1 = ap bit (with_same s x.number p is) in
    let c = bit_most (eqb x.number p) in
    omega (arith, most, before, a, b, c))
    (λ (not-it : p ≢ x.number).
    let a : bit (with s x.number p) ≡ bit (s p) = ap bit (with_other s x.number p not-it) in
    let b : bit (eqb x.number p) ≡ 0 = ap bit (ne_eqb x.number p (λ is. not-it (sym is))) in
    omega (arith, most, before, a, b))
    (cases_eq p x.number)

store_fits : {X : Type 0} (r : Reservoir X) → Lawful r → (number : ℕ) → number < 32768 → r.stock number ≡ false → width r ≤ 32768
store_fits r l number low out =
    let more = count_with r.stock number 32768 low out in
    let most = count_bound (with r.stock number) 32768 in
    let n = l.counted in
    let left : r.size < 32768 = omega (arith, more, most, n) in
    width_fits (counts_of r) l.ranges left

store_ranges : {X : Type 0} (r : Reservoir X) → Lawful r → (number : ℕ) (item : X) (drawn : Drawn) → number < 32768 → r.stock number ≡ false →
    drawn.value < width r → drawn.used ≤ 64 → Ranges (counts_of (store r number item drawn.value drawn.used))
store_ranges r l number item drawn low out below few =
    subst Ranges (sym (store_follows r number item drawn))
    (store_keeps (counts_of r) drawn l.ranges (store_fits r l number low out) below few)

pub store_lawful : {X : Type 0} (r : Reservoir X) → Lawful r → (number : ℕ) (item : X) (draw used : ℕ) → number < 32768 → r.stock number ≡ false →
    draw < width r → used ≤ 64 → Lawful (store r number item draw used)
unfolding store
store_lawful r l number item draw used low out below few =
    let x : Slot _ = record { number = number; item = item } in
    let t : Tidy (placed (effect r draw) r.slots x) (with r.stock number) = store_tidy r.slots r.stock (effect r draw) x (tidy r l) out in
    record {
      ranges = store_ranges r l number item (record { value = draw; used = used }) low out below few;
      distinct = tidy_distinct _ _ t;
      stocked = tidy_stocked _ _ t;
      below = λ p high. with_other r.stock number p (λ is. omega arith) ∙ l.below p high;
      counted = let more = count_with r.stock number 32768 low out in let n = l.counted in omega (arith, more, n);
    }

-- ---- a take

pub take_tidy : {X : Type 0} (xs : List (Slot X)) (s : ℕ → Bool) (q : ℕ) {o : Option ℕ} → Found xs q o → Tidy xs s →
    Tidy (slots_after xs o) (without s q)
take_tidy xs s q {o} f t p =
    ⊎_elim
    (λ (is : p ≡ q).
    let none = occurs_taken q xs f (tidy_distinct xs s t q) in
    let a : occurs p (slots_after xs o) ≡ 0 = ap (λ k. occurs k (slots_after xs o)) is ∙ none in
    omega (arith, a))
    (λ (not-it : p ≢ q).
    let a : bit (without s q p) ≡ bit (s p) = ap bit (without_other s q p not-it) in
    let b = occurs_other p q xs f not-it in
    let c = t p in
    omega (arith, a, b, c))
    (cases_eq p q)

none_less : {X : Type 0} (r : Reservoir X) → Lawful r → (q : ℕ) → r.stock q ≡ true → occurs q r.slots ≡ 0 → length r.slots < r.size
none_less r l q inside none =
    let less : length r.slots < count_below r.stock 32768 =
    slots_less r.slots r.stock q 32768 (tidy r l) (λ p h. in_stock_below r l p (l.stocked p h)) (in_stock_below r l q inside) inside none in
    let n = l.counted in
    omega (arith, less, n)

take_fits : {X : Type 0} (r : Reservoir X) → Lawful r → (q : ℕ) → r.stock q ≡ true → {o : Option ℕ} → Found r.slots q o →
    CanCall (counts_of r) → CanTake (is_some o) (counts_of r)
take_fits r l q inside (there i h is) can = (can, omega arith)
take_fits r l q inside (nowhere none) can = (can, none_less r l q inside none)

take_ranges : {X : Type 0} (r : Reservoir X) → Lawful r → (q : ℕ) → r.stock q ≡ true → {o : Option ℕ} → Found r.slots q o →
    Ranges (after_take (is_some o) (counts_of r))
take_ranges r l q inside (there i h is) = take_in_keeps (counts_of r) l.ranges (omega arith)
take_ranges r l q inside (nowhere none) = take_out_keeps (counts_of r) l.ranges (none_less r l q inside none)

pub take_lawful : {X : Type 0} (r : Reservoir X) → Lawful r → (number : ℕ) → r.stock number ≡ true → Lawful (taken r number)
unfolding taken
take_lawful r l number inside =
    let f = search_found r.slots number in
    let t : Tidy (slots_after r.slots (slot_of r.slots number)) (without r.stock number) = take_tidy r.slots r.stock number f (tidy r l) in
    record {
      ranges = subst Ranges (sym (take_follows r number)) (take_ranges r l number inside f);
      distinct = tidy_distinct _ _ t;
      stocked = tidy_stocked _ _ t;
      below = λ p high. without_other r.stock number p (λ is. let low = in_stock_below r l number inside in omega (arith, low)) ∙ l.below p high;
      counted = let less = count_without r.stock number 32768 (in_stock_below r l number inside) inside in let n = l.counted in omega (arith, less, n);
    }

pub empty_lawful : {X : Type 0} (m : ℕ) → 1 ≤ m → m ≤ 512 → Lawful {X = X} (empty m)
empty_lawful m low high = record {
  ranges = empty_keeps m low high;
  distinct = λ p. omega arith;
  stocked = λ p h. absurd (omega arith);
  below = λ p h. refl;
  counted = sym (count_none 32768);
}

pub lawful : {X : Type 0} (r : Reservoir X) → Reachable r → Lawful r
lawful r (starts m low high) = empty_lawful m low high
lawful r (stores s h number item draw used low out below few) = store_lawful s (lawful s h) number item draw used low out below few
lawful r (takes s h number inside) = take_lawful s (lawful s h) number inside

pub possible : (X : Type 0) → CallsPossible X
possible X = record {
  store_possible = λ r l number drawn can low out below few. (can, store_fits r l number low out, below, few);
  take_possible = λ r l number can inside. take_fits r l number inside (search_found r.slots number) can;
}
