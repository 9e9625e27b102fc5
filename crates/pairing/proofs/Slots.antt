-- How many slots there are, and in how many a number stands, after each change of the sample.
-- Assumes nothing.
use Rattle.std.proofs.Common.{◌≡◌, ℕ, zero, suc, ◌+◌, ◌-◌, ◌<◌, ◌≤◌, Bool, true, false, cond, eqb, ◌≢◌, List, [], ◌∷◌, ◌++◌, length, get_or, take, set, Some, None, Option, sym, refl, ap, subst, ⊎_elim, one-add, arith, length-append, length-set, length-take-le, get_or-set_other, get_or-set_same}
use lib.Seq.{set_out}
use Rattle.std.specs.Option.{option_map}
use Rattle.std.proofs.lemmas.Bool.{eqb-true, eq-eqb, ne_eqb, cases_eq, cases_lt}
use Rattle.pairing.specs.declared.Effect.{Effect}
use Rattle.pairing.specs.declared.Effect.TheVariants.{Enters, Replaces, StaysOut}
use Rattle.pairing.specs.Reservoir.{Slot, placed, slot_of, slots_after, freed}
use Rattle.pairing.specs.Steps.{sampled_after}
use Rattle.pairing.specs.Rules.{bit, occurs}

-- ---- how many slots there are

pub length_placed : {X : Type 0} (e : Effect) (xs : List (Slot X)) (x : Slot X) → length (placed e xs x) ≡ sampled_after (length xs) e
length_placed Enters xs x = length-append xs (x ∷ [])
length_placed (Replaces i) xs x = length-set xs i x
length_placed StaysOut xs x = refl

pub length_freed : {X : Type 0} (xs : List (Slot X)) (i : ℕ) → length (freed xs i) ≡ length xs - 1
length_freed [] i = omega arith
length_freed (x ∷ xs) i =
    let l = get_or (x ∷ xs) (length xs) x in
    let s : length (set (x ∷ xs) i l) ≡ suc (length xs) = length-set (x ∷ xs) i l in
    let t : length (take (length xs) (set (x ∷ xs) i l)) ≡ length xs = length-take-le (length xs) (set (x ∷ xs) i l) (omega arith) in
    omega (arith, t)

-- ---- in how many slots a number stands

pub occurs_push : {X : Type 0} (p : ℕ) (xs : List (Slot X)) (x : Slot X) → occurs p (xs ++ x ∷ []) ≡ occurs p xs + bit (eqb x.number p)
occurs_push p [] x = omega arith
occurs_push p (y ∷ ys) x = let h = occurs_push p ys x in omega (arith, h)

pub occurs_set : {X : Type 0} (p : ℕ) (xs : List (Slot X)) (i : ℕ) (x d : Slot X) → i < length xs →
    occurs p (set xs i x) + bit (eqb (get_or xs i d).number p) ≡ occurs p xs + bit (eqb x.number p)
occurs_set p [] i x d h = absurd (omega arith)
occurs_set p (y ∷ ys) zero x d h = omega arith
occurs_set p (y ∷ ys) (suc i) x d h = let e = occurs_set p ys i x d (omega arith) in omega (arith, e)

occurs_last : {X : Type 0} (p : ℕ) (xs : List (Slot X)) (n : ℕ) (d : Slot X) → length xs ≡ suc n →
    occurs p (take n xs) + bit (eqb (get_or xs n d).number p) ≡ occurs p xs
occurs_last p [] n d h = absurd (omega arith)
occurs_last p (y ∷ []) zero d h = omega arith
occurs_last p (y ∷ z ∷ zs) zero d h = absurd (omega arith)
occurs_last p (y ∷ ys) (suc n) d h = let e = occurs_last p ys n d (omega arith) in omega (arith, e)

last_is : {X : Type 0} (xs : List (Slot X)) (i n : ℕ) (d : Slot X) → n < length xs → get_or (set xs i (get_or xs n d)) n d ≡ get_or xs n d
last_is xs i n d h =
    ⊎_elim
    (λ (e : n ≡ i). subst (λ k. get_or (set xs k (get_or xs n d)) n d ≡ get_or xs n d) e (get_or-set_same xs n (get_or xs n d) d h))
    (λ (e : n ≢ i). get_or-set_other xs i n (get_or xs n d) d e)
    (cases_eq n i)

pub occurs_freed : {X : Type 0} (p q : ℕ) (xs : List (Slot X)) (i : ℕ) → i < length xs → ((d : Slot X) → (get_or xs i d).number ≡ q) →
    occurs p (freed xs i) + bit (eqb q p) ≡ occurs p xs
occurs_freed p q [] i h is = absurd (omega arith)
occurs_freed p q (x ∷ xs) i h is =
    let l = get_or (x ∷ xs) (length xs) x in
    let zs = set (x ∷ xs) i l in
    let a : occurs p zs + bit (eqb (get_or (x ∷ xs) i x).number p) ≡ occurs p (x ∷ xs) + bit (eqb l.number p) = occurs_set p (x ∷ xs) i l x h in
    let b : occurs p (take (length xs) zs) + bit (eqb (get_or zs (length xs) x).number p) ≡ occurs p zs =
    occurs_last p zs (length xs) x (length-set (x ∷ xs) i l) in
    let c : bit (eqb (get_or zs (length xs) x).number p) ≡ bit (eqb l.number p) =
    ap (λ (s : Slot _). bit (eqb s.number p)) (last_is (x ∷ xs) i (length xs) x (omega arith)) in
    let e : bit (eqb (get_or (x ∷ xs) i x).number p) ≡ bit (eqb q p) = ap (λ n. bit (eqb n p)) (is x) in
    omega (arith, a, b, c, e)

-- ---- what the search for a number finds

pub data Found {X : Type 0} (xs : List (Slot X)) (p : ℕ) : Option ℕ → Type 0 where
  there : (i : ℕ) → i < length xs → ((d : Slot X) → (get_or xs i d).number ≡ p) → Found xs p (Some i)
  nowhere : occurs p xs ≡ 0 → Found xs p None

found_by : {X : Type 0} (x : Slot X) (xs : List (Slot X)) (p : ℕ) (b : Bool) → eqb x.number p ≡ b → {o : Option ℕ} → Found xs p o →
    Found (x ∷ xs) p (cond b (Some 0) (option_map (λ i. 1 + i) o))
found_by x xs p true e f = there 0 (omega arith) (λ d. eqb-true _ _ e)
found_by x xs p false e (there i h is) =
    there (1 + i) (omega arith) (λ d. subst (λ k. (get_or (x ∷ xs) k d).number ≡ p) (sym (one-add i)) (is d))
found_by x xs p false e (nowhere h) = nowhere (let z : bit (eqb x.number p) ≡ 0 = ap bit e in omega (arith, z, h))

pub search_found : {X : Type 0} (xs : List (Slot X)) (p : ℕ) → Found xs p (slot_of xs p)
search_found [] p = nowhere refl
search_found (x ∷ xs) p = found_by x xs p (eqb x.number p) refl (search_found xs p)

-- ---- after a store and after a take

pub occurs_placed : {X : Type 0} (p : ℕ) (e : Effect) (xs : List (Slot X)) (x : Slot X) →
    occurs p (placed e xs x) ≤ occurs p xs + bit (eqb x.number p)
occurs_placed p Enters xs x = let h = occurs_push p xs x in omega (arith, h)
occurs_placed p (Replaces i) xs x =
    ⊎_elim
    (λ (h : i < length xs). let e = occurs_set p xs i x x h in omega (arith, e))
    (λ (h : length xs ≤ i). let e : occurs p (set xs i x) ≡ occurs p xs = ap (occurs p) (set_out xs i x h) in omega (arith, e))
    (cases_lt i (length xs))
occurs_placed p StaysOut xs x = omega arith

-- the number that is taken is in no slot, and any other is in as many slots as before
pub occurs_taken : {X : Type 0} (q : ℕ) (xs : List (Slot X)) {o : Option ℕ} → Found xs q o → occurs q xs ≤ 1 → occurs q (slots_after xs o) ≡ 0
occurs_taken q xs (there i h is) most =
    let e : occurs q (freed xs i) + bit (eqb q q) ≡ occurs q xs = occurs_freed q q xs i h is in
    let a : bit (eqb q q) ≡ 1 = ap bit (eq-eqb q q refl) in
    omega (arith, e, a)
occurs_taken q xs (nowhere none) most = none

pub occurs_other : {X : Type 0} (p q : ℕ) (xs : List (Slot X)) {o : Option ℕ} → Found xs q o → p ≢ q → occurs p (slots_after xs o) ≡ occurs p xs
occurs_other p q xs (there i h is) not-it =
    let e : occurs p (freed xs i) + bit (eqb q p) ≡ occurs p xs = occurs_freed p q xs i h is in
    let a : bit (eqb q p) ≡ 0 = ap bit (ne_eqb q p (λ same. not-it (sym same))) in
    omega (arith, e, a)
occurs_other p q xs (nowhere none) not-it = refl
