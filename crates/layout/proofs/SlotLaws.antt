-- The slots in their blocks: what was laid out is read, and what reads was so laid out.
-- Assumes nothing.
use Rattle.std.proofs.Common.{◌≡◌, ℕ, zero, suc, ◌+◌, ◌-◌, ◌*◌, ◌/◌, ◌%◌, ◌<◌, ◌≤◌, Bool, true, false, not, eqb, ltb, List, [], ◌∷◌, ◌++◌, length, take, drop, is_some, Some, None, Option, sym, refl, ap, ◌∙◌, subst, ⊎_elim, zero-add, arith, length-drop, length-take}
use lib.ListN.{length-replicate}
use Rattle.std.proofs.lemmas.Bool.{and_parts, and_from, eqb-true, eq-eqb, lt-ltb, le-ltb, ltb-true, cond-true, cond-false, or_parts, or_from, not-true, not_from_false, cases_lt, cases_Bool, not_from_true, ne_eqb, both_ways}
use Rattle.fault.specs.declared.Damage.TheVariants as damage
use Rattle.octets.specs.Numbers.{little, number_at}
use Rattle.octets.specs.Zeros.{every, blank, zeros}
use Rattle.octets.proofs.Numbers.{little_bytes, bytes_there, zeros_there, cut}
use Rattle.octets.proofs.Under.{under_append, under_zeros, Under256, under_take, under_drop}
use Rattle.octets.proofs.Zeros.{zeros_blank, blank_zeros}
use Rattle.layout.proofs.Blocks.{block_length, block_under, block_from}
use Rattle.pairing.specs.Reservoir.{Slot}
use Rattle.pairing.specs.Rules.{bit, occurs}
use Rattle.layout.specs.Layout.{slot_bytes, slot_at, slot_block}
use Rattle.layout.specs.Reading.{unless, first_of, is_block, blank_at, bytes_of, block_fault, in_set, stock_in, slot_in, number_in, form_in, earlier, left_at, used_fault, unused_fault, slot_fault, slots_fault, with_item, slots_in}
use Rattle.layout.proofs.Faults.{or_else_parts, or_else_none, unless_passes, unless_none, first_of_each, first_of_none, block_read}
use Rattle.layout.proofs.Joining.{length_joined, joined_under, joined_at, joined_is}
use Rattle.device.specs.Disk.{Entry}

-- ---- how often a number was met

abbrev times : (ℕ → ℕ) → ℕ → ℕ → ℕ
times numbers zero p = 0
times numbers (suc i) p = bit (eqb (numbers i) p) + times numbers i p

earlier_none : (numbers : ℕ → ℕ) (i p : ℕ) → times numbers i p ≡ 0 → earlier numbers i p ≡ false
earlier_none numbers zero p h = refl
earlier_none numbers (suc i) p h =
    or_from _ _ (⊎_elim (λ t. let one : bit (eqb (numbers i) p) ≡ 1 = ap bit t in absurd (omega arith)) (λ f. f) (cases_Bool (eqb (numbers i) p)))
    (earlier_none numbers i p (omega arith))

none_earlier : (numbers : ℕ → ℕ) (i p : ℕ) → earlier numbers i p ≡ false → times numbers i p ≡ 0
none_earlier numbers zero p h = refl
none_earlier numbers (suc i) p h =
    let q = or_parts (eqb (numbers i) p) (earlier numbers i p) h in
    let here : bit (eqb (numbers i) p) ≡ 0 = ap bit q.0 in
    let before = none_earlier numbers i p q.1 in
    omega arith

times_more : (numbers : ℕ → ℕ) (p i n : ℕ) → i ≤ n → times numbers i p ≤ times numbers n p
times_more numbers p i zero h = let same : times numbers i p ≡ 0 = ap (λ k. times numbers k p) {y = 0} (omega arith) in omega arith
times_more numbers p i (suc n) h =
    ⊎_elim
    (λ l. let before : times numbers i p ≤ times numbers n p = times_more numbers p i n (omega arith) in omega arith)
    (λ l. let same : times numbers i p ≡ times numbers (suc n) p = ap (λ k. times numbers k p) {y = suc n} (omega arith) in omega arith)
    (cases_lt i (suc n))

times_first : (numbers : ℕ → ℕ) (n p : ℕ) → times numbers (suc n) p ≡ bit (eqb (numbers 0) p) + times (λ j. numbers (suc j)) n p
times_first numbers zero p = refl
times_first numbers (suc n) p = let e = times_first numbers n p in omega (arith, e)

-- in a list of numbers each of which is new none stands twice
times_once : (numbers : ℕ → ℕ) (n p : ℕ) → ((i : ℕ) → i < n → earlier numbers i (numbers i) ≡ false) → times numbers n p ≤ 1
times_once numbers zero p h = omega arith
times_once numbers (suc n) p h =
    let before = times_once numbers n p (λ i l. h i (omega arith)) in
    ⊎_elim
    (λ t.
    let is : numbers n ≡ p = eqb-true (numbers n) p t in
    let one : bit (eqb (numbers n) p) ≡ 1 = ap bit t in
    let none : times numbers n p ≡ 0 = none_earlier numbers n p (ap (earlier numbers n) (sym is) ∙ h n (omega arith)) in
    omega (arith, one, none))
    (λ f. let none : bit (eqb (numbers n) p) ≡ 0 = ap bit f in omega (arith, before, none))
    (cases_Bool (eqb (numbers n) p))

-- what holds of each number holds of one that was met
times_has : (P : ℕ → Type 0) (numbers : ℕ → ℕ) (n p : ℕ) → ((i : ℕ) → i < n → P (numbers i)) → 1 ≤ times numbers n p → P p
times_has P numbers zero p h k = absurd (omega arith)
times_has P numbers (suc n) p h k =
    ⊎_elim
    (λ t. subst P (eqb-true (numbers n) p t) (h n (omega arith)))
    (λ f. let none : bit (eqb (numbers n) p) ≡ 0 = ap bit f in times_has P numbers n p (λ i l. h i (omega arith)) (omega (arith, none)))
    (cases_Bool (eqb (numbers n) p))

-- the number of slot i
abbrev pub number_of : {X : Type 0} → List (Slot X) → ℕ → ℕ
number_of [] i = 0
number_of (x ∷ xs) zero = x.number
number_of (x ∷ xs) (suc i) = number_of xs i

times_occurs : {X : Type 0} (slots : List (Slot X)) (numbers : ℕ → ℕ) (p : ℕ) → ((j : ℕ) → j < length slots → numbers j ≡ number_of slots j) →
    times numbers (length slots) p ≡ occurs p slots
times_occurs [] numbers p h = refl
times_occurs (x ∷ xs) numbers p h =
    let first : bit (eqb (numbers 0) p) ≡ bit (eqb x.number p) = ap (λ n. bit (eqb n p)) (h 0 (omega arith)) in
    let rest = times_occurs xs (λ j. numbers (suc j)) p (λ j l. h (suc j) (omega arith)) in
    times_first numbers (length xs) p ∙ (λ i. first i + rest i)

-- ---- one slot

-- what a slot in use has
pub record Used {X : Type 0} (reading : List ℕ → Option X) (set : ℕ → Bool) (xs : List ℕ) : Type 0 where
  pub blanks : blank_at xs 2 2 ≡ true
  pub small : number_at xs 0 2 < 32768
  pub member : set (number_at xs 0 2) ≡ true
  pub some : is_some (reading (drop 4 xs)) ≡ true

pub used_parts : {X : Type 0} (reading : List ℕ → Option X) (set : ℕ → Bool) (b : ℕ) (xs : List ℕ) → used_fault reading set b xs ≡ None → Used reading set xs
unfolding used_fault
used_parts reading set b xs h =
    let p = or_else_parts (unless (blank_at xs 2 2) b damage.Mark) _ h in
    let q = or_else_parts (unless (ltb (number_at xs 0 2) 32768) b damage.Range) _ p.1 in
    let r = or_else_parts (unless (set (number_at xs 0 2)) b damage.Disagreement) (unless (is_some (reading (drop 4 xs))) b damage.Range) q.1 in
    record {
      blanks = unless_passes (blank_at xs 2 2) b damage.Mark p.0;
      small = ltb-true _ 32768 (unless_passes (ltb (number_at xs 0 2) 32768) b damage.Range q.0);
      member = unless_passes (set (number_at xs 0 2)) b damage.Disagreement r.0;
      some = unless_passes (is_some (reading (drop 4 xs))) b damage.Range r.1;
    }

pub used_none : {X : Type 0} (reading : List ℕ → Option X) (set : ℕ → Bool) (b : ℕ) (xs : List ℕ) → Used reading set xs → used_fault reading set b xs ≡ None
unfolding used_fault
used_none reading set b xs u =
    or_else_none _ _ (unless_none (blank_at xs 2 2) b damage.Mark u.blanks)
    (or_else_none _ _ (unless_none (ltb (number_at xs 0 2) 32768) b damage.Range (lt-ltb _ 32768 u.small))
    (or_else_none _ _ (unless_none (set (number_at xs 0 2)) b damage.Disagreement u.member)
    (unless_none (is_some (reading (drop 4 xs))) b damage.Range u.some)))

pub unused_none : (b : ℕ) (xs : List ℕ) → every blank xs ≡ true → unused_fault b xs ≡ None
unfolding unused_fault
unused_none b xs h = unless_none (every blank xs) b damage.Mark h

pub unused_blank : (b : ℕ) (xs : List ℕ) → unused_fault b xs ≡ None → every blank xs ≡ true
unfolding unused_fault
unused_blank b xs h = unless_passes (every blank xs) b damage.Mark h

-- a block of slots: it reads, and so do its eight
slots_none : {X : Type 0} (reading : List ℕ → Option X) (blocks : ℕ → Entry) (k j : ℕ) → block_fault blocks (14 + j) ≡ None →
    ((i : ℕ) → i < 8 → slot_fault reading blocks k (14 + j) (8 * j + i) ≡ None) → slots_fault reading blocks k j ≡ None
unfolding slots_fault
slots_none reading blocks k j h each = or_else_none _ _ h (first_of_none (slot_fault reading blocks k (14 + j)) (8 * j) 8 each)

slots_parts : {X : Type 0} (reading : List ℕ → Option X) (blocks : ℕ → Entry) (k j : ℕ) → slots_fault reading blocks k j ≡ None →
    (block_fault blocks (14 + j) ≡ None) × ((i : ℕ) → i < 8 → slot_fault reading blocks k (14 + j) (8 * j + i) ≡ None)
unfolding slots_fault
slots_parts reading blocks k j h =
    let p = or_else_parts (block_fault blocks (14 + j)) (first_of (slot_fault reading blocks k (14 + j)) (8 * j) 8) h in
    (p.0, first_of_each (slot_fault reading blocks k (14 + j)) (8 * j) 8 p.1)

-- the bytes of a slot, read
number_read : {X : Type 0} (form : X → List ℕ) (x : Slot X) → x.number < 32768 → number_at (slot_bytes form x) 0 2 ≡ x.number
number_read form x h = omega arith

used_bytes : {X : Type 0} (form : X → List ℕ) (reading : List ℕ → Option X) (set : ℕ → Bool) (x : Slot X) → reading (form x.item) ≡ Some x.item →
    x.number < 32768 → set x.number ≡ true → Used reading set (slot_bytes form x)
used_bytes form reading set x round h k =
    let n = number_read form x h in
    record {
      blanks = refl;
      small = omega (arith, n);
      member = ap set n ∙ k;
      some = ap is_some round;
    }

-- bytes that read as a slot are exactly its
used_exact : {X : Type 0} (form : X → List ℕ) (xs : List ℕ) (x : X) → length xs ≡ 64 → Under256 xs → blank_at xs 2 2 ≡ true → drop 4 xs ≡ form x →
    xs ≡ slot_bytes form (record { number = number_at xs 0 2; item = x })
used_exact form xs x long under z e =
    cut xs (little 2 (number_at xs 0 2)) _ 0 2 2 refl (bytes_there xs 0 2 (omega arith) under)
    (cut xs (zeros 2) _ 2 2 4 refl (zeros_there xs 2 2 (omega arith) z) e)

-- ---- the slots of a list

module _ {X : Type 0} (form : X → List ℕ) (sized : (x : X) → length (form x) ≡ 60) where
  pub length_slot : (x : Slot X) → length (slot_bytes form x) ≡ 64
  length_slot x = omega (arith, sized x.item)

  pub length_slot_at : (slots : List (Slot X)) (i : ℕ) → length (slot_at form slots i) ≡ 64
  length_slot_at [] i = length-replicate {A = ℕ} 64 0
  length_slot_at (x ∷ xs) zero = length_slot x
  length_slot_at (x ∷ xs) (suc i) = length_slot_at xs i

  pub length_slot_block : (slots : List (Slot X)) (j : ℕ) → length (slot_block form slots j) ≡ 512
  unfolding slot_block
  length_slot_block slots j = length_joined (slot_at form slots) 64 (8 * j) 8 (λ i _ _. length_slot_at slots i)

  -- slot i stands in block i / 8, at place i mod 8
  pub slot_in_block : (blocks : ℕ → Entry) (slots : List (Slot X)) (i : ℕ) → blocks (14 + i / 8) ≡ Some (slot_block form slots (i / 8)) →
      slot_in blocks i ≡ slot_at form slots i
  unfolding slot_in slot_block
  slot_in_block blocks slots i e =
      let place : i % 8 < 8 = omega arith in
      ap (λ e. take 64 (drop (64 * (i % 8)) (bytes_of e))) e
      ∙ joined_at 64 (slot_at form slots) (length_slot_at slots) (8 * (i / 8)) 8 (i % 8) place
      ∙ ap (slot_at form slots) (omega arith)

-- after the last slot there are zeros
pub slot_at_past : {X : Type 0} (form : X → List ℕ) (slots : List (Slot X)) (i : ℕ) → length slots ≤ i → slot_at form slots i ≡ zeros 64
slot_at_past form [] i h = refl
slot_at_past form (x ∷ xs) zero h = absurd (omega arith)
slot_at_past form (x ∷ xs) (suc i) h = slot_at_past form xs i (omega arith)

module _ {X : Type 0} (form : X → List ℕ) (bounded : (x : X) → Under256 (form x)) where
  bounded_slot : (x : Slot X) → Under256 (slot_bytes form x)
  bounded_slot x = under_append (little 2 x.number) (zeros 2 ++ form x.item) (little_bytes 2 x.number) (bounded x.item)

  bounded_slot_at : (slots : List (Slot X)) (i : ℕ) → Under256 (slot_at form slots i)
  bounded_slot_at [] i = under_zeros 64
  bounded_slot_at (x ∷ xs) zero = bounded_slot x
  bounded_slot_at (x ∷ xs) (suc i) = bounded_slot_at xs i

  pub slot_block_is_block : ((x : X) → length (form x) ≡ 60) → (slots : List (Slot X)) (j : ℕ) → is_block (slot_block form slots j) ≡ true
  unfolding slot_block
  slot_block_is_block sized slots j =
      block_from (slot_block form slots j) (length_slot_block form sized slots j)
      (joined_under (slot_at form slots) (8 * j) 8 (λ i _ _. bounded_slot_at slots i))

-- ---- a list that is laid out, read

number_at_lem : {X : Type 0} (form : X → List ℕ) (slots : List (Slot X)) (j : ℕ) → j < length slots → number_of slots j < 32768 →
    number_at (slot_at form slots j) 0 2 ≡ number_of slots j
number_at_lem form [] j l h = absurd (omega arith)
number_at_lem form (x ∷ xs) zero l h = number_read form x h
number_at_lem form (x ∷ xs) (suc j) l h = number_at_lem form xs j (omega arith) h

-- what Lawful says of the numbers, of each slot
pub numbers_have : {X : Type 0} (P : ℕ → Type 0) (slots : List (Slot X)) → ((p : ℕ) → 1 ≤ occurs p slots → P p) → (j : ℕ) → j < length slots → P (number_of slots j)
numbers_have P [] h j l = absurd (omega arith)
numbers_have P (x ∷ xs) h zero l =
    let one : bit (eqb x.number x.number) ≡ 1 = ap bit (eq-eqb x.number x.number refl) in
    h x.number (omega (arith, one))
numbers_have P (x ∷ xs) h (suc j) l = numbers_have P xs (λ p k. h p (omega arith)) j (omega arith)

module _ {X : Type 0} (form : X → List ℕ) (reading : List ℕ → Option X) (round : (x : X) → reading (form x) ≡ Some x) where
  used_at : (slots : List (Slot X)) (set : ℕ → Bool) (j : ℕ) → j < length slots → number_of slots j < 32768 → set (number_of slots j) ≡ true →
      Used reading set (slot_at form slots j)
  used_at [] set j l h k = absurd (omega arith)
  used_at (x ∷ xs) set zero l h k = used_bytes form reading set x (round x.item) h k
  used_at (x ∷ xs) set (suc j) l h k = used_at xs set j (omega arith) h k

  pub slots_read : (blocks : ℕ → Entry) (slots : List (Slot X)) (i : ℕ) → ((j : ℕ) → j < length slots → slot_in blocks (i + j) ≡ slot_at form slots j) →
      ((j : ℕ) → j < length slots → number_of slots j < 32768) → slots_in reading blocks i (length slots) ≡ slots
  slots_read blocks [] i laid small = refl
  slots_read blocks (x ∷ xs) i laid small =
      let here : slot_in blocks i ≡ slot_bytes form x = ap (slot_in blocks) {y = i + 0} (omega arith) ∙ laid 0 (omega arith) in
      let number : number_in blocks i ≡ x.number = ap (λ s. number_at s 0 2) here ∙ number_read form x (small 0 (omega arith)) in
      let item : reading (form_in blocks i) ≡ Some x.item = ap (λ s. reading (drop 4 s)) here ∙ round x.item in
      let rest : slots_in reading blocks (i + 1) (length xs) ≡ xs =
      slots_read blocks xs (i + 1) (λ j l. ap (slot_in blocks) {y = i + suc j} (omega arith) ∙ laid (suc j) (omega arith)) (λ j l. small (suc j) (omega arith)) in
      λ t. with_item (number t) (item t) (rest t)

  -- slots that keep the rules have no fault
  module _ (blocks : ℕ → Entry) (slots : List (Slot X)) (laid : (i : ℕ) → i < 512 → slot_in blocks i ≡ slot_at form slots i)
      (few : length slots ≤ 512) (small : (j : ℕ) → j < length slots → number_of slots j < 32768)
      (stocked : (j : ℕ) → j < length slots → in_set (stock_in blocks) (number_of slots j) ≡ true)
      (distinct : (p : ℕ) → occurs p slots ≤ 1) where
    numbers_in : (j : ℕ) → j < length slots → number_in blocks j ≡ number_of slots j
    numbers_in j l = ap (λ s. number_at s 0 2) (laid j (omega arith)) ∙ number_at_lem form slots j l (small j l)

    new : (j : ℕ) → j < length slots → earlier (number_in blocks) j (number_of slots j) ≡ false
    new j l =
        let p = number_of slots j in
        let here : bit (eqb (number_in blocks j) p) ≡ 1 = ap bit (eq-eqb (number_in blocks j) p (numbers_in j l)) in
        let all : times (number_in blocks) (length slots) p ≡ occurs p slots = times_occurs slots (number_in blocks) p numbers_in in
        let more : times (number_in blocks) (suc j) p ≤ times (number_in blocks) (length slots) p = times_more (number_in blocks) p (suc j) (length slots) (omega arith) in
        let once : occurs p slots ≤ 1 = distinct p in
        earlier_none (number_in blocks) j p (omega (arith, here, all, more, once))

    left : (j : ℕ) → j < length slots → left_at blocks j (number_of slots j) ≡ true
    left j l = and_from _ _ (stocked j l) (not_from_false _ (new j l))

    slot_fault_none : (b i : ℕ) → i < 512 → slot_fault reading blocks (length slots) b i ≡ None
    slot_fault_none b i h =
        ⊎_elim
        (λ l.
        cond-true (ltb i (length slots)) _ _ (lt-ltb i (length slots) l)
        ∙ used_none reading (left_at blocks i) b (slot_in blocks i)
        (subst (Used reading (left_at blocks i)) (sym (laid i h)) (used_at slots (left_at blocks i) i l (small i l) (left i l))))
        (λ l.
        cond-false (ltb i (length slots)) _ _ (le-ltb i (length slots) l)
        ∙ unused_none b (slot_in blocks i) (ap (every blank) (laid i h ∙ slot_at_past form slots i l) ∙ zeros_blank 64))
        (cases_lt i (length slots))

    pub slots_fault_none : ((j : ℕ) → j < 64 → block_fault blocks (14 + j) ≡ None) → first_of (slots_fault reading blocks (length slots)) 0 64 ≡ None
    slots_fault_none read =
        first_of_none (slots_fault reading blocks (length slots)) 0 64 (λ j h.
        ap (slots_fault reading blocks (length slots)) (zero-add j)
        ∙ slots_none reading blocks (length slots) j (read j h) (λ i l. slot_fault_none (14 + j) (8 * j + i) (omega arith)))

-- ---- what reads was so laid out

some_is : {X : Type 0} (o : Option X) → is_some o ≡ true → (x : X) × (o ≡ Some x)
some_is (Some x) h = (x, refl)
some_is None h = cc

-- the bytes of a slot in a block
slot_in_bytes : (blocks : ℕ → Entry) (i : ℕ) → is_block (bytes_of (blocks (14 + i / 8))) ≡ true → (length (slot_in blocks i) ≡ 64) × (Under256 (slot_in blocks i))
unfolding slot_in
slot_in_bytes blocks i h =
    let xs = bytes_of (blocks (14 + i / 8)) in
    let long : length xs ≡ 512 = block_length xs h in
    let d : length (drop (64 * (i % 8)) xs) ≡ length xs - 64 * (i % 8) = length-drop (64 * (i % 8)) xs in
    let place : i % 8 < 8 = omega arith in (
      length-take 64 (drop (64 * (i % 8)) xs) ∙ omega (arith, d, long, place),
      under_take 64 (drop (64 * (i % 8)) xs) (under_drop (64 * (i % 8)) xs (block_under xs h)),
    )

-- n slots from the i-th on, as they were read
record SlotsAreRead {X : Type 0} (form : X → List ℕ) (blocks : ℕ → Entry) (i n : ℕ) (slots : List (Slot X)) : Type 0 where
  count : length slots ≡ n
  laid : (j : ℕ) → j < n → slot_at form slots j ≡ slot_in blocks (i + j)
  numbers : (j : ℕ) → j < n → number_in blocks (i + j) ≡ number_of slots j

module _ {X : Type 0} (form : X → List ℕ) (reading : List ℕ → Option X) (exact : (s : List ℕ) (x : X) → reading s ≡ Some x → s ≡ form x)
    (blocks : ℕ → Entry) where
  one_more : (i n : ℕ) (x : X) (rest : List (Slot X)) → slot_in blocks i ≡ slot_bytes form (record { number = number_in blocks i; item = x }) →
      SlotsAreRead form blocks (i + 1) n rest → SlotsAreRead form blocks i (suc n) (record { number = number_in blocks i; item = x } ∷ rest)
  one_more i n x rest here r = record { count = ap suc r.count; laid = laid; numbers = numbers }
    where
      laid : (j : ℕ) → j < suc n → slot_at form (record { number = number_in blocks i; item = x } ∷ rest) j ≡ slot_in blocks (i + j)
      laid zero l = sym here ∙ ap (slot_in blocks) (omega arith)
      laid (suc j) l = r.laid j (omega arith) ∙ ap (slot_in blocks) (omega arith)

      numbers : (j : ℕ) → j < suc n → number_in blocks (i + j) ≡ number_of {X = X} (record { number = number_in blocks i; item = x } ∷ rest) j
      numbers zero l = ap (number_in blocks) {y = i} (omega arith)
      numbers (suc j) l = ap (number_in blocks) {y = i + 1 + j} (omega arith) ∙ r.numbers j (omega arith)

  -- what slot i needs to be read
  record Ready (i : ℕ) : Type 0 where
    long : length (slot_in blocks i) ≡ 64
    bytes : Under256 (slot_in blocks i)
    used : Used reading (left_at blocks i) (slot_in blocks i)

  all_read : (i n : ℕ) → ((j : ℕ) → j < n → Ready (i + j)) → SlotsAreRead form blocks i n (slots_in reading blocks i n)
  all_read i zero h = record { count = refl; laid = λ j l. absurd (omega arith); numbers = λ j l. absurd (omega arith) }
  all_read i (suc n) h =
      let here : Ready i = subst Ready {x = i + 0} (omega arith) (h 0 (omega arith)) in
      let some = some_is (reading (form_in blocks i)) here.used.some in
      let x = some.0 in
      let rest = slots_in reading blocks (i + 1) n in
      let is : slots_in reading blocks i (suc n) ≡ record { number = number_in blocks i; item = x } ∷ rest = ap (λ o. with_item (number_in blocks i) o rest) some.1 in
      subst (SlotsAreRead form blocks i (suc n)) (sym is)
      (one_more i n x rest
      (used_exact form (slot_in blocks i) x here.long here.bytes here.used.blanks (exact (form_in blocks i) x some.1))
      (all_read (i + 1) n (λ j l. subst Ready {x = i + suc j} (omega arith) (h (suc j) (omega arith)))))

-- blocks of slots without a fault: the slots, and that the blocks hold them
pub record SlotsExact {X : Type 0} (form : X → List ℕ) (blocks : ℕ → Entry) (k : ℕ) (slots : List (Slot X)) : Type 0 where
  pub count : length slots ≡ k
  pub laid : (j : ℕ) → j < 64 → blocks (14 + j) ≡ Some (slot_block form slots j)
  pub distinct : (p : ℕ) → occurs p slots ≤ 1
  pub stocked : (p : ℕ) → 1 ≤ occurs p slots → in_set (stock_in blocks) p ≡ true
  -- the number of each slot, and which numbers no slot has
  pub numbers : (j : ℕ) → j < length slots → number_in blocks j ≡ number_of slots j
  pub left : (p : ℕ) → not (earlier (number_in blocks) k p) ≡ eqb (occurs p slots) 0

module _ {X : Type 0} (form : X → List ℕ) (reading : List ℕ → Option X) (sized : (x : X) → length (form x) ≡ 60)
    (exact : (s : List ℕ) (x : X) → reading s ≡ Some x → s ≡ form x)
    (blocks : ℕ → Entry) (k : ℕ) (few : k ≤ 512) (none : first_of (slots_fault reading blocks k) 0 64 ≡ None) where
  block_none : (j : ℕ) → j < 64 → (block_fault blocks (14 + j) ≡ None) × ((i : ℕ) → i < 8 → slot_fault reading blocks k (14 + j) (8 * j + i) ≡ None)
  block_none j h =
      slots_parts reading blocks k j
      (ap (slots_fault reading blocks k) (sym (zero-add j)) ∙ first_of_each (slots_fault reading blocks k) 0 64 none j h)

  slot_none : (i : ℕ) → i < 512 → slot_fault reading blocks k (14 + i / 8) i ≡ None
  slot_none i h =
      let place : i % 8 < 8 = omega arith in
      let block : i / 8 < 64 = omega arith in
      ap (slot_fault reading blocks k (14 + i / 8)) {y = 8 * (i / 8) + i % 8} (omega arith) ∙ (block_none (i / 8) block).1 (i % 8) place

  slot_bytes_lem : (i : ℕ) → i < 512 → (length (slot_in blocks i) ≡ 64) × (Under256 (slot_in blocks i))
  slot_bytes_lem i h =
      let block : i / 8 < 64 = omega arith in
      slot_in_bytes blocks i (block_read blocks (14 + i / 8) (block_none (i / 8) block).0).1

  ready : (i : ℕ) → i < k → Ready form reading exact blocks i
  ready i h = record {
    long = (slot_bytes_lem i (omega arith)).0;
    bytes = (slot_bytes_lem i (omega arith)).1;
    used = used_parts reading (left_at blocks i) (14 + i / 8) (slot_in blocks i)
        (sym (cond-true (ltb i k) _ _ (lt-ltb i k h)) ∙ slot_none i (omega arith));
  }

  abbrev slots : List (Slot X)
  slots = slots_in reading blocks 0 k

  read : SlotsAreRead form blocks 0 k slots
  read = all_read form reading exact blocks 0 k (λ j l. subst (Ready form reading exact blocks) {x = j} (omega arith) (ready j l))

  slot_laid : (i : ℕ) → i < 512 → slot_in blocks i ≡ slot_at form slots i
  slot_laid i h =
      ⊎_elim
      (λ l. ap (slot_in blocks) (sym (zero-add i)) ∙ sym (read.laid i l))
      (λ l.
      blank_zeros (slot_in blocks i) (unused_blank (14 + i / 8) (slot_in blocks i) (sym (cond-false (ltb i k) _ _ (le-ltb i k l)) ∙ slot_none i h))
      ∙ ap zeros (slot_bytes_lem i h).0
      ∙ sym (slot_at_past form slots i (omega (arith, read.count))))
      (cases_lt i k)

  block_laid : (j : ℕ) → j < 64 → bytes_of (blocks (14 + j)) ≡ slot_block form slots j
  unfolding slot_in slot_block
  block_laid j h =
      let xs = bytes_of (blocks (14 + j)) in
      joined_is 64 (slot_at form slots) (length_slot_at form sized slots) (8 * j) 8 xs (block_length xs (block_read blocks (14 + j) (block_none j h).0).1) (λ i l.
      let at : (8 * j + i) % 8 ≡ i = omega arith in
      let of : (8 * j + i) / 8 ≡ j = omega arith in
      (λ t. take 64 (drop (64 * sym at t) (bytes_of (blocks (14 + sym of t))))) ∙ slot_laid (8 * j + i) (omega arith))

  numbers_in_slots : (j : ℕ) → j < length slots → number_in blocks j ≡ number_of slots j
  numbers_in_slots j l = ap (number_in blocks) (sym (zero-add j)) ∙ read.numbers j (omega (arith, read.count))

  counted : (p : ℕ) → times (number_in blocks) k p ≡ occurs p slots
  counted p = ap (λ n. times (number_in blocks) n p) (sym read.count) ∙ times_occurs slots (number_in blocks) p numbers_in_slots

  member : (i : ℕ) → i < k → (in_set (stock_in blocks) (number_in blocks i) ≡ true) × (not (earlier (number_in blocks) i (number_in blocks i)) ≡ true)
  member i h = and_parts _ _ (ready i h).used.member

  none_left : (p : ℕ) → not (earlier (number_in blocks) k p) ≡ eqb (occurs p slots) 0
  none_left p =
      ⊎_elim
      (λ t. not_from_true _ t ∙ sym (ne_eqb (occurs p slots) 0 (λ z. both_ways _ (earlier_none (number_in blocks) k p (counted p ∙ z)) t)))
      (λ f. not_from_false _ f ∙ sym (eq-eqb (occurs p slots) 0 (sym (counted p) ∙ none_earlier (number_in blocks) k p f)))
      (cases_Bool (earlier (number_in blocks) k p))

  pub slots_exact : SlotsExact form blocks k (slots_in reading blocks 0 k)
  slots_exact = record {
    count = read.count;
    numbers = numbers_in_slots;
    left = none_left;
    laid = λ j h. (block_read blocks (14 + j) (block_none j h).0).0 ∙ ap Some (block_laid j h);
    distinct = λ p.
        let once : times (number_in blocks) k p ≤ 1 = times_once (number_in blocks) k p (λ i h. not-true _ (member i h).1) in
        omega (arith, once, counted p);
    stocked = λ p h.
        times_has (λ n. in_set (stock_in blocks) n ≡ true) (number_in blocks) k p (λ i l. (member i l).0) (omega (arith, counted p));
  }
