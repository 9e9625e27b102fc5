-- The bytes of a reservoir's blocks after a take, from those before it.
-- Assumes nothing.
use Rattle.std.proofs.Common.{◌≡◌, ℕ, ◌+◌, ◌*◌, ◌/◌, ◌%◌, ◌<◌, Bool, eqb, ltb, ◌≢◌, List, [], ◌∷◌, length, get_or, take, drop, set, Some, None, Ok, Option, Result, sym, refl, ap, ◌∙◌, ⊎_elim, arith}
use Rattle.std.proofs.lemmas.Bool.{cond-true, cond-false, eq-eqb, ne_eqb, lt-ltb, le-ltb, cases_eq}
use Rattle.fault.specs.declared.Fault.{Fault}
use Rattle.octets.specs.Zeros.{zeros}
use Rattle.pairing.specs.Reservoir.{Slot, Reservoir, taken, slot_of, slots_after, freed, without}
use Rattle.pairing.specs.Steps.{counts_of}
use Rattle.pairing.proofs.Slots.{Found, there, nowhere, search_found}
use Rattle.layout.specs.Laws.{Storable}
use Rattle.layout.specs.Layout.{Laid, head_of, stock_block, slot_bytes, slot_at, slot_block, with_slot, content}
use Rattle.layout.proofs.SlotChanges.{slot_at_lem, slot_there, set_changed, set_kept, freed_changed, freed_kept}
use Rattle.plans.specs.Plans.{slot_block_of, stock_block_of}
use Rattle.register.specs.Takes.{changed_in, Frees}
use Rattle.register.proofs.Held.{ok_is, slot_laid, few_slots}

-- ---- a slot changed

changed_there : (xs : List ℕ) (j i : ℕ) (new : List ℕ) → i / 8 ≡ j → changed_in xs j i new ≡ with_slot xs i new
changed_there xs j i new e = cond-true (eqb (i / 8) j) _ _ (eq-eqb (i / 8) j e)

changed_elsewhere : (xs : List ℕ) (j i : ℕ) (new : List ℕ) → i / 8 ≢ j → changed_in xs j i new ≡ xs
changed_elsewhere xs j i new other = cond-false (eqb (i / 8) j) _ _ (ne_eqb (i / 8) j other)

-- a block that is changed where it has slot i, and kept elsewhere
changed_by :
    (before after : ℕ → List ℕ) (i : ℕ) (new : List ℕ) → after (i / 8) ≡ with_slot (before (i / 8)) i new →
    ((j : ℕ) → j ≢ i / 8 → after j ≡ before j) → (j : ℕ) → after j ≡ changed_in (before j) j i new
changed_by before after i new changed kept j =
    ⊎_elim
    (λ e. ap after (sym e) ∙ changed ∙ ap (λ k. with_slot (before k) i new) e ∙ sym (changed_there (before j) j i new e))
    (λ other. kept j (λ e. other (sym e)) ∙ sym (changed_elsewhere (before j) j i new other))
    (cases_eq (i / 8) j)

module _ {X : Type 0} (form : X → List ℕ) (sized : (x : X) → length (form x) ≡ 60) where
  set_block :
      (slots : List (Slot X)) (i : ℕ) (x : Slot X) → i < length slots → (j : ℕ) →
      slot_block form (set slots i x) j ≡ changed_in (slot_block form slots j) j i (slot_bytes form x)
  set_block slots i x h =
      changed_by (slot_block form slots) (slot_block form (set slots i x)) i (slot_bytes form x) (set_changed form sized slots i x h)
      (set_kept form sized slots i x)

  -- slot n, the last one, moves into slot h
  pub freed_block :
      (slots : List (Slot X)) (h n : ℕ) → h < length slots → length slots ≡ n + 1 → (j : ℕ) →
      slot_block form (freed slots h) j ≡ changed_in (changed_in (slot_block form slots j) j h (slot_at form slots n)) j n (zeros 64)
  freed_block [] h n inside last j = absurd (omega arith)
  freed_block (x ∷ xs) h n inside last j =
      let slots = x ∷ xs in
      let moved = get_or slots n x in
      changed_by (slot_block form (set slots h moved)) (slot_block form (freed slots h)) n (zeros 64)
      (freed_changed form sized slots h n x last) (freed_kept form sized slots h n x last) j
      ∙ ap (λ b. changed_in b j n (zeros 64)) (set_block slots h moved inside j)
      ∙ ap (λ m. changed_in (changed_in (slot_block form slots j) j h m) j n (zeros 64)) (sym (slot_at_lem form slots n x (omega arith)))

-- ---- the blocks of a reservoir

module _ {X : Type 0} (code : ℕ) (form : X → List ℕ) (r : Reservoir X) where
  pub content_head : content code form r 0 ≡ head_of code (counts_of r)
  unfolding content
  content_head = refl

  pub content_stock : (number : ℕ) → number < 32768 → content code form r (stock_block_of number) ≡ stock_block r.stock (number / 4096)
  unfolding content
  content_stock number low =
      cond-false (eqb (6 + number / 4096) 0) _ _ (ne_eqb _ 0 (λ e. omega arith))
      ∙ cond-true (ltb (6 + number / 4096) 14) _ _ (lt-ltb _ 14 (omega arith))
      ∙ ap (stock_block r.stock) (omega arith)

  pub content_slots : (j : ℕ) → content code form r (14 + j) ≡ slot_block form r.slots j
  unfolding content
  content_slots j =
      cond-false (eqb (14 + j) 0) _ _ (ne_eqb (14 + j) 0 (λ e. omega arith))
      ∙ cond-false (ltb (14 + j) 14) _ _ (le-ltb (14 + j) 14 (omega arith))
      ∙ ap (slot_block form r.slots) (omega arith)

-- ---- after a take

slots_after_lem : {X : Type 0} (r : Reservoir X) (number : ℕ) (o : Option ℕ) → slot_of r.slots number ≡ o → (taken r number).slots ≡ slots_after r.slots o
unfolding taken
slots_after_lem r number o e = ap (slots_after r.slots) e

stock_after_lem : {X : Type 0} (r : Reservoir X) (number : ℕ) → (taken r number).stock ≡ without r.stock number
unfolding taken
stock_after_lem r number = refl

found_inside : {X : Type 0} (slots : List (Slot X)) (p h : ℕ) {o : Option ℕ} → Found slots p o → o ≡ Some h → h < length slots
found_inside slots p h (there i inside is) e = let same : i ≡ h = cc in omega arith
found_inside slots p h (nowhere none) e = let z : ◌≡◌ {A = ℕ} 0 1 = cc in absurd (omega arith)

pub slot_inside : {X : Type 0} (slots : List (Slot X)) (p h : ℕ) → slot_of slots p ≡ Some h → h < length slots
slot_inside slots p h e = found_inside slots p h (search_found slots p) e

module _ {X : Type 0} (code : ℕ) (form : X → List ℕ) (sized : (x : X) → length (form x) ≡ 60) (r : Reservoir X) (number : ℕ) where
  -- in a slot: the last slot moves into it
  content_freed :
      (h last : ℕ) (bytes : List ℕ) → Frees form r number h last bytes → (j : ℕ) →
      changed_in (changed_in (content code form r (14 + j)) j h bytes) j last (zeros 64) ≡ content code form (taken r number) (14 + j)
  content_freed h last bytes f j =
      (λ i. changed_in (changed_in (content_slots code form r j i) j h (f.moved i)) j last (zeros 64))
      ∙ sym (freed_block form sized r.slots h last (slot_inside r.slots number h f.slot) f.count j)
      ∙ ap (λ s. slot_block form s j) (sym (slots_after_lem r number (Some h) f.slot))
      ∙ sym (content_slots code form (taken r number) j)

  pub bytes_freed :
      (h last : ℕ) (bytes : List ℕ) → Frees form r number h last bytes → (at : ℕ) (was : List ℕ) → was ≡ content code form r (slot_block_of at) →
      changed_in (changed_in was (at / 8) h bytes) (at / 8) last (zeros 64) ≡ content code form (taken r number) (slot_block_of at)
  bytes_freed h last bytes f at was is =
      ap (λ b. changed_in (changed_in b (at / 8) h bytes) (at / 8) last (zeros 64)) is ∙ content_freed h last bytes f (at / 8)

  -- in no slot
  pub content_kept :
      slot_of r.slots number ≡ None → (j : ℕ) → content code form r (14 + j) ≡ content code form (taken r number) (14 + j)
  content_kept e j =
      content_slots code form r j
      ∙ ap (λ s. slot_block form s j) (sym (slots_after_lem r number None e))
      ∙ sym (content_slots code form (taken r number) j)

  -- the bytes of a slot, cut out of its block
  slot_cut : (i : ℕ) → take 64 (drop (64 * (i % 8)) (content code form r (slot_block_of i))) ≡ slot_at form r.slots i
  slot_cut i = ap (λ b. take 64 (drop (64 * (i % 8)) b)) (content_slots code form r (i / 8)) ∙ slot_there form sized r.slots i

  pub frees_by :
      (h last : ℕ) (block bytes : List ℕ) → slot_of r.slots number ≡ Some h → length r.slots ≡ last + 1 →
      block ≡ content code form r (slot_block_of last) → bytes ≡ take 64 (drop (64 * (last % 8)) block) → Frees form r number h last bytes
  frees_by h last block bytes slot count is cut = record {
    slot = slot;
    count = count;
    moved = cut ∙ ap (λ b. take 64 (drop (64 * (last % 8)) b)) is ∙ slot_cut last;
  }

  module _ (storable : Storable r) where
    pub slot_low : (h : ℕ) → slot_of r.slots number ≡ Some h → h < 512
    slot_low h slot = omega (arith, few_slots r storable, slot_inside r.slots number h slot)

    pub last_low : (last : ℕ) → length r.slots ≡ last + 1 → last < 512
    last_low last count = omega (arith, few_slots r storable, count)

    -- where the block of the last slot was read
    pub frees_read :
        (h last b : ℕ) (block bytes : List ℕ) → slot_of r.slots number ≡ Some h → length r.slots ≡ last + 1 → b ≡ slot_block_of last →
        (Laid b → ◌≡◌ {A = Result (List ℕ) Fault} (Ok block) (Ok (content code form r b))) → bytes ≡ take 64 (drop (64 * (last % 8)) block) →
        Frees form r number h last bytes
    frees_read h last b block bytes slot count at read =
        frees_by h last block bytes slot count (ok_is (read (slot_laid b last at (last_low last count))) ∙ ap (content code form r) at)

  -- the stock
  pub content_without :
      (set : ℕ → Bool) → number < 32768 → ((p : ℕ) → set p ≡ without r.stock number p) →
      stock_block set (number / 4096) ≡ content code form (taken r number) (stock_block_of number)
  content_without set low same =
      (λ i. stock_block (λ p. same p i) (number / 4096))
      ∙ ap (λ s. stock_block s (number / 4096)) (sym (stock_after_lem r number))
      ∙ sym (content_stock code form (taken r number) number low)
