-- The bytes of the blocks that a store changes are those of the reservoir after it.
-- Assumes nothing.
use Rattle.std.proofs.Common.{◌≡◌, ℕ, ◌+◌, ◌/◌, ◌<◌, ◌≤◌, min, List, length, Some, None, Option, sym, refl, ap, ◌∙◌, arith}
use Rattle.words.specs.declared.draws.Drawn.{Drawn}
use Rattle.pairing.specs.Reservoir.{Slot, Reservoir, store, effect, placed, filled_by, with}
use Rattle.pairing.specs.Rules.{Lawful}
use Rattle.pairing.specs.Steps.{counts_of, after_store}
use Rattle.pairing.specs.declared.Effect.{Effect}
use Rattle.pairing.proofs.Following.{store_follows}
use Rattle.pairing.proofs.Keeping.{Way, pairs_in, pairs_out, fills, replaces, passes, way}
use Rattle.layout.specs.Layout.{head_of, stock_block, slot_block, slot_bytes, content}
use Rattle.layout.specs.Reading.{bytes_of}
use Rattle.layout.proofs.LayoutLaws.{Parts, parts_held}
use Rattle.layout.proofs.SlotChanges.{push_changed, set_changed}
use Rattle.plans.specs.Plans.{store_block, stock_block_of, filled_slot}
use Rattle.register.specs.Stores.{slotted}

-- which of the blocks of slots a store changes
abbrev place_of : Option ℕ → ℕ
place_of (Some i) = i / 8
place_of None = 0

store_block_lem : (slot : Option ℕ) → store_block slot ≡ 14 + place_of slot
store_block_lem (Some i) = refl
store_block_lem None = refl

place_low :
    {X : Type 0} (slots : List (Slot X)) (m n c1 c2 d : ℕ) {w : ℕ} {e : Effect} → Way m n c1 c2 d w e → m ≤ 512 →
    length slots + c1 ≡ min m (n + (c1 + c2)) → place_of (filled_by e slots) < 64
place_low slots m n c1 c2 d (pairs_in some low) most kept = omega arith
place_low slots m n c1 c2 d (pairs_out some high) most kept = omega arith
place_low slots m n c1 c2 d (fills none free) most kept = omega arith
place_low slots m n c1 c2 d (replaces none full low) most kept = omega arith
place_low slots m n c1 c2 d (passes none full high) most kept = omega arith

filled_low : {X : Type 0} (r : Reservoir X) → Lawful r → (drawn : Drawn) → place_of (filled_slot r drawn) < 64
filled_low r l drawn =
    place_low r.slots r.capacity r.size r.c1 r.c2 drawn.value
    (way r.capacity r.size r.c1 r.c2 drawn.value) l.ranges.limits.1 l.ranges.balance

pub store_block_low : {X : Type 0} (r : Reservoir X) → Lawful r → (drawn : Drawn) → store_block (filled_slot r drawn) < 78
store_block_low r l drawn = omega (arith, store_block_lem (filled_slot r drawn), filled_low r l drawn)

pub store_block_high : (slot : Option ℕ) → 14 ≤ store_block slot
store_block_high slot = omega (arith, store_block_lem slot)

module _ {X : Type 0} (code : ℕ) (form : X → List ℕ) where
  -- the bytes of each block
  parts : (r : Reservoir X) → Parts code form (λ b. Some (content code form r b)) r
  parts r = parts_held code form (λ b. Some (content code form r b)) r (λ b l. refl)

  slots_are : (r : Reservoir X) (j : ℕ) → j < 64 → content code form r (14 + j) ≡ slot_block form r.slots j
  slots_are r j h = ap bytes_of ((parts r).slots j h)

  -- the head
  pub head_after :
      (r : Reservoir X) (number : ℕ) (item : X) (drawn : Drawn) →
      head_of code (after_store (counts_of r) drawn) ≡ content code form (store r number item drawn.value drawn.used) 0
  head_after r number item drawn =
      ap (head_of code) (sym (store_follows r number item drawn))
      ∙ sym (ap bytes_of (parts (store r number item drawn.value drawn.used)).head)

  -- the stock
  stock_of : (r : Reservoir X) (number : ℕ) (item : X) (draw used : ℕ) → (store r number item draw used).stock ≡ with r.stock number
  unfolding store
  stock_of r number item draw used = refl

  pub stock_after_lem :
      (r : Reservoir X) (number : ℕ) (item : X) (draw used : ℕ) → number < 32768 →
      stock_block (with r.stock number) (number / 4096) ≡ content code form (store r number item draw used) (stock_block_of number)
  stock_after_lem r number item draw used low =
      sym
      (ap bytes_of ((parts (store r number item draw used)).stock (number / 4096) (omega arith))
      ∙ ap (λ s. stock_block s (number / 4096)) (stock_of r number item draw used))

  -- the slots
  module _ (sized : (x : X) → length (form x) ≡ 60) where
    placed_changed :
        (slots : List (Slot X)) (x : Slot X) (m n c1 c2 d : ℕ) {w : ℕ} {e : Effect} → Way m n c1 c2 d w e →
        length slots + c1 ≡ min m (n + (c1 + c2)) →
        slot_block form (placed e slots x) (place_of (filled_by e slots))
        ≡ slotted (slot_block form slots (place_of (filled_by e slots))) (filled_by e slots) (slot_bytes form x)
    placed_changed slots x m n c1 c2 d (pairs_in some low) kept = push_changed form sized slots x
    placed_changed slots x m n c1 c2 d (pairs_out some high) kept = refl
    placed_changed slots x m n c1 c2 d (fills none free) kept = push_changed form sized slots x
    placed_changed slots x m n c1 c2 d (replaces none full low) kept = set_changed form sized slots d x (omega arith)
    placed_changed slots x m n c1 c2 d (passes none full high) kept = refl

    slots_of :
        (r : Reservoir X) (number : ℕ) (item : X) (draw used : ℕ) →
        (store r number item draw used).slots ≡ placed (effect r draw) r.slots (record { number = number; item = item })
    unfolding store
    slots_of r number item draw used = refl

    pub slots_after_lem :
        (r : Reservoir X) → Lawful r → (number : ℕ) (item : X) (drawn : Drawn) →
        slotted (content code form r (store_block (filled_slot r drawn))) (filled_slot r drawn)
        (slot_bytes form (record { number = number; item = item }))
        ≡ content code form (store r number item drawn.value drawn.used) (store_block (filled_slot r drawn))
    slots_after_lem r l number item drawn =
        let o = filled_slot r drawn in
        let x : Slot X = record { number = number; item = item } in
        let next = store r number item drawn.value drawn.used in
        let low = filled_low r l drawn in
        ap (λ b. slotted (content code form r b) o (slot_bytes form x)) (store_block_lem o)
        ∙ ap (λ xs. slotted xs o (slot_bytes form x)) (slots_are r (place_of o) low)
        ∙ sym
        (placed_changed r.slots x r.capacity r.size r.c1 r.c2 drawn.value
        (way r.capacity r.size r.c1 r.c2 drawn.value) l.ranges.balance)
        ∙ ap (λ s. slot_block form s (place_of o)) (sym (slots_of r number item drawn.value drawn.used))
        ∙ sym (slots_are next (place_of o) low)
        ∙ ap (content code form next) (sym (store_block_lem o))
