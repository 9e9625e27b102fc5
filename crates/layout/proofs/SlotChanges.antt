-- A changed slot changes its 64 bytes and no others.
-- Assumes nothing.
use Rattle.std.proofs.Common.{◌≡◌, ℕ, zero, suc, ◌+◌, ◌*◌, ◌/◌, ◌%◌, ◌<◌, ◌≤◌, ◌≢◌, List, [], ◌∷◌, ◌++◌, length, get_or, take, drop, set, sym, refl, ap, ◌∙◌, arith, length-set, length-take}
use Rattle.std.proofs.lemmas.List.{get_or_default}
use Rattle.octets.specs.Zeros.{zeros}
use Rattle.pairing.specs.Reservoir.{Slot, freed}
use Rattle.layout.specs.Layout.{slot_bytes, slot_at, slot_block, with_slot}
use Rattle.layout.proofs.Joining.{joined_at, joined_like, joined_changed}
use Rattle.layout.proofs.SlotLaws.{length_slot_at, slot_at_past}

-- ---- the bytes of each slot

module _ {X : Type 0} (form : X → List ℕ) where
  pub slot_at_lem : (slots : List (Slot X)) (i : ℕ) (d : Slot X) → i < length slots → slot_at form slots i ≡ slot_bytes form (get_or slots i d)
  slot_at_lem [] i d h = absurd (omega arith)
  slot_at_lem (x ∷ xs) zero d h = refl
  slot_at_lem (x ∷ xs) (suc i) d h = slot_at_lem xs i d (omega arith)

  at_set : (slots : List (Slot X)) (i : ℕ) (x : Slot X) → i < length slots → slot_at form (set slots i x) i ≡ slot_bytes form x
  at_set [] i x h = absurd (omega arith)
  at_set (y ∷ ys) zero x h = refl
  at_set (y ∷ ys) (suc i) x h = at_set ys i x (omega arith)

  off_set : (slots : List (Slot X)) (i j : ℕ) (x : Slot X) → j ≢ i → slot_at form (set slots i x) j ≡ slot_at form slots j
  off_set [] i j x h = refl
  off_set (y ∷ ys) zero zero x h = absurd (h refl)
  off_set (y ∷ ys) zero (suc j) x h = refl
  off_set (y ∷ ys) (suc i) zero x h = refl
  off_set (y ∷ ys) (suc i) (suc j) x h = off_set ys i j x (λ e. h (ap suc e))

  at_push : (slots : List (Slot X)) (x : Slot X) → slot_at form (slots ++ x ∷ []) (length slots) ≡ slot_bytes form x
  at_push [] x = refl
  at_push (y ∷ ys) x = at_push ys x

  off_push : (slots : List (Slot X)) (j : ℕ) (x : Slot X) → j ≢ length slots → slot_at form (slots ++ x ∷ []) j ≡ slot_at form slots j
  off_push [] zero x h = absurd (h refl)
  off_push [] (suc j) x h = refl
  off_push (y ∷ ys) zero x h = refl
  off_push (y ∷ ys) (suc j) x h = off_push ys j x (λ e. h (ap suc e))

  off_drop : (slots : List (Slot X)) (n j : ℕ) → length slots ≤ suc n → j ≢ n → slot_at form (take n slots) j ≡ slot_at form slots j
  off_drop [] zero j l h = refl
  off_drop [] (suc n) j l h = refl
  off_drop (y ∷ ys) zero zero l h = absurd (h refl)
  off_drop (y ∷ ys) zero (suc j) l h = sym (slot_at_past form ys j (omega arith))
  off_drop (y ∷ ys) (suc n) zero l h = refl
  off_drop (y ∷ ys) (suc n) (suc j) l h = off_drop ys n j (omega arith) (λ e. h (ap suc e))

-- slot n, the last one, moves into slot i
pub freed_is : {X : Type 0} (slots : List (Slot X)) (i n : ℕ) (d : Slot X) → length slots ≡ n + 1 → freed slots i ≡ take n (set slots i (get_or slots n d))
freed_is [] i n d last = absurd (omega arith)
freed_is (x ∷ xs) i n d last =
    let is : length xs ≡ n = omega arith in
    ap (λ l. take (length xs) (set (x ∷ xs) i l)) (get_or_default (x ∷ xs) (length xs) x d (omega arith))
    ∙ ap (λ k. take k (set (x ∷ xs) i (get_or (x ∷ xs) k d))) is

-- ---- blocks

module _ {X : Type 0} (form : X → List ℕ) (sized : (x : X) → length (form x) ≡ 60) where
  pub slot_there : (slots : List (Slot X)) (i : ℕ) → take 64 (drop (64 * (i % 8)) (slot_block form slots (i / 8))) ≡ slot_at form slots i
  unfolding slot_block
  slot_there slots i =
      let place : i % 8 < 8 = omega arith in
      joined_at 64 (slot_at form slots) (length_slot_at form sized slots) (8 * (i / 8)) 8 (i % 8) place ∙ ap (slot_at form slots) (omega arith)

  -- two lists that differ in slot i at most
  module _ (slots others : List (Slot X)) (i : ℕ) (same : (j : ℕ) → j ≢ i → slot_at form others j ≡ slot_at form slots j) where
    pub block_kept : (j : ℕ) → j ≢ i / 8 → slot_block form others j ≡ slot_block form slots j
    unfolding slot_block
    block_kept j h = joined_like (slot_at form others) (slot_at form slots) (8 * j) 8 (λ k a b. same k (λ e. h (omega arith)))

    pub block_changed : (new : List ℕ) → slot_at form others i ≡ new → slot_block form others (i / 8) ≡ with_slot (slot_block form slots (i / 8)) i new
    unfolding slot_block with_slot
    block_changed new is =
        let place : i % 8 < 8 = omega arith in
        let at : 8 * (i / 8) + i % 8 ≡ i = omega arith in
        joined_changed 64 (slot_at form slots) (length_slot_at form sized slots) (slot_at form others) (8 * (i / 8)) 8 (i % 8) new place
        (λ j h. same j (λ e. h (omega arith))) (ap (slot_at form others) at ∙ is)

  module _ (slots : List (Slot X)) (i : ℕ) (x : Slot X) where
    pub set_changed : i < length slots → slot_block form (set slots i x) (i / 8) ≡ with_slot (slot_block form slots (i / 8)) i (slot_bytes form x)
    set_changed h = block_changed slots (set slots i x) i (λ j k. off_set form slots i j x k) (slot_bytes form x) (at_set form slots i x h)

    pub set_kept : (j : ℕ) → j ≢ i / 8 → slot_block form (set slots i x) j ≡ slot_block form slots j
    set_kept = block_kept slots (set slots i x) i (λ j k. off_set form slots i j x k)

  module _ (slots : List (Slot X)) (x : Slot X) where
    pub push_changed : slot_block form (slots ++ x ∷ []) (length slots / 8) ≡ with_slot (slot_block form slots (length slots / 8)) (length slots) (slot_bytes form x)
    push_changed = block_changed slots (slots ++ x ∷ []) (length slots) (λ j k. off_push form slots j x k) (slot_bytes form x) (at_push form slots x)

    pub push_kept : (j : ℕ) → j ≢ length slots / 8 → slot_block form (slots ++ x ∷ []) j ≡ slot_block form slots j
    push_kept = block_kept slots (slots ++ x ∷ []) (length slots) (λ j k. off_push form slots j x k)

  -- without the last slot, which is the n-th
  module _ (slots : List (Slot X)) (n : ℕ) (last : length slots ≡ n + 1) where
    off : (j : ℕ) → j ≢ n → slot_at form (take n slots) j ≡ slot_at form slots j
    off j h = off_drop form slots n j (omega arith) h

    pub drop_changed : slot_block form (take n slots) (n / 8) ≡ with_slot (slot_block form slots (n / 8)) n (zeros 64)
    drop_changed = block_changed slots (take n slots) n off (zeros 64) (slot_at_past form (take n slots) n (omega (arith, length-take n slots)))

    pub drop_kept : (j : ℕ) → j ≢ n / 8 → slot_block form (take n slots) j ≡ slot_block form slots j
    drop_kept = block_kept slots (take n slots) n off

  -- slot n, the last one, moves into slot i: it is written there, and then it goes
  module _ (slots : List (Slot X)) (i n : ℕ) (d : Slot X) (last : length slots ≡ n + 1) where
    abbrev moved : List (Slot X)
    moved = set slots i (get_or slots n d)

    moved_last : length moved ≡ n + 1
    moved_last = length-set slots i (get_or slots n d) ∙ last

    pub freed_changed : slot_block form (freed slots i) (n / 8) ≡ with_slot (slot_block form (set slots i (get_or slots n d)) (n / 8)) n (zeros 64)
    freed_changed = ap (λ s. slot_block form s (n / 8)) (freed_is slots i n d last) ∙ drop_changed moved n moved_last

    pub freed_kept : (j : ℕ) → j ≢ n / 8 → slot_block form (freed slots i) j ≡ slot_block form (set slots i (get_or slots n d)) j
    freed_kept j h = ap (λ s. slot_block form s j) (freed_is slots i n d last) ∙ drop_kept moved n moved_last j h
