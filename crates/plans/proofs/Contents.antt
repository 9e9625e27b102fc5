-- The bytes of a reservoir's blocks: each is a block, and a call changes none but its targets.
-- Assumes nothing.
use Rattle.std.proofs.Common.{◌≡◌, ℕ, ◌+◌, ◌-◌, ◌/◌, ◌<◌, ◌≤◌, Bool, true, false, cond, eqb, ltb, ◌≢◌, List, [], ◌∷◌, length, Some, None, Option, sym, refl, ap, ◌∙◌, inl, inr, arith}
use Rattle.std.proofs.lemmas.Bool.{cond_both, or_parts, eqb-true, eqb-false, ltb-true, ltb-false}
use Rattle.octets.specs.Zeros.{every}
use Rattle.pairing.specs.Reservoir.{Slot, Reservoir, store, taken, effect, placed, filled_by, slot_of, slots_after, without}
use Rattle.pairing.specs.Steps.{counts_of}
use Rattle.pairing.specs.declared.Effect.{Effect}
use Rattle.pairing.specs.declared.Effect.TheVariants.{Enters, Replaces, StaysOut}
use Rattle.layout.specs.Layout.{head_of, stock_block, slot_block, content, Laid}
use Rattle.layout.specs.Reading.{is_block}
use Rattle.layout.proofs.HeadLaws.{head_is_block}
use Rattle.layout.proofs.SlotChanges.{push_kept, set_kept, freed_kept}
use Rattle.layout.proofs.SlotLaws.{slot_block_is_block}
use Rattle.layout.proofs.StockLaws.{stock_is_block, stock_with, stock_without}
use Rattle.plans.specs.Plans.{store_block, store_targets, stock_block_of, take_targets}
use Rattle.plans.proofs.Viewing.{among}

-- two reservoirs with the same bytes in block b
content_like :
    {X : Type 0} (code : ℕ) (form : X → List ℕ) (r s : Reservoir X) (b : ℕ) → b ≢ 0 →
    (b < 14 → stock_block s.stock (b - 6) ≡ stock_block r.stock (b - 6)) →
    (14 ≤ b → slot_block form s.slots (b - 14) ≡ slot_block form r.slots (b - 14)) → content code form s b ≡ content code form r b
unfolding content
content_like code form r s b some stock slots = go (eqb b 0) (ltb b 14) refl refl
  where
    go :
        (first low : Bool) → eqb b 0 ≡ first → ltb b 14 ≡ low →
        cond first (head_of code (counts_of s)) (cond low (stock_block s.stock (b - 6)) (slot_block form s.slots (b - 14)))
        ≡ cond first (head_of code (counts_of r)) (cond low (stock_block r.stock (b - 6)) (slot_block form r.slots (b - 14)))
    go true low e l = absurd (some (eqb-true b 0 e))
    go false true e l = stock (ltb-true b 14 l)
    go false false e l = slots (ltb-false b 14 l)

-- a block that is none of four targets, of which the last is block 0
apart :
    (t₀ t₁ t₂ b : ℕ) → among b (t₀ ∷ t₁ ∷ t₂ ∷ 0 ∷ []) ≡ false → (t₀ ≢ b) × (t₁ ≢ b) × (t₂ ≢ b) × (b ≢ 0)
apart t₀ t₁ t₂ b h =
    let p = or_parts (eqb t₀ b) (among b (t₁ ∷ t₂ ∷ 0 ∷ [])) h in
    let q = or_parts (eqb t₁ b) (among b (t₂ ∷ 0 ∷ [])) p.1 in
    let s = or_parts (eqb t₂ b) (among b (0 ∷ [])) q.1 in
    let z = or_parts (eqb 0 b) false s.1 in
    (eqb-false t₀ b p.0, eqb-false t₁ b q.0, eqb-false t₂ b s.0, λ e. eqb-false 0 b z.0 (sym e))

stock_apart : (number b : ℕ) → stock_block_of number ≢ b → 6 ≤ b → b - 6 ≢ number / 4096
stock_apart number b other low e = other (omega arith)

slot_apart : (i b : ℕ) → 14 + i / 8 ≢ b → 14 ≤ b → b - 14 ≢ i / 8
slot_apart i b other low e = other (omega arith)

laid_low : (b : ℕ) → Laid b → b ≢ 0 → 6 ≤ b
laid_low b (inl z) some = absurd (some z)
laid_low b (inr l) some = l.0

module _ {X : Type 0} (code : ℕ) (form : X → List ℕ) (sized : (x : X) → length (form x) ≡ 60) where
  pub content_is_block :
      ((x : X) → every (λ b. ltb b 256) (form x) ≡ true) → (r : Reservoir X) (b : ℕ) → is_block (content code form r b) ≡ true
  unfolding content
  content_is_block bounded r b =
      cond_both (eqb b 0) _ _ (λ xs. is_block xs ≡ true) (λ e. head_is_block code (counts_of r)) (λ e.
      cond_both (ltb b 14) _ _ (λ xs. is_block xs ≡ true) (λ l. stock_is_block r.stock (b - 6)) (λ l.
      slot_block_is_block form bounded sized r.slots (b - 14)))

  -- ---- a store

  placed_kept :
      (e : Effect) (slots : List (Slot X)) (x : Slot X) (b : ℕ) → store_block (filled_by e slots) ≢ b → 14 ≤ b →
      slot_block form (placed e slots x) (b - 14) ≡ slot_block form slots (b - 14)
  placed_kept Enters slots x b other low = push_kept form sized slots x (b - 14) (slot_apart (length slots) b other low)
  placed_kept (Replaces i) slots x b other low = set_kept form sized slots i x (b - 14) (slot_apart i b other low)
  placed_kept StaysOut slots x b other low = refl

  pub store_kept :
      (r : Reservoir X) (number : ℕ) (item : X) (draw used b : ℕ) → Laid b →
      among b (store_targets (filled_by (effect r draw) r.slots) number) ≡ false →
      content code form (store r number item draw used) b ≡ content code form r b
  unfolding store
  store_kept r number item draw used b laid out =
      let slot = store_block (filled_by (effect r draw) r.slots) in
      let p = apart slot slot (stock_block_of number) b out in
      content_like code form r (store r number item draw used) b p.3
      (λ l. stock_with r.stock number (b - 6) (stock_apart number b p.2 (laid_low b laid p.3)))
      (λ l. placed_kept (effect r draw) r.slots (record { number = number; item = item }) b p.0 l)

  -- ---- a take

  freed_same :
      (slots : List (Slot X)) (h b : ℕ) → 14 + h / 8 ≢ b → 14 + (length slots - 1) / 8 ≢ b → 14 ≤ b →
      slot_block form (slots_after slots (Some h)) (b - 14) ≡ slot_block form slots (b - 14)
  freed_same [] h b there last low = refl
  freed_same (x ∷ xs) h b there last low =
      let n : length (x ∷ xs) - 1 ≡ length xs = omega arith in
      freed_kept form sized (x ∷ xs) h (length xs) x (omega arith) (b - 14)
      (slot_apart (length xs) b (λ e. last (ap (λ k. 14 + k / 8) n ∙ e)) low)
      ∙ set_kept form sized (x ∷ xs) h _ (b - 14) (slot_apart h b there low)

  take_like :
      (r : Reservoir X) (number : ℕ) (o : Option ℕ) (next : Reservoir X) (b : ℕ) → next.slots ≡ slots_after r.slots o →
      next.stock ≡ without r.stock number → Laid b → among b (take_targets o (length r.slots) number) ≡ false →
      content code form next b ≡ content code form r b
  take_like r number (Some h) next b slots stock laid out =
      let p = apart (14 + h / 8) (14 + (length r.slots - 1) / 8) (stock_block_of number) b out in
      content_like code form r next b p.3
      (λ l. ap (λ s. stock_block s (b - 6)) stock ∙ stock_without r.stock number (b - 6) (stock_apart number b p.2 (laid_low b laid p.3)))
      (λ l. ap (λ s. slot_block form s (b - 14)) slots ∙ freed_same r.slots h b p.0 p.1 l)
  take_like r number None next b slots stock laid out =
      let p = apart 14 14 (stock_block_of number) b out in
      content_like code form r next b p.3
      (λ l. ap (λ s. stock_block s (b - 6)) stock ∙ stock_without r.stock number (b - 6) (stock_apart number b p.2 (laid_low b laid p.3)))
      (λ l. ap (λ s. slot_block form s (b - 14)) slots)

  pub take_kept :
      (r : Reservoir X) (number b : ℕ) → Laid b → among b (take_targets (slot_of r.slots number) (length r.slots) number) ≡ false →
      content code form (taken r number) b ≡ content code form r b
  unfolding taken
  take_kept r number b laid out = take_like r number (slot_of r.slots number) (taken r number) b refl refl laid out
