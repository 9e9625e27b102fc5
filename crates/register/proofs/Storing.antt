-- A store that can be made: its step, its changes, and the plan that they make.
-- Assumes nothing.
use Rattle.std.proofs.Common.{◌≡◌, ℕ, ◌/◌, ◌<◌, ◌≤◌, List, [], ◌∷◌, length, Ok, Err, Option, Result, sym, ap, ◌∙◌, subst, inr, arith}
use Rattle.fault.specs.declared.Fault.{Fault}
use Rattle.words.specs.declared.draws.Drawn.{Drawn}
use Rattle.pairing.specs.Reservoir.{Reservoir, store, width, with}
use Rattle.pairing.specs.Steps.{counts_of, width_at, filled_at, after_store, CanCall}
use Rattle.pairing.specs.declared.Effect.{Effect}
use Rattle.pairing.specs.declared.counts.Counts.{Counts}
use Rattle.pairing.proofs.Following.{follow}
use Rattle.pairing.proofs.Keeping.{Way, pairs_in, pairs_out, fills, replaces, passes, way}
use Rattle.pairing.proofs.Lawfulness.{possible}
use Rattle.journal.specs.Header.{pending_bytes}
use Rattle.journal.specs.Writes.{write_at, commit_writes}
use Rattle.journal.specs.declared.Write.{Write}
use Rattle.journal.specs.declared.headers.Pending.{Pending}
use Rattle.journal.specs.declared.headers.PendingCall.TheVariants as pending
use Rattle.layout.specs.Laws.{Storable}
use Rattle.layout.specs.Layout.{Laid, head_of, stock_block, slot_bytes, content}
use Rattle.layout.specs.Reading.{in_set}
use Rattle.plans.specs.Plans.{StoreAnswer, and_then, store_block, stock_block_of, filled_slot, storing}
use Rattle.reader.specs.Reads.{Finds}
use Rattle.reader.specs.declared.Found.{Found}
use Rattle.register.specs.Stores.{slotted, draw_at, Stepped, Accepts, drawn_plan}
use Rattle.register.proofs.StoreContents.{store_block_low, store_block_high, head_after, stock_after_lem, slots_after_lem}

some_width : {m n c1 c2 d w : ℕ} {e : Effect} → Way m n c1 c2 d w e → 0 < w
some_width (pairs_in some low) = some
some_width (pairs_out some high) = some
some_width (fills none free) = omega arith
some_width (replaces none full low) = omega arith
some_width (passes none full high) = omega arith

module _ {X : Type 0} (code : ℕ) (form : X → List ℕ) (f : Found) (r : Reservoir X) (storable : Storable r)
    (finds : Finds f r) (number : ℕ) (accepts : Accepts r number) (item : X) where
  abbrev n : Counts
  n = f.counters.counts

  same : n ≡ counts_of r
  same = finds.counts

  -- no draw
  pub undrawn :
      (words : ℕ → Option ℕ) (x : Fault) → (CanCall n → width_at n ≤ 32768 → draw_at words n ≡ Err x) →
      drawn_plan code form r number item words ≡ Err x
  undrawn words x told =
      let fits : width r ≤ 32768 =
      ((possible X).store_possible r storable.lawful number (record { value = 0; used = 0 }) accepts.early accepts.low
      accepts.outside (some_width (way r.capacity r.size r.c1 r.c2 0)) (omega arith)).1 in
      ap (λ a. and_then a (λ z. Ok (storing code form r number item z))) (
      ap (draw_at words) (sym same) ∙ told (subst CanCall (sym same) accepts.early) (subst (λ m. width_at m ≤ 32768) (sym same) fits))

  module _ (drawn : Drawn) where
    abbrev next : Reservoir X
    next = store r number item drawn.value drawn.used

    -- the block of its slot
    abbrev target : ℕ
    target = store_block (filled_slot r drawn)

    filled : (before : Counts) → before ≡ n → filled_at before drawn.value ≡ filled_slot r drawn
    filled before e = ap (λ m. filled_at m drawn.value) (e ∙ same) ∙ sym ((follow X).slot_follows r drawn.value)

    pub slot_changed :
        (sized : (x : X) → length (form x) ≡ 60) → (before : Counts) → before ≡ n → (o : Option ℕ) (new : List ℕ) (a : Result Write Fault) →
        o ≡ filled_at before drawn.value → new ≡ slot_bytes form (record { number = number; item = item }) →
        (Laid (store_block o) → a ≡ Ok (write_at (store_block o) (slotted (content code form r (store_block o)) o new))) →
        a ≡ Ok (write_at target (content code form next target))
    slot_changed sized before from o new a e bytes told =
        let lawful = storable.lawful in
        let is : o ≡ filled_slot r drawn = e ∙ filled before from in
        let low = store_block_low r lawful drawn in
        let laid : Laid target = inr (omega (arith, store_block_high (filled_slot r drawn)), omega (arith, low)) in
        told (subst (λ z. Laid (store_block z)) (sym is) laid)
        ∙ (λ i. Ok (write_at (store_block (is i)) (slotted (content code form r (store_block (is i))) (is i) (bytes i))))
        ∙ ap (λ xs. Ok (write_at target xs)) (slots_after_lem code form sized r lawful number item drawn)

    -- the plan, where these are the step, the answer, the header and the changes
    pub planned :
        (words : ℕ → Option ℕ) (before after : Counts) (w : ℕ) (a : StoreAnswer) (h : Pending) (s : Write) (cs : List Write) →
        Stepped words n before after w drawn → a ≡ (after.calls, w, drawn.value, filled_at before drawn.value) →
        h ≡ record {
          call = pending.Store w drawn.value drawn.used;
          number = number;
          calls = after.calls;
          words = before.words;
          blocks = s.block ∷ s.block ∷ stock_block_of number ∷ 0 ∷ [];
        } →
        s ≡ write_at target (content code form next target) →
        (number < 32768 →
        cs
        ≡ s ∷ s ∷ write_at (stock_block_of number) (stock_block (with (in_set f.stock.bytes) number) (number / 4096))
        ∷ write_at 0 (head_of code after) ∷ []) →
        drawn_plan code form r number item words ≡ Ok (record { answer = a; writes = commit_writes 2 (pending_bytes h) cs })
    unfolding storing
    planned words before after w a h s cs step aIs hIs sIs csIs =
        let b : counts_of r ≡ before = sym (step.from ∙ same) in
        let to : after_store (counts_of r) drawn ≡ after = sym (step.to ∙ ap (λ m. after_store m drawn) same) in
        let ws : width r ≡ w = sym (step.wide ∙ ap width_at same) in
        let os : filled_slot r drawn ≡ filled_at before drawn.value = sym (filled before step.from) in
        let ss : write_at target (content code form next target) ≡ s = sym sIs in
        let stock : content code form next (stock_block_of number) ≡ stock_block (with (in_set f.stock.bytes) number) (number / 4096) =
        sym (
        ap (λ z. stock_block (with z number) (number / 4096)) (λ i p. finds.stock p i)
        ∙ stock_after_lem code form r number item drawn.value drawn.used accepts.low) in
        let head : content code form next 0 ≡ head_of code after = sym (head_after code form r number item drawn) ∙ ap (head_of code) to in
        ap (λ z. and_then z (λ x. Ok (storing code form r number item x))) (ap (draw_at words) (sym same) ∙ step.draws)
        ∙ (λ i. Ok (record {
          answer = ((to i).calls, ws i, drawn.value, os i);
          writes = commit_writes 2
              (pending_bytes (record {
                call = pending.Store (ws i) drawn.value drawn.used;
                number = number;
                calls = (to i).calls;
                words = (b i).words;
                blocks = (ss i).block ∷ (ss i).block ∷ stock_block_of number ∷ 0 ∷ [];
              }))
              (ss i ∷ ss i ∷ write_at (stock_block_of number) (stock i) ∷ write_at 0 (head i) ∷ []);
        }))
        ∙ (λ i. Ok (record { answer = sym aIs i; writes = commit_writes 2 (pending_bytes (sym hIs i)) (sym (csIs accepts.low) i) }))
