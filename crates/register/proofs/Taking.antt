-- A take that can be made: its answer and its commit are those of the plan.
-- Assumes nothing.
use Rattle.std.proofs.Common.{◌≡◌, ℕ, ◌+◌, ◌-◌, ◌/◌, ◌<◌, Bool, not, ◌&&◌, eqb, List, [], ◌∷◌, map, length, get_or, take, is_some, Some, None, SomeIff, Ok, Option, Result, sym, refl, ap, ◌∙◌, subst, position}
use Rattle.std.specs.Option.{option_map}
use Rattle.fault.specs.declared.Fault.{Fault}
use Rattle.pairing.specs.Reservoir.{Reservoir, taken, slot_of, without}
use Rattle.pairing.specs.Rules.{CanTake, after_take}
use Rattle.pairing.specs.Steps.{counts_of}
use Rattle.pairing.specs.declared.counters.Counters.{Counters}
use Rattle.pairing.specs.declared.counts.Counts.{Counts}
use Rattle.pairing.proofs.Following.{follow}
use Rattle.pairing.proofs.Lawfulness.{possible}
use Rattle.journal.specs.Header.{pending_bytes}
use Rattle.journal.specs.Writes.{write_at, commit_writes}
use Rattle.journal.specs.declared.Write.{Write}
use Rattle.journal.specs.declared.headers.Pending.{Pending}
use Rattle.journal.specs.declared.headers.PendingCall.TheVariants as pending
use Rattle.layout.specs.Laws.{Storable}
use Rattle.layout.specs.Layout.{head_of, stock_block, content}
use Rattle.layout.specs.Reading.{in_set}
use Rattle.plans.specs.Plans.{Plan, TakeAnswer, stock_block_of, changes_to, take_targets, taking}
use Rattle.reader.specs.Reads.{Finds}
use Rattle.reader.specs.declared.Found.{Found}
use Rattle.register.specs.Takes.{slot_targets, Allowed}
use Rattle.register.proofs.Places.{position_is}
use Rattle.register.proofs.TakeContents.{content_head, content_without}

-- the counters after a call: that there are some, and that there are none
pub some_after :
    (o : Option Counters) (P : Type 0) (n : Counts) (x : Counters) → SomeIff (option_map (λ c. c.counts) o) P n → o ≡ Some x → x.counts ≡ n
some_after o P n x told is = (subst (λ o. SomeIff (option_map (λ c. c.counts) o) P n) is told).1

pub none_after : (o : Option Counters) (P : Type 0) (n : Counts) → SomeIff (option_map (λ c. c.counts) o) P n → o ≡ None → P → ⊥
none_after o P n told is = subst (λ o. SomeIff (option_map (λ c. c.counts) o) P n) is told

-- where an array of two has none
abbrev no_write : Write
no_write = record { block = 0; bytes = [] }

module _ {X : Type 0} (code : ℕ) (form : X → List ℕ) (next : Reservoir X) (number : ℕ) where
  abbrev change : ℕ → Write
  change b = write_at b (content code form next b)

  four_changes :
      (o : Option ℕ) (k : ℕ) (slots : List Write) (stock head : Write) → slots ≡ changes_to code form next (slot_targets o (k - 1)) →
      stock ≡ change (stock_block_of number) → head ≡ change 0 →
      get_or slots 0 no_write ∷ get_or slots 1 no_write ∷ stock ∷ head ∷ [] ≡ changes_to code form next (take_targets o k number)
  four_changes (Some h) k slots stock head a b c = λ i. get_or (a i) 0 no_write ∷ get_or (a i) 1 no_write ∷ b i ∷ c i ∷ []
  four_changes None k slots stock head a b c = λ i. get_or (a i) 0 no_write ∷ get_or (a i) 1 no_write ∷ b i ∷ c i ∷ []

  four_blocks : (o : Option ℕ) (k : ℕ) → map (λ w. w.block) (changes_to code form next (take_targets o k number)) ≡ take_targets o k number
  four_blocks (Some h) k = refl
  four_blocks None k = refl

calls_after : {X : Type 0} (r : Reservoir X) (number : ℕ) → (counts_of (taken r number)).calls ≡ r.calls + 1
unfolding taken
calls_after r number = refl

pub slot_is :
    {X : Type 0} (f : Found) (r : Reservoir X) (number : ℕ) → Finds f r → (o : Option ℕ) →
    o ≡ position (λ n. eqb n number) (take f.counters.counts.sampled f.sampled.numbers) → o ≡ slot_of r.slots number
slot_is f r number finds o is =
    is
    ∙ ap (λ n. position (λ m. eqb m number) (take n.sampled f.sampled.numbers)) finds.counts
    ∙ ap (position (λ n. eqb n number)) finds.numbers
    ∙ position_is number r.slots

module _ {X : Type 0} (code : ℕ) (form : X → List ℕ) (sized : (x : X) → length (form x) ≡ 60) (f : Found) (r : Reservoir X) (number : ℕ)
    (finds : Finds f r) where
  stock_is :
      number < 32768 → (after : ℕ → Bool) → ((p : ℕ) → after p ≡ without (in_set f.stock.bytes) number p) → (w : Write) →
      w ≡ write_at (stock_block_of number) (stock_block after (number / 4096)) →
      w ≡ write_at (stock_block_of number) (content code form (taken r number) (stock_block_of number))
  stock_is low after removed w is =
      is
      ∙ ap (write_at (stock_block_of number))
      (content_without code form sized r number after low (λ p. removed p ∙ ap (λ b. not (eqb p number) && b) (finds.stock p)))

  module _ (o : Option ℕ) (slot : o ≡ slot_of r.slots number) where
    -- the counters allow it
    pub take_can : Storable r → Allowed r number → CanTake (is_some o) f.counters.counts
    take_can ok can =
        let law = (possible X).take_possible r ok.lawful number can.early can.inside in
        subst (λ n. CanTake (is_some o) n) (sym finds.counts) (subst (λ p. CanTake (is_some p) (counts_of r)) (sym slot) law)

    counts_after : (n : Counts) → n ≡ after_take (is_some o) f.counters.counts → n ≡ counts_of (taken r number)
    counts_after n is =
        is ∙ (λ i. after_take (is_some (slot i)) (finds.counts i)) ∙ sym ((follow X).take_follows r number)

    pub took :
        Allowed r number → (n : Counts) (slots : List Write) (left : ℕ → Bool) (stock head : Write) (header : Pending) (after : Counts) →
        n ≡ after_take (is_some o) f.counters.counts →
        slots ≡ changes_to code form (taken r number) (slot_targets o (length r.slots - 1)) →
        ((p : ℕ) → left p ≡ without (in_set f.stock.bytes) number p) →
        stock ≡ write_at (stock_block_of number) (stock_block left (number / 4096)) →
        head ≡ write_at 0 (head_of code n) →
        header
        ≡ record {
          call = pending.Take;
          number = number;
          calls = f.counters.counts.calls + 1;
          words = f.counters.counts.words;
          blocks = (get_or slots 0 no_write).block ∷ (get_or slots 1 no_write).block ∷ stock.block ∷ head.block ∷ [];
        } →
        after ≡ n →
        ◌≡◌ {A = Result (Plan TakeAnswer) Fault}
        (Ok (taking code form r number))
        (Ok (record {
          answer = (after.calls, o);
          writes = commit_writes 2 (pending_bytes header) (get_or slots 0 no_write ∷ get_or slots 1 no_write ∷ stock ∷ head ∷ []);
        }))
    unfolding taking
    took can n slots left stock head header after counts two removed third fourth is same =
        let now = counts_after n counts in
        let k = length r.slots in
        let next = taken r number in
        let changes : get_or slots 0 no_write ∷ get_or slots 1 no_write ∷ stock ∷ head ∷ [] ≡ changes_to code form next (take_targets (slot_of r.slots number) k number) =
        four_changes code form next number o k slots stock head two (stock_is can.low left removed stock third)
        (fourth ∙ ap (λ m. write_at 0 (head_of code m)) now ∙ ap (write_at 0) (sym (content_head code form next)))
        ∙ ap (λ p. changes_to code form next (take_targets p k number)) slot in
        let blocks = ap (map (λ (w : Write). w.block)) changes ∙ four_blocks code form next number (slot_of r.slots number) k in
        let headers : header ≡ record {
          call = pending.Take;
          number = number;
          calls = r.calls + 1;
          words = r.words;
          blocks = take_targets (slot_of r.slots number) k number;
        } =
        is ∙ (λ i. record { call = pending.Take; number = number; calls = (finds.counts i).calls + 1; words = (finds.counts i).words; blocks = blocks i }) in
        let calls : after.calls ≡ r.calls + 1 = ap (λ m. m.calls) (same ∙ now) ∙ calls_after r number in
        sym (λ i. Ok (record { answer = (calls i, slot i); writes = commit_writes 2 (pending_bytes (headers i)) (changes i) }))
