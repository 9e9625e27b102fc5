-- Laying out and reading are each other's inverse.
-- Assumes nothing.
use Rattle.std.proofs.Common.{◌≡◌, ℕ, ◌+◌, ◌-◌, ◌/◌, ◌^◌, ◌<◌, ◌≤◌, true, eqb, ltb, ◌⊎◌, List, length, Some, None, Ok, Option, sym, refl, ap, ◌∙◌, subst, inl, inr, ⊎_elim, zero-add, arith}
use Rattle.std.proofs.lemmas.Bool.{cond-true, cond-false, lt-ltb, le-ltb, ne_eqb, eq-eqb, eqb-true, cases_lt, both_ways}
use Rattle.fault.specs.declared.Damage.TheVariants as damage
use Rattle.octets.specs.Zeros.{every}
use Rattle.pairing.specs.Ranges.{Ranges}
use Rattle.pairing.specs.Reservoir.{Reservoir}
use Rattle.pairing.specs.Rules.{count_below}
use Rattle.pairing.specs.Steps.{counts_of}
use Rattle.pairing.specs.declared.counts.Counts.{Counts}
use Rattle.layout.specs.Layout.{head_of, stock_block, slot_at, slot_block, content, Holds}
use Rattle.layout.specs.Laws.{Storable, ReadsBack, ReadsExactly}
use Rattle.std.specs.Option.{option_or}
use Rattle.layout.specs.Reading.{unless, first_of, unless_fault, is_block, bytes_of, block_fault, counts_in, head_fault, stock_in, in_set, ones_in, slot_in, slots_fault, fault_in, slots_in, spelled, decode}
use Rattle.layout.proofs.Faults.{or_else_parts, or_else_none, unless_passes, unless_none, first_of_each, first_of_none, ok_none, block_read, block_reads}
use Rattle.layout.proofs.HeadLaws.{head_is_block, head_reads, head_exact}
use Rattle.layout.proofs.SlotLaws.{slot_block_is_block, slot_in_block, number_of, numbers_have, slots_read, slots_fault_none, SlotsExact, slots_exact}
use Rattle.layout.proofs.StockLaws.{stock_is_block, stock_reads, stock_there_exact, stock_there_counted, stock_there_below}
use Rattle.device.specs.Disk.{Entry}

-- ---- the bytes of each block

module _ {X : Type 0} (code : ℕ) (form : X → List ℕ) (r : Reservoir X) where
  content_head : content code form r 0 ≡ head_of code (counts_of r)
  unfolding content
  content_head = refl

  content_stock : (j : ℕ) → j < 8 → content code form r (6 + j) ≡ stock_block r.stock j
  unfolding content
  content_stock j h =
      cond-false (eqb (6 + j) 0) _ _ (ne_eqb (6 + j) 0 (λ e. omega arith))
      ∙ cond-true (ltb (6 + j) 14) _ _ (lt-ltb (6 + j) 14 (omega arith))
      ∙ ap (stock_block r.stock) (omega arith)

  content_slots : (j : ℕ) → content code form r (14 + j) ≡ slot_block form r.slots j
  unfolding content
  content_slots j =
      cond-false (eqb (14 + j) 0) _ _ (ne_eqb (14 + j) 0 (λ e. omega arith))
      ∙ cond-false (ltb (14 + j) 14) _ _ (le-ltb (14 + j) 14 (omega arith))
      ∙ ap (slot_block form r.slots) (omega arith)

-- the blocks that hold a reservoir, part by part
pub record Parts {X : Type 0} (code : ℕ) (form : X → List ℕ) (blocks : ℕ → Entry) (r : Reservoir X) : Type 0 where
  pub head : blocks 0 ≡ Some (head_of code (counts_of r))
  pub stock : (j : ℕ) → j < 8 → blocks (6 + j) ≡ Some (stock_block r.stock j)
  pub slots : (j : ℕ) → j < 64 → blocks (14 + j) ≡ Some (slot_block form r.slots j)

pub parts_held : {X : Type 0} (code : ℕ) (form : X → List ℕ) (blocks : ℕ → Entry) (r : Reservoir X) → Holds code form blocks r → Parts code form blocks r
parts_held code form blocks r h = record {
  head = h 0 (inl refl) ∙ ap Some (content_head code form r);
  stock = λ j l. h (6 + j) (inr (omega arith, omega arith)) ∙ ap Some (content_stock code form r j l);
  slots = λ j l. h (14 + j) (inr (omega arith, omega arith)) ∙ ap Some (content_slots code form r j);
}

pub held_parts : {X : Type 0} (code : ℕ) (form : X → List ℕ) (blocks : ℕ → Entry) (r : Reservoir X) → Parts code form blocks r → Holds code form blocks r
held_parts code form blocks r p b (inl z) =
    ap blocks z ∙ p.head ∙ ap Some (sym (content_head code form r)) ∙ ap (λ n. Some (content code form r n)) (sym z)
held_parts code form blocks r p b (inr l) =
    ⊎_elim
    (λ s.
    let is : 6 + (b - 6) ≡ b = omega arith in
    ap blocks (sym is) ∙ p.stock (b - 6) (omega arith) ∙ ap Some (sym (content_stock code form r (b - 6) (omega arith))) ∙ ap (λ n. Some (content code form r n)) is)
    (λ s.
    let is : 14 + (b - 14) ≡ b = omega arith in
    ap blocks (sym is) ∙ p.slots (b - 14) (omega arith) ∙ ap Some (sym (content_slots code form r (b - 14))) ∙ ap (λ n. Some (content code form r n)) is)
    (cases_lt b 14)

-- no fault at all, part by part
pub record Clean {X : Type 0} (code : ℕ) (reading : List ℕ → Option X) (blocks : ℕ → Entry) : Type 0 where
  pub first : block_fault blocks 0 ≡ None
  pub head : head_fault code (bytes_of (blocks 0)) ≡ None
  pub stock : (j : ℕ) → j < 8 → block_fault blocks (6 + j) ≡ None
  pub counted : ones_in (stock_in blocks) ≡ (counts_in (bytes_of (blocks 0))).size
  pub slots : first_of (slots_fault reading blocks (counts_in (bytes_of (blocks 0))).sampled) 0 64 ≡ None

fault_none : {X : Type 0} (code : ℕ) (reading : List ℕ → Option X) (blocks : ℕ → Entry) → Clean code reading blocks → fault_in code reading blocks ≡ None
unfolding fault_in
fault_none code reading blocks c =
    or_else_none _ _ c.first
    (or_else_none _ _ c.head
    (or_else_none _ _ (first_of_none (block_fault blocks) 6 8 c.stock)
    (or_else_none _ _ (unless_none (eqb (ones_in (stock_in blocks)) (counts_in (bytes_of (blocks 0))).size) 6 damage.Disagreement (eq-eqb _ _ c.counted))
    c.slots)))

none_fault : {X : Type 0} (code : ℕ) (reading : List ℕ → Option X) (blocks : ℕ → Entry) → fault_in code reading blocks ≡ None → Clean code reading blocks
unfolding fault_in
none_fault code reading blocks h =
    let n = counts_in (bytes_of (blocks 0)) in
    let test = unless (eqb (ones_in (stock_in blocks)) n.size) 6 damage.Disagreement in
    let slots = first_of (slots_fault reading blocks n.sampled) 0 64 in
    let a = or_else_parts (block_fault blocks 0) (option_or (head_fault code (bytes_of (blocks 0))) (option_or (first_of (block_fault blocks) 6 8) (option_or test slots))) h in
    let b = or_else_parts (head_fault code (bytes_of (blocks 0))) (option_or (first_of (block_fault blocks) 6 8) (option_or test slots)) a.1 in
    let c = or_else_parts (first_of (block_fault blocks) 6 8) (option_or test slots) b.1 in
    let d = or_else_parts test slots c.1 in
    record {
      first = a.0;
      head = b.0;
      stock = first_of_each (block_fault blocks) 6 8 c.0;
      counted = eqb-true _ _ (unless_passes (eqb (ones_in (stock_in blocks)) n.size) 6 damage.Disagreement d.0);
      slots = d.1;
    }

-- ---- the laws of a kind's reservoirs

module _ {X : Type 0} (code : ℕ) (form : X → List ℕ) (reading : List ℕ → Option X) (known : (code ≡ 1) ⊎ (code ≡ 2))
    (sized : (x : X) → length (form x) ≡ 60) (bounded : (x : X) → every (λ b. ltb b 256) (form x) ≡ true)
    (round : (x : X) → reading (form x) ≡ Some x) (exact : (s : List ℕ) (x : X) → reading s ≡ Some x → s ≡ form x) where
  -- a reservoir that is laid out
  module _ (blocks : ℕ → Entry) (r : Reservoir X) (storable : Storable r) (parts : Parts code form blocks r) where
    few : length r.slots ≤ 512
    few = let l = storable.lawful.ranges in omega (arith, l.limits.1, l.sample.0)

    head_bytes : bytes_of (blocks 0) ≡ head_of code (counts_of r)
    head_bytes = ap bytes_of parts.head

    head_law : (head_fault code (head_of code (counts_of r)) ≡ None) × (counts_in (head_of code (counts_of r)) ≡ counts_of r)
    head_law = head_reads code (counts_of r) known storable.lawful.ranges storable.countable

    counts : counts_in (bytes_of (blocks 0)) ≡ counts_of r
    counts = ap counts_in head_bytes ∙ head_law.1

    stock : in_set (stock_in blocks) ≡ r.stock
    stock = stock_reads blocks r.stock storable.lawful.below (λ j h. ap bytes_of (parts.stock j h))

    stock_blocks : (j : ℕ) → j < 8 → is_block (bytes_of (blocks (6 + j))) ≡ true
    stock_blocks j h = ap (λ e. is_block (bytes_of e)) (parts.stock j h) ∙ stock_is_block r.stock j

    sample : (i : ℕ) → i < 512 → slot_in blocks i ≡ slot_at form r.slots i
    sample i h = slot_in_block form sized blocks r.slots i (parts.slots (i / 8) (omega arith))

    in_stock_lem : (j : ℕ) → j < length r.slots → r.stock (number_of r.slots j) ≡ true
    in_stock_lem = numbers_have (λ p. r.stock p ≡ true) r.slots storable.lawful.stocked

    small : (j : ℕ) → j < length r.slots → number_of r.slots j < 32768
    small j h =
        ⊎_elim (λ l. l) (λ l. absurd (both_ways _ (storable.lawful.below _ l) (in_stock_lem j h))) (cases_lt (number_of r.slots j) 32768)

    clean : Clean code reading blocks
    clean = record {
      first = block_reads blocks 0 (head_of code (counts_of r)) parts.head (head_is_block code (counts_of r));
      head = ap (head_fault code) head_bytes ∙ head_law.0;
      stock = λ j h. block_reads blocks (6 + j) (stock_block r.stock j) (parts.stock j h) (stock_is_block r.stock j);
      counted = stock_there_counted blocks stock_blocks ∙ ap (λ s. count_below s 32768) stock ∙ sym storable.lawful.counted ∙ sym (ap (λ n. n.size) counts);
      slots = ap (λ n. first_of (slots_fault reading blocks n.sampled) 0 64) counts
          ∙ slots_fault_none form reading round blocks r.slots sample few small
          (λ j h. ap (λ s. s (number_of r.slots j)) stock ∙ in_stock_lem j h) storable.lawful.distinct
          (λ j h. block_reads blocks (14 + j) (slot_block form r.slots j) (parts.slots j h) (slot_block_is_block form bounded sized r.slots j));
    }

    read_slots : slots_in reading blocks 0 (counts_in (bytes_of (blocks 0))).sampled ≡ r.slots
    read_slots =
        ap (λ n. slots_in reading blocks 0 n.sampled) counts
        ∙ slots_read form reading round blocks r.slots 0 (λ j h. ap (slot_in blocks) (zero-add j) ∙ sample j (omega (arith, few))) small

    reads : spelled reading blocks ≡ r
    unfolding spelled
    reads = λ i. record {
      capacity = (counts i).capacity;
      stock = stock i;
      size = (counts i).size;
      slots = read_slots i;
      c1 = (counts i).c1;
      c2 = (counts i).c2;
      calls = (counts i).calls;
      words = (counts i).words;
    }

    decodes : decode code reading blocks ≡ Ok r
    unfolding decode
    decodes = λ i. unless_fault (fault_none code reading blocks clean i) (reads i)

  pub reads_back : ReadsBack code form reading
  reads_back blocks r storable holds = decodes blocks r storable (parts_held code form blocks r holds)

  -- blocks without a fault
  module _ (blocks : ℕ → Entry) (clean : Clean code reading blocks) where
    abbrev numbers : Counts
    numbers = counts_in (bytes_of (blocks 0))

    abbrev found : Reservoir X
    found = spelled reading blocks

    first_block : (blocks 0 ≡ Some (bytes_of (blocks 0))) × (is_block (bytes_of (blocks 0)) ≡ true)
    first_block = block_read blocks 0 clean.first

    laid_head : (bytes_of (blocks 0) ≡ head_of code numbers) × Ranges numbers × (numbers.calls < 2 ^ 32)
    laid_head = head_exact code (bytes_of (blocks 0)) first_block.1 clean.head

    laid_slots : SlotsExact form blocks numbers.sampled (slots_in reading blocks 0 numbers.sampled)
    laid_slots =
        let l : Ranges numbers = laid_head.1 in
        slots_exact form reading sized exact blocks numbers.sampled (omega (arith, l.limits.1, l.sample.0)) clean.slots

    are : (j : ℕ) → j < 8 → is_block (bytes_of (blocks (6 + j))) ≡ true
    are j h = (block_read blocks (6 + j) (clean.stock j h)).1

    -- the numbers of the reservoir are those of the head
    found_counts : numbers ≡ counts_of found
    unfolding spelled
    found_counts = λ i. record {
      capacity = numbers.capacity;
      size = numbers.size;
      sampled = sym laid_slots.count i;
      c1 = numbers.c1;
      c2 = numbers.c2;
      calls = numbers.calls;
      words = numbers.words;
    }

    found_storable : Storable found
    unfolding spelled
    found_storable = record {
      lawful = record {
        ranges = subst Ranges found_counts laid_head.1;
        distinct = laid_slots.distinct;
        stocked = laid_slots.stocked;
        below = stock_there_below blocks are;
        counted = sym clean.counted ∙ stock_there_counted blocks are;
      };
      countable = laid_head.2;
    }

    found_parts : Parts code form blocks found
    unfolding spelled
    found_parts = record {
      head = first_block.0 ∙ ap Some (laid_head.0 ∙ ap (head_of code) found_counts);
      stock = λ j h. (block_read blocks (6 + j) (clean.stock j h)).0 ∙ ap Some (stock_there_exact blocks are j h);
      slots = laid_slots.laid;
    }

  pub reads_exactly : ReadsExactly code form reading
  unfolding decode
  reads_exactly blocks r h =
      let p = ok_none (fault_in code reading blocks) (spelled reading blocks) r h in
      let clean = none_fault code reading blocks p.0 in
      subst (λ r. Storable r × Holds code form blocks r) p.1
      (found_storable blocks clean, held_parts code form blocks (spelled reading blocks) (found_parts blocks clean))
