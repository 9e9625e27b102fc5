-- Lemmas on reading a whole register: each fault in its turn, and what is found.
use Rattle.std.proofs.Common.{◌≡◌, ℕ, zero, suc, ◌<◌, ◌≤◌, min, ◌&&◌, eqb, List, [], ◌∷◌, map, length, get_or, take, IsErrAnd, Some, None, Ok, Err, Option, Result, sym, refl, ap, ◌∙◌, subst, arith}
use Rattle.std.proofs.lemmas.List.{get_or-take, length-map, length-take-le}
use Rattle.std.proofs.lemmas.Bool.{eq-eqb, ne_eqb}
use Rattle.fault.specs.Refusals.{not_register}
use Rattle.fault.specs.declared.Damage.TheVariants as damage
use Rattle.fault.specs.declared.Fault.{Fault}
use Rattle.pairing.specs.Reservoir.{Slot, Reservoir}
use Rattle.pairing.specs.Rules.{occurs}
use Rattle.pairing.specs.Steps.{counts_of}
use Rattle.pairing.specs.declared.counters.Counters.{Counters}
use Rattle.pairing.specs.declared.counts.Counts.{Counts}
use Rattle.std.specs.Option.{option_or}
use Rattle.layout.specs.Reading.{unless, unless_fault, first_of, block_fault, bytes_of, head_fault, counts_in, ones_in, stock_in, slots_fault, fault_in, spelled, decode, in_set, left_at, slots_in}
use Rattle.layout.proofs.SlotLaws.{SlotsExact, number_of}
use Rattle.reader.specs.Reads.{Gathered, Finds, ReadAs}
use Rattle.reader.proofs.Rests.{no_fault, a_fault, exit_is}
use Rattle.reader.specs.declared.Found.{Found}
use Rattle.device.specs.Disk.{Entry}

module _ {X : Type 0} (code : ℕ) (reading : List ℕ → Option X) (view : ℕ → Entry) where
  abbrev counts : Counts
  counts = counts_in (bytes_of (view 0))

  abbrev slots_fault_lem : Option Fault
  slots_fault_lem = first_of (slots_fault reading view counts.sampled) 0 64

  abbrev stock_fault : Option Fault
  stock_fault = unless (eqb (ones_in (stock_in view)) counts.size) 6 damage.Disagreement

  -- the faults in their order
  whole :
      {a b c d e : Option Fault} → block_fault view 0 ≡ a → head_fault code (bytes_of (view 0)) ≡ b → first_of (block_fault view) 6 8 ≡ c →
      stock_fault ≡ d → slots_fault_lem ≡ e → decode code reading view ≡ unless_fault (option_or a (option_or b (option_or c (option_or d e)))) (spelled reading view)
  unfolding decode fault_in
  whole p q r s t = λ i. unless_fault (option_or (p i) (option_or (q i) (option_or (r i) (option_or (s i) (t i))))) (spelled reading view)

  pub first_lost : (x : Fault) → Err x ≡ unless_fault (block_fault view 0) (bytes_of (view 0)) → decode code reading view ≡ Err x
  first_lost x e = whole (a_fault _ _ x e) refl refl refl refl

  -- the head was read
  pub record HeadRead (n : Counts) : Type 0 where
    pub block : block_fault view 0 ≡ None
    pub head : head_fault code (bytes_of (view 0)) ≡ None
    pub is : n ≡ counts

  module _ (kind : ℕ) (xs : List ℕ) (own : kind ≡ code) (got : Ok xs ≡ unless_fault (block_fault view 0) (bytes_of (view 0))) where
    there : (block_fault view 0 ≡ None) × (xs ≡ bytes_of (view 0))
    there = no_fault _ _ _ got

    pub head_lost : (x : Fault) → Err x ≡ unless_fault (head_fault kind xs) (counts_in xs) → decode code reading view ≡ Err x
    head_lost x e = whole there.0 ((λ i. head_fault (sym own i) (sym there.1 i)) ∙ a_fault _ _ x e) refl refl refl

    pub head_read : (n : Counts) → Ok n ≡ unless_fault (head_fault kind xs) (counts_in xs) → HeadRead n
    head_read n e =
        let ok = no_fault _ _ _ e in
        record {
          block = there.0;
          head = (λ i. head_fault (sym own i) (sym there.1 i)) ∙ ok.0;
          is = ok.1 ∙ ap counts_in there.1;
        }

  pub stock_lost :
      (n : Counts) (x : Fault) → HeadRead n → Err x ≡ unless_fault (first_of (block_fault view) 6 8) (stock_in view) →
      decode code reading view ≡ Err x
  stock_lost n x h e = whole h.block h.head (a_fault _ _ x e) refl refl

  module _ (n : Counts) (h : HeadRead n) (bytes : List ℕ) (got : Ok bytes ≡ unless_fault (first_of (block_fault view) 6 8) (stock_in view)) where
    stock_there : (first_of (block_fault view) 6 8 ≡ None) × (bytes ≡ stock_in view)
    stock_there = no_fault _ _ _ got

    pub stock_is : bytes ≡ stock_in view
    stock_is = stock_there.1

    pub count_lost : (ones_in bytes ≡ n.size → ⊥) → decode code reading view ≡ Err (not_register 6 damage.Disagreement)
    count_lost e =
        whole
        h.block
        h.head
        stock_there.0
        (ap (λ t. unless t 6 damage.Disagreement) (ne_eqb _ _ (λ q. e (ap ones_in stock_there.1 ∙ q ∙ sym (ap (λ m. m.size) h.is)))))
        refl

    module _ (counted : ones_in bytes ≡ n.size) where
      as_counted : stock_fault ≡ None
      as_counted =
          ap (λ t. unless t 6 damage.Disagreement)
          (eq-eqb _ _ (sym (ap ones_in stock_there.1) ∙ counted ∙ ap (λ m. m.size) h.is))

      pub slots_lost : (x : Fault) → first_of (slots_fault reading view n.sampled) 0 64 ≡ Some x → decode code reading view ≡ Err x
      slots_lost x e =
          whole h.block h.head stock_there.0 as_counted
          (sym (ap (λ m. first_of (slots_fault reading view m.sampled) 0 64) h.is) ∙ e)

      pub all_read : first_of (slots_fault reading view n.sampled) 0 64 ≡ None → decode code reading view ≡ Ok (spelled reading view)
      all_read e =
          whole h.block h.head stock_there.0 as_counted
          (sym (ap (λ m. first_of (slots_fault reading view m.sampled) 0 64) h.is) ∙ e)

-- at most 512 slots are in use
pub few_sampled : (n : Counts) (c : Counters) → n ≡ c.counts → n.sampled ≤ 512
few_sampled n c e =
    let same : n.sampled ≡ c.counts.sampled = ap (λ m. m.sampled) e in
    omega (arith, c.limits.1, c.sample.0)

-- the exit of a `?`
pub read_exit :
    {X : Type 0} (decoded : Result (Reservoir X) Fault) (r : Result Found Fault) (x : Fault) → IsErrAnd r (λ y. y ≡ x) → decoded ≡ Err x →
    ReadAs decoded r
read_exit decoded r x h e = subst (ReadAs decoded) (sym (exit_is h)) e

-- ---- what is found

numbers_of : {X : Type 0} (slots : List (Slot X)) (i : ℕ) → get_or (map (λ x. x.number) slots) i 0 ≡ number_of slots i
numbers_of [] i = refl
numbers_of (x ∷ xs) zero = refl
numbers_of (x ∷ xs) (suc i) = numbers_of xs i

same_numbers :
    (xs ys : List ℕ) → length xs ≡ length ys → ((j : ℕ) → j < length xs → get_or xs j 0 ≡ get_or ys j 0) → xs ≡ ys
same_numbers [] [] l h = refl
same_numbers [] (y ∷ ys) l h = absurd (omega arith)
same_numbers (x ∷ xs) [] l h = absurd (omega arith)
same_numbers (x ∷ xs) (y ∷ ys) l h =
    λ i. h 0 (omega arith) i ∷ same_numbers xs ys (omega arith) (λ j k. h (suc j) (omega arith)) i

pub finds :
    {X : Type 0} (form : X → List ℕ) (reading : List ℕ → Option X) (view : ℕ → Entry) (f : Found) → f.counters.counts.sampled ≤ 512 →
    f.counters.counts ≡ counts_in (bytes_of (view 0)) → f.stock.bytes ≡ stock_in view → length f.sampled.numbers ≡ 512 →
    SlotsExact form view f.counters.counts.sampled (slots_in reading view 0 f.counters.counts.sampled) →
    Gathered view f.counters.counts.sampled 512 f.sampled → Finds f (spelled reading view)
unfolding spelled
finds form reading view f few counts stock long exact g = record {
  counts = counts ∙ counts_are;
  stock = λ p. ap (λ xs. in_set xs p) stock;
  unsampled = λ p.
      g.unsampled p
      ∙ ap (λ n. left_at view n p) (all_below few)
      ∙ ap (λ t. in_set (stock_in view) p && t) (exact.left p)
      ∙ ap (λ n. in_set (stock_in view) p && eqb (occurs p (slots_in reading view 0 n)) 0) sampled_is;
  numbers = ap (λ n. take (length (slots_in reading view 0 n)) f.sampled.numbers) (sym sampled_is) ∙ numbers_are ∙ ap (λ n. map (λ x. x.number) (slots_in reading view 0 n)) sampled_is;
}
  where
    sampled_is : f.counters.counts.sampled ≡ (counts_in (bytes_of (view 0))).sampled
    sampled_is = ap (λ m. m.sampled) counts

    all_below : {k : ℕ} → k ≤ 512 → min 512 k ≡ k
    all_below h = omega arith

    counts_are : counts_in (bytes_of (view 0)) ≡ counts_of (spelled reading view)
    counts_are = λ i. record {
      capacity = (counts_in (bytes_of (view 0))).capacity;
      size = (counts_in (bytes_of (view 0))).size;
      sampled = (sym sampled_is ∙ sym exact.count ∙ ap (λ n. length (slots_in reading view 0 n)) sampled_is) i;
      c1 = (counts_in (bytes_of (view 0))).c1;
      c2 = (counts_in (bytes_of (view 0))).c2;
      calls = (counts_in (bytes_of (view 0))).calls;
      words = (counts_in (bytes_of (view 0))).words;
    }

    numbers_are :
        take (length (slots_in reading view 0 f.counters.counts.sampled)) f.sampled.numbers
        ≡ map (λ x. x.number) (slots_in reading view 0 f.counters.counts.sampled)
    numbers_are =
        same_numbers
        _
        _
        (length-take-le _ _ (omega (arith, exact.count)) ∙ sym (length-map _ (λ x. x.number)))
        (λ j h.
        let below : j < length (slots_in reading view 0 f.counters.counts.sampled) =
        omega (arith, length-take-le (length (slots_in reading view 0 f.counters.counts.sampled)) f.sampled.numbers (omega (arith, exact.count))) in
        get_or-take _ f.sampled.numbers j 0 below
        ∙ g.numbers j (omega (arith, exact.count))
        ∙ exact.numbers j below
        ∙ sym (numbers_of _ j))
