-- A Make is whole, or leaves nothing that Open could find.
-- Assumes nothing.
use Rattle.std.proofs.Common.{◌≡◌, ℕ, suc, ◌<◌, ◌≤◌, true, false, ◌⊎◌, List, Some, None, Err, Option, Result, sym, refl, ap, ◌∙◌, subst, inl, inr, ⊎_elim, arith}
use Rattle.std.proofs.lemmas.Bool.{cases_Bool}
use Rattle.fault.specs.Refusals.{not_register, number_of}
use Rattle.fault.specs.declared.Damage.TheVariants as damage
use Rattle.fault.specs.declared.Fault.{Fault}
use Rattle.device.specs.Disk.{Entry, Disk, entry_at}
use Rattle.octets.specs.Zeros.{zeros}
use Rattle.pairing.specs.Ranges.{no_counts}
use Rattle.pairing.specs.Reservoir.{empty}
use Rattle.pairing.proofs.Lawfulness.{empty_lawful}
use Rattle.journal.specs.Header.{free_bytes, header_of}
use Rattle.journal.specs.declared.headers.Header.{Header}
use Rattle.journal.specs.declared.headers.Header.TheVariants as header
use Rattle.layout.specs.Laws.{Storable}
use Rattle.layout.specs.Layout.{head_of, content, Laid}
use Rattle.std.specs.Option.{option_or}
use Rattle.layout.specs.Reading.{decode, fault_in, head_fault, readable, bytes_of, block_fault, unless, unless_fault}
use Rattle.plans.specs.Plans.{make_writes, found}
use Rattle.plans.specs.Recovery.{Rests, Makes}
use Rattle.plans.proofs.EmptyLayout.{empty_head, empty_rest}
use Rattle.plans.proofs.Finds.{free_reads, unreadable_reads, pending_targets, found_in, found_is, pending_same}
use Rattle.plans.proofs.MakeRuns.{all_whole, all_cut, Headless, Cut, unchanged, headless, freed}

-- ---- blocks without a head

-- refused with a 3
abbrev Third : {A : Type 0} → Result A Fault → Type 0
Third r = (f : Fault) × (r ≡ Err f) × (number_of f ≡ 3)

third_same : {A : Type 0} {r s : Result A Fault} → r ≡ s → Third s → Third r
third_same e w = (w.0, e ∙ w.1, w.2)

zeros_fault : (code n : ℕ) → head_fault code (zeros (suc n)) ≡ Some (not_register 0 damage.Mark)
unfolding head_fault
zeros_fault code n = refl

module _ {A : Type 0} (a later : Option Fault) (x : A) (f : Fault) where
  first_fault : a ≡ Some f → unless_fault (option_or a later) x ≡ Err f
  first_fault e = ap (λ o. unless_fault (option_or o later) x) e

  second_fault : (before : Option Fault) → before ≡ None → a ≡ Some f → unless_fault (option_or before (option_or a later)) x ≡ Err f
  second_fault before e h = λ i. unless_fault (option_or (e i) (option_or (h i) later)) x

module _ {X : Type 0} (code : ℕ) (reading : List ℕ → Option X) where
  unreadable_head : (blocks : ℕ → Entry) → readable (blocks 0) ≡ false → Third (decode code reading blocks)
  unfolding decode fault_in
  unreadable_head blocks e =
      let fault = not_register 0 damage.Unreadable in
      (fault, first_fault (block_fault blocks 0) _ _ fault (ap (λ t. unless t 0 damage.Unreadable) e), refl)

  unmarked_head :
      (blocks : ℕ → Entry) → readable (blocks 0) ≡ true → head_fault code (bytes_of (blocks 0)) ≡ Some (not_register 0 damage.Mark) →
      Third (decode code reading blocks)
  unfolding decode fault_in
  unmarked_head blocks r e =
      let none : block_fault blocks 0 ≡ None = ap (λ t. unless t 0 damage.Unreadable) r in
      let fault = not_register 0 damage.Mark in
      (fault, second_fault (head_fault code (bytes_of (blocks 0))) _ _ fault (block_fault blocks 0) none e, refl)

  no_head : (blocks : ℕ → Entry) → Headless (zeros 512) (blocks 0) → Third (decode code reading blocks)
  no_head blocks (inl e) =
      ⊎_elim
      (λ r. unmarked_head blocks r (ap (λ x. head_fault code (bytes_of x)) e ∙ zeros_fault code 511))
      (λ r. unreadable_head blocks r)
      (cases_Bool (readable (blocks 0)))
  no_head blocks (inr e) = unreadable_head blocks (ap readable e)

  -- with a header that lets Open read the blocks as they are
  no_register :
      (d : Disk) → Headless (zeros 512) (entry_at d 0) →
      found_in code reading (entry_at d) (header_of (entry_at d 1)) ≡ decode code reading (entry_at d) → Third (found code reading d)
  no_register d h e = third_same (found_is code reading d ∙ e) (no_head (entry_at d) h)

  -- ---- a Make that was cut

  abbrev NothingNew : Disk → Disk → Type 0
  NothingNew d d' = (found code reading d' ≡ found code reading d) ⊎ Third (found code reading d')

  same_found :
      (d d' : Disk) → found_in code reading (entry_at d') (header_of (entry_at d' 1)) ≡ found_in code reading (entry_at d) (header_of (entry_at d 1)) →
      NothingNew d d'
  same_found d d' e = inl (found_is code reading d' ∙ e ∙ sym (found_is code reading d))

  -- block 0 alone has changed
  headless_found :
      (d d' : Disk) → Headless (zeros 512) (entry_at d' 0) → ((b : ℕ) → 1 ≤ b → entry_at d' b ≡ entry_at d b) → (h : Header) →
      header_of (entry_at d' 1) ≡ h → header_of (entry_at d 1) ≡ h → NothingNew d d'
  headless_found d d' less same header.Free e f = inr (no_register d' less (ap (found_in code reading (entry_at d')) e))
  headless_found d d' less same header.Unreadable e f = inr (no_register d' less (ap (found_in code reading (entry_at d')) e))
  headless_found d d' less same (header.Pending p) e f =
      same_found d d'
      (ap (found_in code reading (entry_at d')) e
      ∙ pending_same code reading (entry_at d) (entry_at d') same p (pending_targets p (entry_at d 1) f)
      ∙ ap (found_in code reading (entry_at d)) (sym f))
  headless_found d d' less same header.Unlawful e f =
      same_found d d' (ap (found_in code reading (entry_at d')) e ∙ ap (found_in code reading (entry_at d)) (sym f))
  headless_found d d' less same header.Other e f =
      same_found d d' (ap (found_in code reading (entry_at d')) e ∙ ap (found_in code reading (entry_at d)) (sym f))

  cut_found : (d d' : Disk) → Cut (zeros 512) free_bytes d d' → NothingNew d d'
  cut_found d d' (unchanged same) =
      same_found d d' (λ i. found_in code reading (λ b. same b i) (header_of (same 1 i)))
  cut_found d d' (headless less same) =
      let others : (b : ℕ) → 1 ≤ b → entry_at d' b ≡ entry_at d b = (λ b h. same b (λ e. omega arith)) in
      headless_found d d' less others (header_of (entry_at d 1)) (ap header_of (others 1 (omega arith))) refl
  cut_found d d' (freed less (inl e)) =
      inr (no_register d' less (ap (found_in code reading (entry_at d')) (ap header_of e ∙ free_reads)))
  cut_found d d' (freed less (inr e)) =
      inr (no_register d' less (ap (found_in code reading (entry_at d')) (ap header_of e ∙ unreadable_reads)))

-- ---- the law

module _ {X : Type 0} (code : ℕ) (form : X → List ℕ) (reading : List ℕ → Option X) where
  empty_storable : (m : ℕ) → 1 ≤ m → m ≤ 512 → Storable {X = X} (empty m)
  empty_storable m low high = record { lawful = empty_lawful m low high; countable = omega arith }

  -- a free header, the head, and zeros
  empty_rests :
      (d : Disk) (m : ℕ) → entry_at d 0 ≡ Some (head_of code (no_counts m)) → entry_at d 1 ≡ Some free_bytes →
      ((b : ℕ) → 6 ≤ b → b < 78 → entry_at d b ≡ Some (zeros 512)) → Rests code form reading d (empty m)
  empty_rests d m head free rest = record { free = ap header_of free ∙ free_reads; holds = held }
    where
      held : (b : ℕ) → Laid b → entry_at d b ≡ Some (content code form (empty m) b)
      held b (inl e) =
          subst (λ b. entry_at d b ≡ Some (content code form (empty m) b)) (sym e) (head ∙ ap Some (sym (empty_head form code m)))
      held b (inr h) = rest b h.0 (omega arith) ∙ ap Some (sym (empty_rest form code m b (omega arith)))

  pub makes : Makes code form reading
  unfolding make_writes
  makes = record {
    done = λ d d' m a es low high room r l.
        let w = all_whole (zeros 512) free_bytes (head_of code (no_counts m)) 6 72 (omega arith) r l in
        (empty_rests d' m w.0 w.1 w.2, empty_storable m low high);
    interrupted = λ d d' m a es low high room r l.
        cut_found code reading d d' (all_cut (zeros 512) free_bytes (head_of code (no_counts m)) 6 72 (omega arith) r l);
  }
