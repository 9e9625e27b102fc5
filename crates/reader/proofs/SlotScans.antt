-- Lemmas on reading the slots, one after the other.
use Rattle.std.proofs.Common.{◌≡◌, ℕ, suc, ◌+◌, ◌*◌, ◌/◌, ◌%◌, ◌<◌, ◌≤◌, min, Bool, true, false, not, ◌&&◌, ◌||◌, eqb, ◌⊎◌, List, length, get_or, take, drop, set, IsErrAnd, Some, None, Ok, Err, Option, Result, sym, refl, ap, ◌∙◌, subst, inl, inr, arith, MatchResult}
use Rattle.std.proofs.lemmas.List.{get_or-set_same, get_or-set_other}
use Rattle.std.proofs.lemmas.Bool.{cond-true, cond-false, lt-ltb, le-ltb, eq-eqb, ne_eqb, eqb-true, eqb-false, cases_eq, and_right, or_left, not_from_true}
use Rattle.fault.specs.declared.Damage.TheVariants as damage
use Rattle.fault.specs.declared.Fault.{Fault}
use Rattle.pairing.specs.Reservoir.{without}
use Rattle.octets.specs.Numbers.{number_at}
use Rattle.std.specs.Option.{option_or}
use Rattle.layout.specs.Reading.{unless_fault, first_of, used_fault, unused_fault, slot_fault, slot_in, number_in, left_at, earlier, in_set, stock_in, bytes_of, block_fault, slots_fault, unless, readable}
use Rattle.reader.specs.Reads.{Gathered, SlotsRead}
use Rattle.reader.proofs.Rests.{no_fault, a_fault, err_not_ok, exit_is, Rest, rest_none, rest_more, rest_stops, rest_all}
use Rattle.reader.specs.declared.slots.Sampled.{Sampled}
use Rattle.device.specs.Disk.{Entry}

pub slots_exit :
    {view : ℕ → Entry} {k next : ℕ} {fault : Option Fault} {r : Result (Unit {0}) Fault} {s : Sampled} {x : Fault} →
    IsErrAnd r (λ y. y ≡ x) → SlotsRead view k next fault (Err x) s → SlotsRead view k next fault r s
slots_exit {view} {k} {next} {fault} {r} {s} h read = subst (λ a. SlotsRead view k next fault a s) (sym (exit_is h)) read

-- ---- one slot

min_stays : (i k : ℕ) → k ≤ i → min (i + 1) k ≡ min i k
min_stays i k h = omega arith

min_moves : (i k : ℕ) → i < k → (min (i + 1) k ≡ suc i) × (min i k ≡ i)
min_moves i k h = (omega arith, omega arith)

gathered_at : {view : ℕ → Entry} {k i j : ℕ} {s : Sampled} → min i k ≡ min j k → Gathered view k i s → Gathered view k j s
gathered_at {view} {k} {i} {j} {s} e g = record {
  unsampled = λ p. g.unsampled p ∙ ap (λ n. left_at view n p) e;
  numbers = λ n h. g.numbers n (omega arith);
}

module _ {X : Type 0} (reading : List ℕ → Option X) (view : ℕ → Entry) (k b i : ℕ) (xs : List ℕ) where
  -- a slot that is not in use
  pub unused_read :
      (r : Result (Unit {0}) Fault) (s : Sampled) → k ≤ i → r ≡ unless_fault (unused_fault b xs) tt → slot_in view i ≡ xs →
      Gathered view k i s → SlotsRead view k (i + 1) (slot_fault reading view k b i) r s
  unused_read r s h is at g = record {
    answer =
        is
        ∙ ap (λ ys. unless_fault (unused_fault b ys) tt) (sym at)
        ∙ sym (ap (λ f. unless_fault f tt) (cond-false _ _ _ (le-ltb i k h)));
    gathered = λ _. gathered_at (sym (min_stays i k h)) g;
  }

  -- in the order of the code, what a slot in use may have is what is left
  used_is :
      (s : Sampled) → i < k → slot_in view i ≡ xs → Gathered view k i s →
      slot_fault reading view k b i ≡ used_fault reading (in_set s.unsampled.bytes) b xs
  used_is s h at g =
      cond-true _ _ _ (lt-ltb i k h)
      ∙ ap (λ ys. used_fault reading (left_at view i) b ys) at
      ∙ ap (λ f. used_fault reading f b xs) (sym set_is)
    where
      set_is : in_set s.unsampled.bytes ≡ left_at view i
      set_is = λ j p. (g.unsampled p ∙ ap (λ n. left_at view n p) (min_moves i k h).1) j

  -- a slot in use with a fault
  pub used_refused :
      (n : ℕ) (f : Fault) (s s' : Sampled) → i < k → Err f ≡ unless_fault (used_fault reading (in_set s.unsampled.bytes) b xs) n →
      slot_in view i ≡ xs → Gathered view k i s → SlotsRead view k (i + 1) (slot_fault reading view k b i) (Err f) s'
  used_refused n f s s' h is at g = record {
    answer = sym (ap (λ o. unless_fault o tt) (used_is s h at g ∙ a_fault _ n f is));
    gathered = λ e. absurd (err_not_ok e);
  }

  -- a slot in use: its number is taken out of what is left
  pub used_read :
      (number : ℕ) (set' : List ℕ) (s : Sampled) (at : ℕ) → i < k → i < length s.numbers → at ≡ i →
      Ok number ≡ unless_fault (used_fault reading (in_set s.unsampled.bytes) b xs) (number_at xs 0 2) →
      ((p : ℕ) → in_set set' p ≡ without (in_set s.unsampled.bytes) number p) →
      slot_in view i ≡ xs → Gathered view k i s →
      SlotsRead view k (i + 1) (slot_fault reading view k b i) (Ok tt)
      (record { unsampled = record { bytes = set' }; numbers = set s.numbers at number })
  used_read number set' s at h fits where-is is left_is there g = record {
    answer = sym (ap (λ o. unless_fault o tt) (used_is s h there g ∙ ok.0));
    gathered = λ _. record {
      unsampled = λ p.
          left_is p
          ∙ ap (λ t. not (eqb p number) && t) (g.unsampled p ∙ ap (λ n. left_at view n p) (min_moves i k h).1)
          ∙ moved p (eqb p number) refl
          ∙ ap (λ n. left_at view n p) (sym (min_moves i k h).0);
      numbers = λ j l. numbers_at j (omega (arith, (min_moves i k h).0));
    };
  }
    where
      ok : (used_fault reading (in_set s.unsampled.bytes) b xs ≡ None) × (number ≡ number_at xs 0 2)
      ok = no_fault _ _ _ is

      number_is : number ≡ number_in view i
      number_is = ok.1 ∙ ap (λ ys. number_at ys 0 2) (sym there)

      moved : (p : ℕ) (t : Bool) → eqb p number ≡ t → not t && left_at view i p ≡ left_at view (suc i) p
      moved p true e =
          sym (and_right _ _ (not_from_true _ (or_left _ _ (eq-eqb _ _ (sym (eqb-true p number e ∙ number_is))))))
      moved p false e =
          ap (λ t. in_set (stock_in view) p && not (t || earlier (number_in view) i p))
          (sym (ne_eqb (number_in view i) p (λ q. eqb-false p number e (sym (number_is ∙ q)))))

      numbers_at : (j : ℕ) → j < suc i → get_or (set s.numbers at number) j 0 ≡ number_in view j
      numbers_at j l = by_place (cases_eq j i)
        where
          by_place : (j ≡ i) ⊎ (j ≡ i → ⊥) → get_or (set s.numbers at number) j 0 ≡ number_in view j
          by_place (inl q) =
              ap (λ n. get_or (set s.numbers n number) j 0) (where-is ∙ sym q)
              ∙ get_or-set_same s.numbers j number 0 (omega arith)
              ∙ number_is
              ∙ ap (number_in view) (sym q)
          by_place (inr q) =
              get_or-set_other s.numbers at j number 0 (λ z. q (z ∙ where-is)) ∙ g.numbers j (omega arith)

-- ---- one slot after the other

-- of n parts from `start` on, i were read without a fault
pub record SoFar (fault : ℕ → Option Fault) (view : ℕ → Entry) (k start n i : ℕ) (s : Sampled) : Type 0 where
  pub rest : Rest fault start n i
  pub gathered : Gathered view k (start + i) s

module _ (fault : ℕ → Option Fault) (view : ℕ → Entry) (k start n : ℕ) where
  pub so_far_none : (s : Sampled) → Gathered view k start s → SoFar fault view k start n 0 s
  so_far_none s g = record {
    rest = rest_none fault start n;
    gathered = subst (λ m. Gathered view k m s) (the_same start) g;
  }
    where
      the_same : (m : ℕ) → m ≡ m + 0
      the_same m = omega arith

  pub so_far_more :
      (i at : ℕ) (s s' : Sampled) → i < n → at ≡ start + i → SoFar fault view k start n i s →
      SlotsRead view k (at + 1) (fault at) (Ok tt) s' → SoFar fault view k start n (i + 1) s'
  so_far_more i at s s' h e so r = record {
    rest = rest_more fault start n i h so.rest (sym (ap fault e) ∙ (no_fault _ tt tt r.answer).0);
    gathered = subst (λ m. Gathered view k m s') (omega arith) (r.gathered refl);
  }

  pub so_far_stops :
      (i at next : ℕ) (s s' : Sampled) (x : Fault) → i < n → at ≡ start + i → SoFar fault view k start n i s →
      SlotsRead view k (at + 1) (fault at) (Err x) s' → SlotsRead view k next (first_of fault start n) (Err x) s'
  so_far_stops i at next s s' x h e so r = record {
    answer = sym (ap (λ f. unless_fault f tt) (rest_stops fault start n i x h so.rest (sym (ap fault e) ∙ a_fault _ tt x r.answer)));
    gathered = λ q. absurd (err_not_ok q);
  }

  pub so_far_all :
      (i next : ℕ) (s : Sampled) → i ≡ n → next ≡ start + n → SoFar fault view k start n i s →
      SlotsRead view k next (first_of fault start n) (Ok tt) s
  so_far_all i next s e to so = record {
    answer = sym (ap (λ f. unless_fault f tt) (rest_all fault start n i e so.rest));
    gathered = λ _. subst (λ m. Gathered view k m s) (omega arith) so.gathered;
  }

-- the bytes of a slot, in the bytes of its block
pub slot_there :
    (view : ℕ → Entry) (j i at : ℕ) (xs : List ℕ) → i < 8 → at ≡ 8 * j + i → view (14 + j) ≡ Some xs →
    slot_in view at ≡ take 64 (drop (64 * (at % 8)) xs)
unfolding slot_in
slot_there view j i at xs h e is =
    ap (λ b. take 64 (drop (64 * (at % 8)) (bytes_of (view (14 + b))))) (block_is at e)
    ∙ ap (λ x. take 64 (drop (64 * (at % 8)) (bytes_of x))) is
  where
    block_is : (at : ℕ) → at ≡ 8 * j + i → at / 8 ≡ j
    block_is at e = omega arith

-- ---- one block of slots after the other

some_none : {f : Fault} → ◌≡◌ {A = Option Fault} None (Some f) → ⊥
some_none h = let z : ◌≡◌ {A = ℕ} 0 1 = cc in omega arith

from_zero : (j : ℕ) → 0 + j ≡ j
from_zero j = omega arith

-- a block that can be read
pub block_there :
    (view : ℕ → Entry) (b : ℕ) (xs : List ℕ) → Ok xs ≡ unless_fault (block_fault view b) (bytes_of (view b)) →
    (block_fault view b ≡ None) × (view b ≡ Some xs)
block_there view b xs is = (ok.0, by_entry (view b) refl)
  where
    ok : (block_fault view b ≡ None) × (xs ≡ bytes_of (view b))
    ok = no_fault _ _ _ is

    by_entry : (e : Entry) → view b ≡ e → view b ≡ Some xs
    by_entry (Some ys) q = q ∙ ap Some (sym (ok.1 ∙ ap bytes_of q))
    by_entry None q =
        absurd (some_none (sym ok.0 ∙ ap (λ e. unless (readable e) b damage.Unreadable) q))

module _ {X : Type 0} (reading : List ℕ → Option X) (view : ℕ → Entry) (k : ℕ) where
  -- the first j blocks of slots were read without a fault
  pub record BlocksSoFar (j : ℕ) (s : Sampled) : Type 0 where
    pub rest : Rest (slots_fault reading view k) 0 64 j
    pub gathered : Gathered view k (8 * j) s

  pub blocks_none : (stock numbers : List ℕ) → stock ≡ stock_in view → BlocksSoFar 0 (record { unsampled = record { bytes = stock }; numbers = numbers })
  blocks_none stock numbers e = record {
    rest = rest_none (slots_fault reading view k) 0 64;
    gathered = record {
      unsampled = λ p. ap (λ xs. in_set xs p) e ∙ sym (and_true _) ∙ ap (λ n. left_at view n p) (none k);
      numbers = λ j h. absurd (omega arith);
    };
  }
    where
      none : (m : ℕ) → 0 ≡ min (8 * 0) m
      none m = omega arith

      and_true : (t : Bool) → t && true ≡ t
      and_true true = refl
      and_true false = refl

  block_fault_lem : (j : ℕ) → block_fault view (14 + j) ≡ None → slots_fault reading view k j ≡ first_of (slot_fault reading view k (14 + j)) (8 * j) 8
  unfolding slots_fault
  block_fault_lem j e = ap (λ f. option_or f (first_of (slot_fault reading view k (14 + j)) (8 * j) 8)) e

  block_lost : (j : ℕ) (x : Fault) → block_fault view (14 + j) ≡ Some x → slots_fault reading view k j ≡ Some x
  unfolding slots_fault
  block_lost j x e = ap (λ f. option_or f (first_of (slot_fault reading view k (14 + j)) (8 * j) 8)) e

  pub blocks_more :
      (j : ℕ) (s s' : Sampled) → j < 64 → BlocksSoFar j s → block_fault view (14 + j) ≡ None →
      SlotsRead view k (8 * j + 8) (first_of (slot_fault reading view k (14 + j)) (8 * j) 8) (Ok tt) s' → BlocksSoFar (j + 1) s'
  blocks_more j s s' h so e r = record {
    rest = rest_more (slots_fault reading view k) 0 64 j h so.rest (ap (slots_fault reading view k) (from_zero j) ∙ block_fault_lem j e ∙ (no_fault _ tt tt r.answer).0);
    gathered = subst (λ m. Gathered view k m s') (omega arith) (r.gathered refl);
  }

  pub blocks_stop :
      (j : ℕ) (s s' : Sampled) (x : Fault) → j < 64 → BlocksSoFar j s → block_fault view (14 + j) ≡ None →
      SlotsRead view k (8 * j + 8) (first_of (slot_fault reading view k (14 + j)) (8 * j) 8) (Err x) s' →
      first_of (slots_fault reading view k) 0 64 ≡ Some x
  blocks_stop j s s' x h so e r =
      rest_stops (slots_fault reading view k) 0 64 j x h so.rest (ap (slots_fault reading view k) (from_zero j) ∙ block_fault_lem j e ∙ a_fault _ tt x r.answer)

  pub blocks_lost :
      (j : ℕ) (s : Sampled) (x : Fault) → j < 64 → BlocksSoFar j s →
      Err x ≡ unless_fault (block_fault view (14 + j)) (bytes_of (view (14 + j))) →
      first_of (slots_fault reading view k) 0 64 ≡ Some x
  blocks_lost j s x h so is =
      rest_stops (slots_fault reading view k) 0 64 j x h so.rest (ap (slots_fault reading view k) (from_zero j) ∙ block_lost j x (a_fault _ _ x is))

  pub blocks_all :
      (j : ℕ) (s : Sampled) → j ≡ 64 → BlocksSoFar j s →
      (first_of (slots_fault reading view k) 0 64 ≡ None) × Gathered view k 512 s
  blocks_all j s e so =
      (rest_all (slots_fault reading view k) 0 64 j e so.rest, subst (λ m. Gathered view k m s) (omega arith) so.gathered)

-- the exit of a `?` over a fault
pub fault_exit :
    {T : Type 0} (P : T → Type 0) (Q : Fault → Type 0) (r : Result T Fault) (x : Fault) → IsErrAnd r (λ y. y ≡ x) → Q x → MatchResult r P Q
fault_exit P Q r x h q = subst (λ a. MatchResult a P Q) (sym (exit_is h)) q
