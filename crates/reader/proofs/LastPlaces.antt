-- The last place at which a test passes, as `rposition` finds it, and where a view reads a block that is taken from there.
use Rattle.std.proofs.Common.{◌≡◌, ℕ, zero, suc, ◌+◌, ◌-◌, ◌<◌, min, Bool, true, false, cond, eqb, List, [], ◌∷◌, length, get_or, reverse, Some, None, Option, sym, refl, ap, ◌∙◌, subst, arith, Iter}
use Rattle.std.specs.Fn.{Called}
use denote.Param.Members.{Mut}
use Rattle.std.specs.Iterator.{FindsPositionBack}
use Rattle.std.specs.List.{AllWithin, HoldsAt}
use Rattle.std.specs.Slice.Iter.{iter_rest, iter_steps_back}
use Rattle.std.specs.Option.{MatchOption, IsSomeAnd, option_map}
use Rattle.std.proofs.lemmas.Iterator.{YieldsList, IsFirst-from_position}
use Rattle.std.proofs.lemmas.Iterator.Consumers.{YieldsList-from_shown}
use Rattle.std.proofs.lemmas.List.{reverse-append, get_or-reverse, length-reverse}
use Rattle.plans.specs.Views.{place_from}

-- the last of the targets that is b, or that none is
abbrev pub LastOwn : List ℕ → ℕ → Option ℕ → Type 0
LastOwn ts b None = (k : ℕ) → k < length ts → eqb (get_or ts k 0) b ≡ false
LastOwn ts b (Some i) =
    (i < length ts) × (eqb (get_or ts i 0) b ≡ true) × ((k : ℕ) → i < k → k < length ts → eqb (get_or ts k 0) b ≡ false)

-- ---- where the block is read

module _ (b : ℕ) where
  pub none_own : (place image : ℕ) (ts : List ℕ) → LastOwn ts b None → place_from b place image ts ≡ place
  none_own place image [] h = refl
  none_own place image (t ∷ ts) h =
      ap (λ c. place_from b (cond c image place) (min (image + 1) 65535) ts) (h 0 (omega arith))
      ∙ none_own place (min (image + 1) 65535) ts (λ k l. h (suc k) (omega arith))

  pub last_own :
      (place image : ℕ) (ts : List ℕ) (i at : ℕ) → (i ≡ 0 → at ≡ image) → at ≡ min (image + i) 65535 → LastOwn ts b (Some i) →
      at ≡ place_from b place image ts
  last_own place image [] i at first later h = absurd (omega (arith, h.0))
  last_own place image (t ∷ ts) zero at first later h =
      first refl
      ∙ sym
      (ap (λ c. place_from b (cond c image place) (min (image + 1) 65535) ts) h.1
      ∙ none_own image (min (image + 1) 65535) ts (λ k l. h.2 (suc k) (omega arith) (omega arith)))
  last_own place image (t ∷ ts) (suc i) at first later h =
      last_own (cond (eqb t b) image place) (min (image + 1) 65535) ts i at (λ e. grind (arith, later, e)) (grind (arith, later))
      (omega (arith, h.0), h.1, λ k m l. h.2 (suc k) (omega arith) (omega arith))

-- ---- what `rposition` finds

turned : {A : Type 0} (C : A → Type 0) (n m : ℕ) (o : Option A) (r : Option ℕ) →
    MatchOption o (r ≡ None) (λ x. IsSomeAnd r (λ i. i + 1 + m ≡ n) × C x) →
    MatchOption o (option_map (λ i. n - 1 - i) r ≡ None) (λ x. (option_map (λ i. n - 1 - i) r ≡ Some m) × C x)
turned C n m None r e = ap (option_map (λ i. n - 1 - i)) e
turned C n m (Some x) None e = absurd e.0
turned C n m (Some x) (Some i) e = (ap Some (omega (arith, e.0)), e.1)

module _ (ts : List ℕ) (b : ℕ) where
  abbrev Ahead : Option ℕ → Type 0
  Ahead r =
      MatchOption r (AllWithin (λ y. eqb y b ≡ false) (reverse ts) 0 (length (reverse ts)))
      (λ i. (i < length (reverse ts)) × HoldsAt (λ y. eqb y b ≡ true) (reverse ts) i × AllWithin (λ y. eqb y b ≡ false) (reverse ts) 0 i)

  -- the place k of the targets is one of the reversed
  at_back : (k : ℕ) → k < length ts → get_or (reverse ts) (length ts - 1 - k) 0 ≡ get_or ts k 0
  at_back k h = get_or-reverse ts (length ts - 1 - k) 0 (omega arith) ∙ ap (λ j. get_or ts j 0) (omega arith)

  own_from : (r : Option ℕ) → MatchOption r (Unit {0}) (λ i. i < length ts) → Ahead (option_map (λ i. length ts - 1 - i) r) → LastOwn ts b r
  own_from None low h = λ k l. ap (λ t. eqb t b) (sym (at_back k l)) ∙ h (length ts - 1 - k) 0 (omega arith) (omega (arith, length-reverse ts))
  own_from (Some i) low h = (
    low,
    ap (λ t. eqb t b) (sym (at_back i low)) ∙ h.1 0,
    λ k m l. ap (λ t. eqb t b) (sym (at_back k l)) ∙ h.2 (length ts - 1 - k) 0 (omega arith) (omega arith),
  )

  module _ {S A F : Type 0} {steps : S → Option A → S → Type 0} {v : A → ℕ} {g : Mut F (A × Unit {0}) Bool} {s : S} {f : F} where
    pub last_found :
        (u : S) (r : Option ℕ) → FindsPositionBack steps g s f (length ts) r u → YieldsList steps v s (reverse ts) →
        ((x : A) (c : Bool) (q : F) → Called g f (x, tt) c q → (q ≡ f) × (c ≡ eqb (v x) b)) → MatchOption r (Unit {0}) (λ i. i < length ts) →
        LastOwn ts b r
    last_found u r d yields told low =
        own_from r low
        (IsFirst-from_position u f (option_map (λ i. length ts - 1 - i) r) (λ y. eqb y b ≡ true) (λ y. eqb y b ≡ false)
        (d.0, d.1, d.2, d.3, d.4, turned _ (length ts) (length d.0) d.1 r d.5) yields
        (λ x q c. sym (told x true q c).1) (λ x q c. ((told x false q c).0, sym (told x false q c).1)))

-- the items of a slice, from the back
pub from_back : (ts : List ℕ) (s : Iter ℕ) → iter_rest s ≡ ts → YieldsList iter_steps_back (λ y. y.now) s (reverse ts)
from_back ts s e =
    subst (λ k. YieldsList iter_steps_back (λ y. y.now) s (reverse k)) e
    (YieldsList-from_shown iter_steps_back (λ y. y.now) (λ u. reverse (iter_rest u)) (λ u t p. length-reverse _ ∙ p.0)
    (λ u x t p. ap reverse p ∙ reverse-append (iter_rest t) (x.now ∷ [])) s)
