-- Lemmas on faults: what an answer tells of them, and the first of many.
use Rattle.std.proofs.Common.{◌≡◌, ℕ, suc, ◌+◌, ◌-◌, ◌<◌, Some, None, Ok, Err, Option, Result, sym, refl, ap, ◌∙◌, arith}
use Rattle.fault.specs.declared.Fault.{Fault}
use Rattle.std.specs.Option.{option_or}
pub use Rattle.device.proofs.Disk.{exit_is}
use Rattle.layout.specs.Reading.{unless_fault, first_of}

-- ---- faults

-- an answer that is a value had no fault
pub no_fault : {A : Type 0} (f : Option Fault) (a b : A) → Ok b ≡ unless_fault f a → (f ≡ None) × (b ≡ a)
no_fault None a b h = (refl, ok_is a b h)
  where
    ok_is : {A : Type 0} (x y : A) → ◌≡◌ {A = Result A Fault} (Ok y) (Ok x) → y ≡ x
    ok_is x y q = cc
no_fault (Some f) a b h = absurd (let z : ◌≡◌ {A = ℕ} 0 1 = cc in omega arith)

-- an answer that is a fault had it
pub a_fault : {A : Type 0} (f : Option Fault) (a : A) (x : Fault) → Err x ≡ unless_fault f a → f ≡ Some x
a_fault None a x h = absurd (let z : ◌≡◌ {A = ℕ} 0 1 = cc in omega arith)
a_fault {A} (Some f) a x h = ap Some (sym (err_is f x h))
  where
    err_is : (f x : Fault) → ◌≡◌ {A = Result A Fault} (Err x) (Err f) → x ≡ f
    err_is f x q = cc

pub err_not_ok : {x : Fault} → ◌≡◌ {A = Result (Unit {0}) Fault} (Err x) (Ok tt) → ⊥
err_not_ok h = let z : ◌≡◌ {A = ℕ} 0 1 = cc in omega arith

-- the exit of a `?`
-- ---- the first fault of n parts from `start` on

-- when the first i have none, it is the first of the rest
abbrev pub Rest : (ℕ → Option Fault) → ℕ → ℕ → ℕ → Type 0
Rest fault start n i = first_of fault start n ≡ first_of fault (start + i) (n - i)

module _ (fault : ℕ → Option Fault) (start n : ℕ) where
  pub rest_none : Rest fault start n 0
  rest_none = ap (λ m. first_of fault m n) (the_same start) ∙ ap (first_of fault (start + 0)) (all_left n)
    where
      the_same : (m : ℕ) → m ≡ m + 0
      the_same m = omega arith

      all_left : (m : ℕ) → m ≡ m - 0
      all_left m = omega arith

  -- the next part, and what follows
  rest_at : (i : ℕ) → i < n → first_of fault (start + i) (n - i) ≡ option_or (fault (start + i)) (first_of fault (start + (i + 1)) (n - (i + 1)))
  rest_at i h =
      ap (first_of fault (start + i)) (one_more i h)
      ∙ ap (λ m. option_or (fault (start + i)) (first_of fault m (n - (i + 1)))) (moved i)
    where
      one_more : (i : ℕ) → i < n → n - i ≡ suc (n - (i + 1))
      one_more i h = omega arith

      moved : (i : ℕ) → start + i + 1 ≡ start + (i + 1)
      moved i = omega arith

  pub rest_more : (i : ℕ) → i < n → Rest fault start n i → fault (start + i) ≡ None → Rest fault start n (i + 1)
  rest_more i h so none = so ∙ rest_at i h ∙ ap (λ f. option_or f (first_of fault (start + (i + 1)) (n - (i + 1)))) none

  pub rest_stops : (i : ℕ) (x : Fault) → i < n → Rest fault start n i → fault (start + i) ≡ Some x → first_of fault start n ≡ Some x
  rest_stops i x h so some = so ∙ rest_at i h ∙ ap (λ f. option_or f (first_of fault (start + (i + 1)) (n - (i + 1)))) some

  pub rest_all : (i : ℕ) → i ≡ n → Rest fault start n i → first_of fault start n ≡ None
  rest_all i e so = so ∙ ap (first_of fault (start + i)) (nothing i e)
    where
      nothing : (i : ℕ) → i ≡ n → n - i ≡ 0
      nothing i e = omega arith
