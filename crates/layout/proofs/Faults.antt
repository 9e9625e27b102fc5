-- No fault at all is no fault in any part.
-- Assumes nothing.
use Rattle.std.proofs.Common.{◌≡◌, ℕ, zero, suc, ◌+◌, ◌<◌, Bool, true, false, List, Some, None, Ok, Option, refl, ap, ◌∙◌, arith}
use Rattle.std.proofs.lemmas.Bool.{cond-true}
use Rattle.fault.specs.declared.Damage.{Damage}
use Rattle.fault.specs.declared.Damage.TheVariants as damage
use Rattle.fault.specs.declared.Fault.{Fault}
use Rattle.device.specs.Disk.{Entry}
use Rattle.std.specs.Option.{option_or}
use Rattle.layout.specs.Reading.{unless, first_of, unless_fault, is_block, readable, bytes_of, block_fault}

pub or_else_parts : (a b : Option Fault) → option_or a b ≡ None → (a ≡ None) × (b ≡ None)
or_else_parts (Some f) b h = cc
or_else_parts None b h = (refl, h)

pub or_else_none : (a b : Option Fault) → a ≡ None → b ≡ None → option_or a b ≡ None
or_else_none a b h k = ap (λ x. option_or x b) h ∙ k

pub unless_passes : (t : Bool) (b : ℕ) (d : Damage) → unless t b d ≡ None → t ≡ true
unless_passes true b d h = refl
unless_passes false b d h = cc

pub unless_none : (t : Bool) (b : ℕ) (d : Damage) → t ≡ true → unless t b d ≡ None
unless_none t b d h = cond-true t _ _ h

pub first_of_each : (f : ℕ → Option Fault) (i n : ℕ) → first_of f i n ≡ None → (j : ℕ) → j < n → f (i + j) ≡ None
first_of_each f i zero h j k = absurd (omega arith)
first_of_each f i (suc n) h zero k = ap f (omega arith) ∙ (or_else_parts _ _ h).0
first_of_each f i (suc n) h (suc j) k =
    let later : f (i + 1 + j) ≡ None = first_of_each f (i + 1) n (or_else_parts (f i) (first_of f (i + 1) n) h).1 j (omega arith) in
    ap f {y = i + 1 + j} (omega arith) ∙ later

pub first_of_none : (f : ℕ → Option Fault) (i n : ℕ) → ((j : ℕ) → j < n → f (i + j) ≡ None) → first_of f i n ≡ None
first_of_none f i zero h = refl
first_of_none f i (suc n) h =
    let here : f (i + 0) ≡ None = h 0 (omega arith) in
    or_else_none _ _ (ap f (omega arith) ∙ here)
    (first_of_none f (i + 1) n (λ j k. let later : f (i + suc j) ≡ None = h (suc j) (omega arith) in ap f (omega arith) ∙ later))

pub ok_none : {A : Type 0} (f : Option Fault) (a b : A) → unless_fault f a ≡ Ok b → (f ≡ None) × (a ≡ b)
ok_none (Some f) a b h = cc
ok_none None a b h = (refl, cc)

-- ---- blocks

readable_is : (e : Entry) → readable e ≡ true → (e ≡ Some (bytes_of e)) × (is_block (bytes_of e) ≡ true)
readable_is (Some xs) h = (refl, h)
readable_is None h = cc

-- a block that reads is its bytes
pub block_read : (blocks : ℕ → Entry) (b : ℕ) → block_fault blocks b ≡ None → (blocks b ≡ Some (bytes_of (blocks b))) × (is_block (bytes_of (blocks b)) ≡ true)
block_read blocks b h = readable_is (blocks b) (unless_passes (readable (blocks b)) b damage.Unreadable h)

pub block_reads : (blocks : ℕ → Entry) (b : ℕ) (xs : List ℕ) → blocks b ≡ Some xs → is_block xs ≡ true → block_fault blocks b ≡ None
block_reads blocks b xs e h = unless_none (readable (blocks b)) b damage.Unreadable (ap readable e ∙ h)
