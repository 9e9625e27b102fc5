-- The ways of a store, and that each call keeps the ranges. Assumes nothing.
use Rattle.std.proofs.Common.{◌≡◌, ℕ, ◌+◌, ◌-◌, ◌<◌, ◌≤◌, min, Bool, true, false, cond, ltb, refl, arith}
use Rattle.std.proofs.lemmas.Bool.{ltb-true, ltb-false}
use Rattle.words.specs.declared.draws.Drawn.{Drawn}
use Rattle.pairing.specs.declared.Effect.{Effect}
use Rattle.pairing.specs.declared.Effect.TheVariants.{Enters, Replaces, StaysOut}
use Rattle.pairing.specs.declared.counts.Counts.{Counts}
use Rattle.pairing.specs.Reservoir.{width_of, effect_of, c1_after, c2_after}
use Rattle.pairing.specs.Ranges.{Ranges, no_counts}
use Rattle.pairing.specs.Steps.{width_at, sampled_after, after_store, after_take_in, after_take_out}

-- the five ways of a store: what is known, the width and the effect
pub data Way (m n c1 c2 d : ℕ) : ℕ → Effect → Type 0 where
  pairs_in : 0 < c1 + c2 → d < c1 → Way m n c1 c2 d (c1 + c2) Enters
  pairs_out : 0 < c1 + c2 → c1 ≤ d → Way m n c1 c2 d (c1 + c2) StaysOut
  fills : c1 + c2 ≡ 0 → n < m → Way m n c1 c2 d 1 Enters
  replaces : c1 + c2 ≡ 0 → m ≤ n → d < m → Way m n c1 c2 d (n + 1) (Replaces d)
  passes : c1 + c2 ≡ 0 → m ≤ n → m ≤ d → Way m n c1 c2 d (n + 1) StaysOut

way_by : (m n c1 c2 d : ℕ) (p q s t : Bool) → ltb 0 (c1 + c2) ≡ p → ltb d c1 ≡ q → ltb n m ≡ s → ltb d m ≡ t →
    Way m n c1 c2 d (cond p (c1 + c2) (cond s 1 (n + 1))) (cond p (cond q Enters StaysOut) (cond s Enters (cond t (Replaces d) StaysOut)))
way_by m n c1 c2 d true true s t ep eq es et = pairs_in (ltb-true _ _ ep) (ltb-true _ _ eq)
way_by m n c1 c2 d true false s t ep eq es et = pairs_out (ltb-true _ _ ep) (ltb-false _ _ eq)
way_by m n c1 c2 d false q true t ep eq es et =
    let none : c1 + c2 ≤ 0 = ltb-false _ _ ep in
    fills (omega arith) (ltb-true _ _ es)
way_by m n c1 c2 d false q false true ep eq es et =
    let none : c1 + c2 ≤ 0 = ltb-false _ _ ep in
    replaces (omega arith) (ltb-false _ _ es) (ltb-true _ _ et)
way_by m n c1 c2 d false q false false ep eq es et =
    let none : c1 + c2 ≤ 0 = ltb-false _ _ ep in
    passes (omega arith) (ltb-false _ _ es) (ltb-false _ _ et)

pub way : (m n c1 c2 d : ℕ) → Way m n c1 c2 d (width_of m n c1 c2) (effect_of m n c1 c2 d)
way m n c1 c2 d = way_by m n c1 c2 d _ _ _ _ refl refl refl refl

-- a store compensates a deletion, if there is one, and keeps the balance, whatever the capacity
pub store_due : (m n c1 c2 d : ℕ) {w : ℕ} {e : Effect} → Way m n c1 c2 d w e → d < w → c1_after c1 e + c2_after c2 e ≡ c1 + c2 - 1
store_due m n c1 c2 d (pairs_in some low) below = omega arith
store_due m n c1 c2 d (pairs_out some high) below = omega arith
store_due m n c1 c2 d (fills none free) below = omega arith
store_due m n c1 c2 d (replaces none full low) below = omega arith
store_due m n c1 c2 d (passes none full high) below = omega arith

pub store_balance : (m n k c1 c2 d : ℕ) {w : ℕ} {e : Effect} → Way m n c1 c2 d w e → d < w → k + c1 ≡ min m (n + (c1 + c2)) →
    sampled_after k e + c1_after c1 e ≡ min m (n + 1 + (c1_after c1 e + c2_after c2 e))
store_balance m n k c1 c2 d (pairs_in some low) below kept = omega arith
store_balance m n k c1 c2 d (pairs_out some high) below kept = omega arith
store_balance m n k c1 c2 d (fills none free) below kept = omega arith
store_balance m n k c1 c2 d (replaces none full low) below kept = omega arith
store_balance m n k c1 c2 d (passes none full high) below kept = omega arith

store_room : (n : Counts) (d : ℕ) {w : ℕ} {e : Effect} → Way n.capacity n.size n.c1 n.c2 d w e → Ranges n → w ≤ 32768 → d < w →
    (sampled_after n.sampled e ≤ n.size + 1) × (n.size + 1 + (c1_after n.c1 e + c2_after n.c2 e) ≤ 32768)
store_room n d (pairs_in some low) r fits below = (omega arith, omega arith)
store_room n d (pairs_out some high) r fits below = (omega arith, omega arith)
store_room n d (fills none free) r fits below = (omega arith, omega arith)
store_room n d (replaces none full low) r fits below = (omega arith, omega arith)
store_room n d (passes none full high) r fits below = (omega arith, omega arith)

pub store_keeps : (n : Counts) (drawn : Drawn) → Ranges n → width_at n ≤ 32768 → drawn.value < width_at n → drawn.used ≤ 64 →
    Ranges (after_store n drawn)
store_keeps n drawn r fits below few =
    let w = way n.capacity n.size n.c1 n.c2 drawn.value in
    let room = store_room n drawn.value w r fits below in
    let kept = store_balance n.capacity n.size n.sampled n.c1 n.c2 drawn.value w below r.balance in
    record { limits = r.limits; sample = (omega (arith, kept), room.0); room = room.1; balance = kept; usage = omega arith }

-- a width fits while the stock has a number left
fits_by : (n : Counts) (d : ℕ) {w : ℕ} {e : Effect} → Way n.capacity n.size n.c1 n.c2 d w e → Ranges n → n.size < 32768 → w ≤ 32768
fits_by n d (pairs_in some low) r left = omega arith
fits_by n d (pairs_out some high) r left = omega arith
fits_by n d (fills none free) r left = omega arith
fits_by n d (replaces none full low) r left = omega arith
fits_by n d (passes none full high) r left = omega arith

pub width_fits : (n : Counts) → Ranges n → n.size < 32768 → width_at n ≤ 32768
width_fits n r left = fits_by n 0 (way _ _ _ _ 0) r left

pub take_in_keeps : (n : Counts) → Ranges n → 0 < n.sampled → Ranges (after_take_in n)
take_in_keeps n r some =
    record { limits = r.limits; sample = (omega arith, omega arith); room = omega arith; balance = omega arith; usage = omega arith }

pub take_out_keeps : (n : Counts) → Ranges n → n.sampled < n.size → Ranges (after_take_out n)
take_out_keeps n r some =
    record { limits = r.limits; sample = (omega arith, omega arith); room = omega arith; balance = omega arith; usage = omega arith }

pub empty_keeps : (m : ℕ) → 1 ≤ m → m ≤ 512 → Ranges (no_counts m)
empty_keeps m low high =
    record { limits = (low, high); sample = (omega arith, omega arith); room = omega arith; balance = omega arith; usage = omega arith }
