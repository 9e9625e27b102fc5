-- The bits of numbers: what `>>`, `|`, `&` and `!` do to them.
-- Assumes nothing.
use Rattle.std.proofs.Common.{◌≡◌, ℕ, zero, suc, ◌-◌, ◌/◌, ◌%◌, ◌^◌, ◌<◌, false, not, ◌&&◌, ◌||◌, eqb, sym, refl, ap, ◌∙◌, pow-suc, arith}
use native.Mathlib.Nat.{pow-zero, pow-succ', div-div-eq-div-mul}
use lib.Bits.{bit_and, bit_or, and_step, or_step}
use Rattle.std.proofs.lemmas.Nat.{and_mask}
use Rattle.std.proofs.lemmas.Bool.{ne_eqb}
use Rattle.std.proofs.lemmas.Bool.Decides.{nat_tests}
use Rattle.layout.specs.Reading.{bit_at}

pub zero_bit : (t : ℕ) → bit_at 0 t ≡ false
zero_bit zero = refl
zero_bit (suc t) = zero_bit t

-- the bit as code reads it
bit_is : (n t : ℕ) → bit_at n t ≡ eqb (n / 2 ^ t % 2) 1
bit_is n zero = ap (λ k. eqb (k % 2) 1) (omega (arith, pow-zero 2))
bit_is n (suc t) =
    bit_is (n / 2) t
    ∙ ap (λ k. eqb (k % 2) 1) (div-div-eq-div-mul n 2 (2 ^ t) ∙ ap (λ k. n / k) (sym (pow-succ' 2 t)))

pub bit_read : (n t : ℕ) → eqb (bit_and (n / 2 ^ t) 1) 1 ≡ bit_at n t
bit_read n t = ap (λ k. eqb k 1) (and_mask (n / 2 ^ t) 1) ∙ sym (bit_is n t)

pub or_bit : (a b t : ℕ) → bit_at (bit_or a b) t ≡ (bit_at a t || bit_at b t)
or_bit a b zero = let e = or_step a b in grind (arith, nat_tests)
or_bit a b (suc t) =
    let half : bit_or a b / 2 ≡ bit_or (a / 2) (b / 2) = omega (arith, or_step a b) in
    ap (λ n. bit_at n t) half ∙ or_bit (a / 2) (b / 2) t

pub and_bit : (a b t : ℕ) → bit_at (bit_and a b) t ≡ (bit_at a t && bit_at b t)
and_bit a b zero = let e = and_step a b in grind (arith, nat_tests)
and_bit a b (suc t) =
    let half : bit_and a b / 2 ≡ bit_and (a / 2) (b / 2) = omega (arith, and_step a b) in
    ap (λ n. bit_at n t) half ∙ and_bit (a / 2) (b / 2) t

pub pow_bit : (n t : ℕ) → bit_at (2 ^ n) t ≡ eqb t n
pow_bit zero zero = refl
pow_bit zero (suc t) = zero_bit t ∙ sym (ne_eqb (suc t) 0 (λ e. omega arith))
pow_bit (suc n) zero = ne_eqb _ 1 (λ e. omega (arith, pow-suc 2 n)) ∙ sym (ne_eqb 0 (suc n) (λ e. omega arith))
pow_bit (suc n) (suc t) =
    let next : eqb t n ≡ eqb (suc t) (suc n) = grind (arith, nat_tests) in
    ap (λ k. bit_at k t) {y = 2 ^ n} (omega (arith, pow-suc 2 n)) ∙ pow_bit n t ∙ next

-- all bits of a number turned
pub flip_bit : (n b t : ℕ) → b < 2 ^ n → t < n → bit_at (2 ^ n - 1 - b) t ≡ not (bit_at b t)
flip_bit zero b t h l = absurd (omega arith)
flip_bit (suc n) b zero h l = let e = pow-suc 2 n in grind (arith, nat_tests)
flip_bit (suc n) b (suc t) h l =
    let e = pow-suc 2 n in
    let half : (2 ^ suc n - 1 - b) / 2 ≡ 2 ^ n - 1 - b / 2 = omega arith in
    ap (λ k. bit_at k t) half ∙ flip_bit n (b / 2) t (omega arith) (omega arith)
