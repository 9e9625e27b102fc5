-- A set of numbers in bytes: one number looked up, put in and taken out.
-- Assumes nothing.
use Rattle.std.proofs.Common.{◌≡◌, ℕ, ◌+◌, ◌-◌, ◌*◌, ◌/◌, ◌%◌, ◌^◌, ◌<◌, ◌≤◌, Bool, false, not, ◌&&◌, ◌||◌, eqb, ◌≢◌, List, length, get_or, set, Decides, sym, ap, ◌∙◌, ⊎_elim, arith}
use lib.Bits.{bit_and, bit_or}
use Rattle.std.proofs.lemmas.Nat.{one_shl, pow_below}
use Rattle.std.proofs.lemmas.List.{ext_get_or, get_or-set_same, get_or-set_other, get_or_past}
use Rattle.std.proofs.lemmas.Bool.{cases_eq, eq-eqb, ne_eqb}
use Rattle.std.proofs.lemmas.Bool.Decides.{nat_tests, Decides-like}
use Rattle.std.proofs.Math.Bool.{or_comm, and_comm}
use Rattle.octets.specs.Zeros.{zeros}
use Rattle.octets.proofs.Zeros.{zero_at}
use Rattle.pairing.specs.Reservoir.{with, without}
use Rattle.layout.specs.Layout.{stock_block}
use Rattle.layout.specs.Reading.{bit_at, in_set}
use Rattle.layout.proofs.BitLaws.{zero_bit, bit_read, or_bit, and_bit, pow_bit, flip_bit}
use Rattle.layout.proofs.StockLaws.{byte_back, set_past, packed_like, length_stock, stock_byte_lem}

pub none_in_zeros : (n p : ℕ) → in_set (zeros n) p ≡ false
unfolding in_set
none_in_zeros n p = ap (λ b. bit_at b (p % 8)) (zero_at n (p / 8)) ∙ zero_bit (p % 8)

-- the bit as code reads it
pub looked_up : (bytes : List ℕ) (p at byte : ℕ) → at ≡ p / 8 → byte ≡ get_or bytes at 0 → eqb (bit_and (byte / 2 ^ (p % 8)) 1) 1 ≡ in_set bytes p
unfolding in_set
looked_up bytes p at byte place is =
    bit_read byte (p % 8) ∙ ap (λ b. bit_at b (p % 8)) (is ∙ ap (λ i. get_or bytes i 0) place)

-- a byte changed: the bits of the others stay
module _ (bytes : List ℕ) (at x p : ℕ) where
  in_other : p / 8 ≢ at → in_set (set bytes at x) p ≡ in_set bytes p
  unfolding in_set
  in_other ne = ap (λ b. bit_at b (p % 8)) (get_or-set_other bytes at (p / 8) x 0 ne)

  in_it : p / 8 ≡ at → at < length bytes → in_set (set bytes at x) p ≡ bit_at x (p % 8)
  unfolding in_set
  in_it e h = ap (λ i. bit_at (get_or (set bytes at x) i 0) (p % 8)) e ∙ ap (λ b. bit_at b (p % 8)) (get_or-set_same bytes at x 0 h)

  was_in : p / 8 ≡ at → bit_at (get_or bytes at 0) (p % 8) ≡ in_set bytes p
  unfolding in_set
  was_in e = ap (λ i. bit_at (get_or bytes i 0) (p % 8)) (sym e)

-- two numbers of one byte
same_bit : (p q : ℕ) → p / 8 ≡ q / 8 → eqb (p % 8) (q % 8) ≡ eqb p q
same_bit p q e = grind (arith, nat_tests)

shifted : (t : ℕ) → t < 8 → (1 * 2 ^ t) % 256 ≡ 2 ^ t
shifted t h = one_shl t 8 h

module _ (bytes : List ℕ) (q at : ℕ) (place : at ≡ q / 8) (h : at < length bytes) where
  pub put_in : (p : ℕ) → in_set (set bytes at (bit_or (get_or bytes at 0) ((1 * 2 ^ (q % 8)) % 256))) p ≡ with (in_set bytes) q p
  put_in p =
      let b = get_or bytes at 0 in
      let x = bit_or b ((1 * 2 ^ (q % 8)) % 256) in
      ⊎_elim
      (λ (e : p / 8 ≡ at).
      let bit : bit_at x (p % 8) ≡ (bit_at b (p % 8) || eqb (p % 8) (q % 8)) =
      ap (λ m. bit_at (bit_or b m) (p % 8)) (shifted (q % 8) (omega arith))
      ∙ or_bit b (2 ^ (q % 8)) (p % 8)
      ∙ ap (λ t. bit_at b (p % 8) || t) (pow_bit (q % 8) (p % 8)) in
      in_it bytes at x p e h
      ∙ bit
      ∙ (λ i. was_in bytes at x p e i || same_bit p q (e ∙ place) i)
      ∙ or_comm (in_set bytes p) (eqb p q))
      (λ ne. in_other bytes at x p ne ∙ ap (λ t. t || in_set bytes p) (sym (ne_eqb p q (λ e. ne (ap (λ k. k / 8) e ∙ sym place)))))
      (cases_eq (p / 8) at)

  pub taken_out : (p : ℕ) → in_set (set bytes at (bit_and (get_or bytes at 0) (255 - (1 * 2 ^ (q % 8)) % 256))) p ≡ without (in_set bytes) q p
  taken_out p =
      let b = get_or bytes at 0 in
      let x = bit_and b (255 - (1 * 2 ^ (q % 8)) % 256) in
      ⊎_elim
      (λ (e : p / 8 ≡ at).
      let bit : bit_at x (p % 8) ≡ (bit_at b (p % 8) && not (eqb (p % 8) (q % 8))) =
      ap (λ m. bit_at (bit_and b (255 - m)) (p % 8)) (shifted (q % 8) (omega arith))
      ∙ and_bit b (255 - 2 ^ (q % 8)) (p % 8)
      ∙ ap (λ t. bit_at b (p % 8) && t) (flip_bit 8 (2 ^ (q % 8)) (p % 8) (pow_below (q % 8) 8 (omega arith)) (omega arith)
      ∙ ap not (pow_bit (q % 8) (p % 8))) in
      in_it bytes at x p e h
      ∙ bit
      ∙ (λ i. was_in bytes at x p e i && not (same_bit p q (e ∙ place) i))
      ∙ and_comm (in_set bytes p) (not (eqb p q)))
      (λ ne. in_other bytes at x p ne ∙ ap (λ t. not t && in_set bytes p) (sym (ne_eqb p q (λ e. ne (ap (λ k. k / 8) e ∙ sym place)))))
      (cases_eq (p / 8) at)

-- a number that no byte has
pub without_past : (bytes : List ℕ) (q : ℕ) → length bytes ≤ q / 8 → (p : ℕ) → in_set bytes p ≡ without (in_set bytes) q p
without_past bytes q h p =
    ⊎_elim
    (λ e. ap (in_set bytes) e ∙ set_past bytes q (omega (arith, h)) ∙ ap (λ t. not t && in_set bytes p) (sym (eq-eqb p q e)))
    (λ ne. ap (λ t. not t && in_set bytes p) (sym (ne_eqb p q ne)))
    (cases_eq p q)

-- equal sets have equal bytes
pub same_bytes : (xs ys : List ℕ) → length xs ≡ length ys → ((i : ℕ) → get_or xs i 0 < 256) → ((i : ℕ) → get_or ys i 0 < 256) → ((p : ℕ) → in_set xs p ≡ in_set ys p) → xs ≡ ys
same_bytes xs ys long left right same =
    ext_get_or 0 xs ys long (λ i h.
    sym (byte_back xs i (left i)) ∙ packed_like (in_set xs) (in_set ys) (8 * i) 8 (λ t l. same (8 * i + t)) ∙ byte_back ys i (right i))

pub decides_same : (xs ys : List ℕ) → length xs ≡ length ys → ((i : ℕ) → get_or xs i 0 < 256) → ((i : ℕ) → get_or ys i 0 < 256) → (r : Bool) → Decides r (xs ≡ ys) → Decides r ((p : ℕ) → in_set xs p ≡ in_set ys p)
decides_same xs ys long left right r d = Decides-like r (λ e p. ap (λ l. in_set l p) e) (same_bytes xs ys long left right) d

-- past the eight blocks there is nothing
pub zeros_past : (bytes : List ℕ) (j : ℕ) → ((i : ℕ) → get_or bytes i 0 < 256) → length bytes ≤ 512 * j → zeros 512 ≡ stock_block (in_set bytes) j
zeros_past bytes j small h =
    ext_get_or 0 (zeros 512) (stock_block (in_set bytes) j) (sym (length_stock (in_set bytes) j)) (λ i l.
    zero_at 512 i
    ∙ sym (get_or_past bytes (512 * j + i) 0 (omega arith))
    ∙ sym (byte_back bytes (512 * j + i) (small (512 * j + i)))
    ∙ sym (stock_byte_lem (in_set bytes) j i l))
