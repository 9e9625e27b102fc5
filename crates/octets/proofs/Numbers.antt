-- Numbers in bytes: what is written is read, and what is read is written.
-- Assumes nothing.
use Rattle.std.proofs.Common.{◌≡◌, ℕ, zero, suc, ◌+◌, ◌*◌, ◌/◌, ◌%◌, ◌^◌, ◌<◌, ◌≤◌, true, List, [], ◌∷◌, ◌++◌, length, get_or, take, drop, sym, refl, ap, ◌∙◌, subst, pow-suc, arith, length-drop, take-append-drop}
use native.Mathlib.Nat.{pow-zero, div-div-eq-div-mul}
use Rattle.std.proofs.lemmas.Nat.{div_below}
use Rattle.std.proofs.lemmas.List.{drop-drop, length-take-le}
use Rattle.std.proofs.lemmas.Bool.{and_from, lt-ltb}
use Rattle.octets.specs.Numbers.{little, value_of, number_at}
use Rattle.octets.specs.Zeros.{every, blank, zeros}
use Rattle.octets.proofs.Under.{Under256, under_first, under_rest, under_take, under_drop}
use Rattle.octets.proofs.Zeros.{blank_zeros}

pub length_little : (c n : ℕ) → length (little c n) ≡ c
length_little zero n = refl
length_little (suc c) n = ap suc (length_little c (n / 256))

-- ---- there and back

pub little_bytes : (c n : ℕ) → Under256 (little c n)
little_bytes zero n = refl
little_bytes (suc c) n = and_from _ _ (lt-ltb (n % 256) 256 (omega arith)) (little_bytes c (n / 256))

pub value_little : (c n : ℕ) → n < 256 ^ c → value_of (little c n) ≡ n
value_little zero n h = omega (arith, pow-zero 256)
value_little (suc c) n h =
    let e = value_little c (n / 256) (div_below n 256 (256 ^ c) (omega arith) (subst (λ k. n < k) (pow-suc 256 c) h)) in
    omega (arith, e)

pub little_value : (xs : List ℕ) → Under256 xs → little (length xs) (value_of xs) ≡ xs
little_value [] h = refl
little_value (b ∷ bs) h =
    let here = under_first b bs h in
    let first : (b + 256 * value_of bs) % 256 ≡ b = omega (arith, here) in
    let rest : (b + 256 * value_of bs) / 256 ≡ value_of bs = omega (arith, here) in
    λ i. first i ∷ (ap (little (length bs)) rest ∙ little_value bs (under_rest b bs h)) i

pub value_lt : (xs : List ℕ) → Under256 xs → value_of xs < 256 ^ length xs
value_lt [] h = omega (arith, pow-zero 256)
value_lt (b ∷ bs) h =
    let here = under_first b bs h in
    let e = value_lt bs (under_rest b bs h) in
    let p : 256 ^ suc (length bs) ≡ 256 ^ length bs * 256 = pow-suc 256 (length bs) in
    omega (arith, here, e, p)

-- ---- in the midst of bytes

-- so many bytes there, as a number and as zeros
module _ (xs : List ℕ) (at c : ℕ) (within : at + c ≤ length xs) where
  pub length_there : length (take c (drop at xs)) ≡ c
  length_there = length-take-le c (drop at xs) (omega (arith, length-drop at xs))

  pub bytes_there : Under256 xs → take c (drop at xs) ≡ little c (number_at xs at c)
  bytes_there h =
      sym (ap (λ k. little k (number_at xs at c)) (sym length_there) ∙ little_value (take c (drop at xs)) (under_take c (drop at xs) (under_drop at xs h)))

  pub number_there_lt : Under256 xs → number_at xs at c < 256 ^ c
  number_there_lt h =
      subst (λ k. number_at xs at c < 256 ^ k) length_there (value_lt (take c (drop at xs)) (under_take c (drop at xs) (under_drop at xs h)))

  pub zeros_there : every blank (take c (drop at xs)) ≡ true → take c (drop at xs) ≡ zeros c
  zeros_there h = blank_zeros (take c (drop at xs)) h ∙ ap zeros length_there

-- one part more in front of what stands behind it
pub cut : (xs part rest : List ℕ) (at c next : ℕ) → at + c ≡ next → take c (drop at xs) ≡ part → drop next xs ≡ rest → drop at xs ≡ part ++ rest
cut xs part rest at c next e first later =
    sym (take-append-drop c (drop at xs))
    ∙ (λ i. first i ++ (drop-drop c at xs ∙ ap (λ k. drop k xs) e ∙ later) i)

-- ---- as the code reads them

-- one byte of a number, and the others
pub number_more : (xs : List ℕ) (at n : ℕ) → number_at xs at (suc n) ≡ get_or xs at 0 + 256 * number_at xs (suc at) n
number_more [] zero zero = refl
number_more [] zero (suc n) = refl
number_more [] (suc at) zero = refl
number_more [] (suc at) (suc n) = refl
number_more (x ∷ xs) zero n = refl
number_more (x ∷ xs) (suc at) n = number_more xs at n

-- the bytes that the number is made of
module _ (xs : List ℕ) where
  abbrev byte : ℕ → ℕ
  byte i = get_or xs i 0

  pub number_2 : number_at xs 0 2 ≡ byte 0 + byte 1 * 256
  number_2 = omega (arith, number_more xs 0 1, number_more xs 1 0)

  four : (at : ℕ) → number_at xs at 4 ≡ byte at + byte (suc at) * 256 + byte (suc (suc at)) * 65536 + byte (suc (suc (suc at))) * 16777216
  four at = omega (arith, number_more xs at 3, number_more xs (suc at) 2, number_more xs (suc (suc at)) 1, number_more xs (suc (suc (suc at))) 0)

  pub number_4 : number_at xs 0 4 ≡ byte 0 + byte 1 * 256 + byte 2 * 65536 + byte 3 * 16777216
  number_4 = four 0

  pub number_8 :
      number_at xs 0 8
      ≡ byte 0 + byte 1 * 256 + byte 2 * 65536 + byte 3 * 16777216 + byte 4 * 4294967296 + byte 5 * 1099511627776
      + byte 6 * 281474976710656 + byte 7 * 72057594037927936
  number_8 = omega (arith, number_more xs 0 7, number_more xs 1 6, number_more xs 2 5, number_more xs 3 4, four 4)

-- ---- as the code writes them

module _ (n : ℕ) where
  two : n / 256 / 256 ≡ n / 65536
  two = div-div-eq-div-mul n 256 256

  three : n / 256 / 256 / 256 ≡ n / 16777216
  three = ap (λ k. k / 256) two ∙ div-div-eq-div-mul n 65536 256

  pub little_4 : little 4 n ≡ n % 256 ∷ n / 256 % 256 ∷ n / 65536 % 256 ∷ n / 16777216 % 256 ∷ []
  little_4 = λ i. n % 256 ∷ n / 256 % 256 ∷ two i % 256 ∷ three i % 256 ∷ []

pub little_8 :
    (n : ℕ) →
    little 8 n
    ≡ n % 256 ∷ n / 256 % 256 ∷ n / 65536 % 256 ∷ n / 16777216 % 256 ∷ n / 4294967296 % 256 ∷ n / 1099511627776 % 256
    ∷ n / 281474976710656 % 256 ∷ n / 72057594037927936 % 256 ∷ []
little_8 n =
    let four : n / 256 / 256 / 256 / 256 ≡ n / 4294967296 = ap (λ k. k / 256) (three n) ∙ div-div-eq-div-mul n 16777216 256 in
    let five : n / 4294967296 / 256 ≡ n / 1099511627776 = div-div-eq-div-mul n 4294967296 256 in
    let six : n / 4294967296 / 256 / 256 ≡ n / 281474976710656 = ap (λ k. k / 256) five ∙ div-div-eq-div-mul n 1099511627776 256 in
    let seven : n / 4294967296 / 256 / 256 / 256 ≡ n / 72057594037927936 = ap (λ k. k / 256) six ∙ div-div-eq-div-mul n 281474976710656 256 in
    (λ i. n % 256 ∷ n / 256 % 256 ∷ two n i % 256 ∷ three n i % 256 ∷ little 4 (four i))
    ∙ (λ i. n % 256 ∷ n / 256 % 256 ∷ n / 65536 % 256 ∷ n / 16777216 % 256 ∷ n / 4294967296 % 256 ∷ five i % 256 ∷ six i % 256 ∷ seven i % 256 ∷ [])
