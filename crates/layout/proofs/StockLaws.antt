-- The stock in bytes: each number is one bit, and 4,096 bytes say exactly one set.
-- Assumes nothing.
use Rattle.std.proofs.Common.{◌≡◌, ℕ, zero, suc, ◌+◌, ◌*◌, ◌/◌, ◌%◌, ◌^◌, ◌<◌, ◌≤◌, Bool, true, false, eqb, ◌≢◌, List, [], ◌∷◌, length, get_or, take, drop, sym, refl, ap, ◌∙◌, subst, ⊎_elim, pow-suc, arith, length-drop}
use native.Mathlib.Nat.{pow-zero}
use lib.Count.{ones, ones_step}
use Rattle.std.proofs.lemmas.Nat.{div_below}
use Rattle.std.proofs.lemmas.List.FromFn.{length-map-range_with_len, get_or-map-range_with_len}
use Rattle.std.proofs.lemmas.List.{ext_get_or, get_or_past, get_or-take, get_or-drop, length-take-le}
use Rattle.std.proofs.lemmas.List.Sums.{sum_by-cons}
use Rattle.std.proofs.lemmas.Bool.{eq-eqb, ne_eqb, cases_lt}
use Rattle.pairing.specs.Rules.{bit, count_below}
use Rattle.pairing.specs.Reservoir.{with, without}
use Rattle.pairing.proofs.Sums.{count_like}
use Rattle.pairing.proofs.Stock.{bit_most, with_other, without_other}
use Rattle.layout.specs.Layout.{packed, stock_byte, stock_block, joined}
use Rattle.layout.specs.Reading.{bit_at, in_set, ones_in, is_block, bytes_of, stock_in}
use Rattle.layout.proofs.BitLaws.{zero_bit}
use Rattle.layout.proofs.Joining.{length_joined, get_d_joined, joined_under, joined_shift, joined_like}
use Rattle.octets.proofs.Under.{Under256, under_at, under_from, under_rest}
use Rattle.layout.proofs.Blocks.{block_length, block_under, block_from}
use Rattle.device.specs.Disk.{Entry}

-- ---- one byte

bit_first : (b : Bool) (k : ℕ) → eqb ((bit b + 2 * k) % 2) 1 ≡ b
bit_first true k = eq-eqb ((1 + 2 * k) % 2) 1 (omega arith)
bit_first false k = ne_eqb ((0 + 2 * k) % 2) 1 (λ e. omega arith)

bit_later : (b : Bool) (k : ℕ) → (bit b + 2 * k) / 2 ≡ k
bit_later b k = omega (arith, bit_most b)

-- bit t of the byte is the t-th number
pub bit_packed : (s : ℕ → Bool) (p n t : ℕ) → t < n → bit_at (packed s p n) t ≡ s (p + t)
bit_packed s p zero t h = absurd (omega arith)
bit_packed s p (suc n) zero h = bit_first (s p) (packed s (p + 1) n) ∙ ap s (omega arith)
bit_packed s p (suc n) (suc t) h =
    ap (λ k. bit_at k t) (bit_later (s p) (packed s (p + 1) n))
    ∙ bit_packed s (p + 1) n t (omega arith)
    ∙ ap s (omega arith)

odd_bit : (b : ℕ) → bit (eqb (b % 2) 1) ≡ b % 2
odd_bit b =
    ⊎_elim
    (λ h. ap bit (ne_eqb (b % 2) 1 (λ e. omega arith)) ∙ omega arith)
    (λ h. ap bit (eq-eqb (b % 2) 1 (omega arith)) ∙ omega arith)
    (cases_lt (b % 2) 1)

-- a set with the byte's bits packs into the byte
pub packed_bits : (s : ℕ → Bool) (p n b : ℕ) → b < 2 ^ n → ((t : ℕ) → t < n → s (p + t) ≡ bit_at b t) → packed s p n ≡ b
packed_bits s p zero b h same = omega (arith, pow-zero 2)
packed_bits s p (suc n) b h same =
    let here : s p ≡ eqb (b % 2) 1 = ap s (omega arith) ∙ same 0 (omega arith) in
    let first : bit (s p) ≡ b % 2 = ap bit here ∙ odd_bit b in
    let rest : packed s (p + 1) n ≡ b / 2 =
    packed_bits s (p + 1) n (b / 2) (div_below b 2 (2 ^ n) (omega arith) (subst (λ k. b < k) (pow-suc 2 n) h))
    (λ t l. ap s {y = p + suc t} (omega arith) ∙ same (suc t) (omega arith)) in
    omega (arith, first, rest)

pub packed_like : (s s' : ℕ → Bool) (p n : ℕ) → ((t : ℕ) → t < n → s (p + t) ≡ s' (p + t)) → packed s p n ≡ packed s' p n
packed_like s s' p zero same = refl
packed_like s s' p (suc n) same =
    let first : bit (s p) ≡ bit (s' p) =
    ap (λ k. bit (s k)) {y = p + 0} (omega arith) ∙ ap bit (same 0 (omega arith)) ∙ ap (λ k. bit (s' k)) (omega arith) in
    let rest : packed s (p + 1) n ≡ packed s' (p + 1) n =
    packed_like s s' (p + 1) n (λ t l.
    ap s {y = p + suc t} (omega arith) ∙ same (suc t) (omega arith) ∙ ap s' (omega arith)) in
    omega (arith, first, rest)

pub packed_lt : (s : ℕ → Bool) (p n : ℕ) → packed s p n < 2 ^ n
packed_lt s p zero = omega (arith, pow-zero 2)
packed_lt s p (suc n) =
    let e = packed_lt s (p + 1) n in let b = bit_most (s p) in let q : 2 ^ suc n ≡ 2 ^ n * 2 = pow-suc 2 n in omega (arith, e, b, q)

-- ---- bytes and sets

-- bit t of byte i
in_byte : (bytes : List ℕ) (i t : ℕ) → t < 8 → in_set bytes (8 * i + t) ≡ bit_at (get_or bytes i 0) t
unfolding in_set
in_byte bytes i t h =
    let a : (8 * i + t) / 8 ≡ i = omega arith in
    let b : (8 * i + t) % 8 ≡ t = omega arith in
    λ k. bit_at (get_or bytes (a k) 0) (b k)

-- each byte has the bits of its set
pub byte_back : (bytes : List ℕ) (i : ℕ) → get_or bytes i 0 < 256 → stock_byte (in_set bytes) i ≡ get_or bytes i 0
byte_back bytes i h = packed_bits (in_set bytes) (8 * i) 8 (get_or bytes i 0) h (λ t l. in_byte bytes i t l)

-- a byte's bits are the set's numbers
pub set_back : (s : ℕ → Bool) (bytes : List ℕ) (p : ℕ) → get_or bytes (p / 8) 0 ≡ stock_byte s (p / 8) → in_set bytes p ≡ s p
unfolding in_set
set_back s bytes p e =
    ap (λ b. bit_at b (p % 8)) e ∙ bit_packed s (8 * (p / 8)) 8 (p % 8) (omega arith) ∙ ap s (omega arith)

-- no bits behind the bytes
pub set_past : (bytes : List ℕ) (p : ℕ) → 8 * length bytes ≤ p → in_set bytes p ≡ false
unfolding in_set
set_past bytes p h = ap (λ b. bit_at b (p % 8)) (get_or_past bytes (p / 8) 0 (omega (arith, h))) ∙ zero_bit (p % 8)

-- ---- blocks of the stock

pub length_stock : (s : ℕ → Bool) (j : ℕ) → length (stock_block s j) ≡ 512
unfolding stock_block
length_stock s j = length-map-range_with_len (stock_byte s) (512 * j) 512

-- byte k of block j
pub stock_byte_lem : (s : ℕ → Bool) (j k : ℕ) → k < 512 → get_or (stock_block s j) k 0 ≡ stock_byte s (512 * j + k)
unfolding stock_block
stock_byte_lem s j k h = get_or-map-range_with_len (stock_byte s) (512 * j) 512 k (512 * j + k) 0 h refl

-- 512 bytes that are those of a set
stock_by : (s : ℕ → Bool) (j : ℕ) (xs : List ℕ) → length xs ≡ 512 → ((k : ℕ) → k < 512 → get_or xs k 0 ≡ stock_byte s (512 * j + k)) → xs ≡ stock_block s j
stock_by s j xs long same =
    let l = length_stock s j in
    ext_get_or 0 xs (stock_block s j) (long ∙ sym l) (λ k h. same k (omega (arith, h, long)) ∙ sym (stock_byte_lem s j k (omega (arith, h, long))))

pub stock_is_block : (s : ℕ → Bool) (j : ℕ) → is_block (stock_block s j) ≡ true
stock_is_block s j = block_from (stock_block s j) (length_stock s j) (under_from (stock_block s j) under)
  where
    under : (k : ℕ) → get_or (stock_block s j) k 0 < 256
    under k =
        ⊎_elim
        (λ h. subst (λ b. b < 256) (sym (stock_byte_lem s j k h)) (packed_lt s (8 * (512 * j + k)) 8))
        (λ h. subst (λ b. b < 256) (sym (get_or_past (stock_block s j) k 0 (omega (arith, h, length_stock s j)))) (omega arith))
        (cases_lt k 512)

-- blocks of sets that have the same of their numbers
pub stock_like : (s s' : ℕ → Bool) (j : ℕ) → ((p : ℕ) → 4096 * j ≤ p → p < 4096 * j + 4096 → s p ≡ s' p) → stock_block s j ≡ stock_block s' j
stock_like s s' j same =
    stock_by s' j (stock_block s j) (length_stock s j)
    (λ k h. stock_byte_lem s j k h ∙ packed_like s s' (8 * (512 * j + k)) 8 (λ t l. same (8 * (512 * j + k) + t) (omega arith) (omega arith)))

pub stock_with : (s : ℕ → Bool) (p j : ℕ) → j ≢ p / 4096 → stock_block (with s p) j ≡ stock_block s j
stock_with s p j other = stock_like (with s p) s j (λ q low high. with_other s p q (λ e. other (omega (arith, e, low, high))))

pub stock_without : (s : ℕ → Bool) (p j : ℕ) → j ≢ p / 4096 → stock_block (without s p) j ≡ stock_block s j
stock_without s p j other = stock_like (without s p) s j (λ q low high. without_other s p q (λ e. other (omega (arith, e, low, high))))

-- ---- all blocks of the stock

-- the eight blocks have each number as the set has it
pub set_packed_at : (s : ℕ → Bool) → ((p : ℕ) → 32768 ≤ p → s p ≡ false) → (p : ℕ) → in_set (joined (stock_block s) 0 8) p ≡ s p
set_packed_at s below p =
    ⊎_elim
    (λ h.
    let i : p / 8 ≡ 512 * (p / 8 / 512) + p / 8 % 512 = omega arith in
    set_back s bytes p (
    ap (λ k. get_or bytes k 0) i
    ∙ get_d_joined (stock_block s) 512 0 8 (p / 8 / 512) (p / 8 % 512) (λ b _ _. length_stock s b) (omega (arith, h)) (omega arith)
    ∙ ap (λ m. get_or (stock_block s m) (p / 8 % 512) 0) {y = p / 8 / 512} (omega arith)
    ∙ stock_byte_lem s (p / 8 / 512) (p / 8 % 512) (omega arith)
    ∙ ap (stock_byte s) (sym i)))
    (λ h. set_past bytes p (omega (arith, h, length_joined (stock_block s) 512 0 8 (λ b _ _. length_stock s b))) ∙ sym (below p h))
    (cases_lt p 32768)
  where
    bytes : List ℕ
    bytes = joined (stock_block s) 0 8

pub set_packed : (s : ℕ → Bool) → ((p : ℕ) → 32768 ≤ p → s p ≡ false) → in_set (joined (stock_block s) 0 8) ≡ s
set_packed s below = λ i p. set_packed_at s below p i

-- the set of the blocks has each block as it is
pub stock_exact : (part : ℕ → List ℕ) → ((j : ℕ) → j < 8 → is_block (part j) ≡ true) → (j : ℕ) → j < 8 → part j ≡ stock_block (in_set (joined part 0 8)) j
stock_exact part blocks j h =
    stock_by (in_set bytes) j (part j) (block_length (part j) (blocks j h)) (λ k l.
    let there : get_or bytes (512 * j + k) 0 ≡ get_or (part j) k 0 =
    get_d_joined part 512 0 8 j k (λ b _ c. block_length (part b) (blocks b (omega (arith, c)))) h l ∙ ap (λ m. get_or (part m) k 0) {y = j} (omega arith) in
    let under : get_or (part j) k 0 < 256 = under_at (part j) (block_under (part j) (blocks j h)) k in
    sym there ∙ sym (byte_back bytes (512 * j + k) (omega (arith, there, under))))
  where
    bytes : List ℕ
    bytes = joined part 0 8

-- 4,096 bytes, cut into blocks
pub bytes_exact : (bytes : List ℕ) → length bytes ≡ 4096 → Under256 bytes → (j : ℕ) → j < 8 → take 512 (drop (512 * j) bytes) ≡ stock_block (in_set bytes) j
bytes_exact bytes long under j h =
    stock_by (in_set bytes) j (take 512 (drop (512 * j) bytes)) (length-take-le 512 (drop (512 * j) bytes) (omega (arith, length-drop (512 * j) bytes, long, h)))
    (λ k l.
    get_or-take 512 (drop (512 * j) bytes) k 0 l
    ∙ get_or-drop (512 * j) bytes k 0
    ∙ sym (byte_back bytes (512 * j + k) (under_at bytes under (512 * j + k))))

-- ---- how many numbers there are

count_zero : (s : ℕ → Bool) → count_below s 0 ≡ 0
unfolding count_below
count_zero s = refl

count_split : (s : ℕ → Bool) (m n : ℕ) → count_below s (m + n) ≡ count_below s m + count_below (λ p. s (m + p)) n
unfolding count_below
count_split s m zero = ap (count_below s) {y = m} (omega arith) ∙ omega arith
count_split s m (suc n) =
    ap (count_below s) {y = suc (m + n)} (omega arith) ∙ omega (arith, count_split s m n)

-- the bits of a number
count_bits : (n b : ℕ) → b < 2 ^ n → count_below (bit_at b) n ≡ ones b
unfolding count_below ones
count_bits zero b h = ap ones {x = 0} {y = b} (omega (arith, pow-zero 2))
count_bits (suc n) b h =
    let first : count_below (bit_at b) 1 ≡ b % 2 = omega (arith, odd_bit b) in
    let rest : count_below (λ t. bit_at b (1 + t)) n ≡ ones (b / 2) =
    count_like (λ t. bit_at b (1 + t)) (bit_at (b / 2)) n (λ t l. ap (bit_at b) {x = 1 + t} {y = suc t} (omega arith))
    ∙ count_bits n (b / 2) (div_below b 2 (2 ^ n) (omega arith) (subst (λ k. b < k) (pow-suc 2 n) h)) in
    ap (count_below (bit_at b)) {x = suc n} {y = 1 + n} (omega arith) ∙ count_split (bit_at b) 1 n ∙ omega (arith, first, rest, ones_step b)

-- the numbers of the bytes behind the first
in_rest : (b : ℕ) (bs : List ℕ) (p : ℕ) → in_set (b ∷ bs) (8 + p) ≡ in_set bs p
unfolding in_set
in_rest b bs p =
    let e : (8 + p) / 8 ≡ suc (p / 8) = omega arith in
    let r : (8 + p) % 8 ≡ p % 8 = omega arith in
    λ i. bit_at (get_or (b ∷ bs) (e i) 0) (r i)

in_first : (b : ℕ) (bs : List ℕ) (t : ℕ) → t < 8 → in_set (b ∷ bs) t ≡ bit_at b t
in_first b bs t h = ap (in_set (b ∷ bs)) {y = 8 * 0 + t} (omega arith) ∙ in_byte (b ∷ bs) 0 t h

pub ones_below : (bytes : List ℕ) → Under256 bytes → ones_in bytes ≡ count_below (in_set bytes) (8 * length bytes)
unfolding ones_in
ones_below [] h = sym (count_zero (in_set []))
ones_below (b ∷ bs) h =
    let first : count_below (in_set (b ∷ bs)) 8 ≡ ones b =
    count_like (in_set (b ∷ bs)) (bit_at b) 8 (in_first b bs) ∙ count_bits 8 b (under_at (b ∷ bs) h 0) in
    let rest : count_below (λ p. in_set (b ∷ bs) (8 + p)) (8 * length bs) ≡ ones_in bs =
    count_like (λ p. in_set (b ∷ bs) (8 + p)) (in_set bs) (8 * length bs) (λ p _. in_rest b bs p) ∙ sym (ones_below bs (under_rest b bs h)) in
    sum_by-cons ones b bs
    ∙ omega (arith, first, rest)
    ∙ sym (count_split (in_set (b ∷ bs)) 8 (8 * length bs))
    ∙ ap (count_below (in_set (b ∷ bs))) (omega arith)

pub ones_counted : (bytes : List ℕ) → length bytes ≡ 4096 → Under256 bytes → ones_in bytes ≡ count_below (in_set bytes) 32768
ones_counted bytes long h = ones_below bytes h ∙ ap (count_below (in_set bytes)) (omega (arith, long))

pub set_below : (bytes : List ℕ) → length bytes ≡ 4096 → (p : ℕ) → 32768 ≤ p → in_set bytes p ≡ false
set_below bytes long p h = set_past bytes p (omega (arith, long, h))

-- ---- the stock that lies in blocks 6 to 13

pub stock_there : (blocks : ℕ → Entry) → stock_in blocks ≡ joined (λ j. bytes_of (blocks (6 + j))) 0 8
unfolding stock_in
stock_there blocks = joined_shift (λ b. bytes_of (blocks b)) 6 0 8

pub stock_reads : (blocks : ℕ → Entry) (s : ℕ → Bool) → ((p : ℕ) → 32768 ≤ p → s p ≡ false) →
    ((j : ℕ) → j < 8 → bytes_of (blocks (6 + j)) ≡ stock_block s j) → in_set (stock_in blocks) ≡ s
stock_reads blocks s below same =
    ap in_set (stock_there blocks ∙ joined_like (λ j. bytes_of (blocks (6 + j))) (stock_block s) 0 8 (λ j _ h. same j (omega (arith, h))))
    ∙ set_packed s below

-- its bytes, where each block is one
module _ (blocks : ℕ → Entry) (are : (j : ℕ) → j < 8 → is_block (bytes_of (blocks (6 + j))) ≡ true) where
  pub stock_there_length : length (stock_in blocks) ≡ 4096
  stock_there_length =
      ap length (stock_there blocks)
      ∙ length_joined (λ j. bytes_of (blocks (6 + j))) 512 0 8 (λ j _ h. block_length (bytes_of (blocks (6 + j))) (are j (omega (arith, h))))

  pub stock_there_under : Under256 (stock_in blocks)
  stock_there_under =
      subst Under256 (sym (stock_there blocks))
      (joined_under (λ j. bytes_of (blocks (6 + j))) 0 8 (λ j _ h. block_under (bytes_of (blocks (6 + j))) (are j (omega (arith, h)))))

  pub stock_there_exact : (j : ℕ) → j < 8 → bytes_of (blocks (6 + j)) ≡ stock_block (in_set (stock_in blocks)) j
  stock_there_exact j h = stock_exact (λ i. bytes_of (blocks (6 + i))) are j h ∙ ap (λ l. stock_block (in_set l) j) (sym (stock_there blocks))

  pub stock_there_counted : ones_in (stock_in blocks) ≡ count_below (in_set (stock_in blocks)) 32768
  stock_there_counted = ones_counted (stock_in blocks) stock_there_length stock_there_under

  pub stock_there_below : (p : ℕ) → 32768 ≤ p → in_set (stock_in blocks) p ≡ false
  stock_there_below = set_below (stock_in blocks) stock_there_length
