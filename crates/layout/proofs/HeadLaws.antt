-- The head: the numbers that are laid out are read back, and a head without a fault is exactly the layout of its numbers.
-- Assumes nothing.
use Rattle.std.proofs.Common.{◌≡◌, ℕ, ◌+◌, ◌*◌, ◌^◌, ◌<◌, min, true, eqb, ◌⊎◌, List, ◌++◌, length, take, drop, None, sym, refl, ap, ◌∙◌, inl, inr, arith, length-drop}
use lib.ListN.{length-replicate}
use Rattle.std.proofs.lemmas.Slice.Eq.{bytes_eq-Decides}
use Rattle.std.proofs.lemmas.List.{take_all}
use Rattle.std.proofs.lemmas.Bool.{and_from, and_parts, or_left, or_right, lt-ltb, le-leb, eq-eqb, ltb-true, leb-true, eqb-true}
use Rattle.fault.specs.declared.Damage.TheVariants as damage
use Rattle.octets.specs.Numbers.{little, number_at}
use Rattle.octets.specs.Zeros.{every, blank, zeros}
use Rattle.octets.proofs.Numbers.{little_bytes, value_little, bytes_there, zeros_there, cut}
use Rattle.octets.proofs.Under.{under_append, under_zeros, Under256}
use Rattle.octets.proofs.Zeros.{zeros_blank}
use Rattle.layout.proofs.Blocks.{block_length, block_under, block_from}
use Rattle.pairing.specs.Ranges.{Ranges, in_range, balanced}
use Rattle.pairing.specs.declared.counts.Counts.{Counts}
use Rattle.layout.specs.Layout.{head_of, mark}
use Rattle.layout.specs.Reading.{is_block, kind_in, counts_in, marked, known_kind, head_fault}
use Rattle.layout.proofs.Faults.{or_else_parts, or_else_none, unless_passes, unless_none}

-- ---- the numbers of a head

-- each fits into its bytes
fits : (n : Counts) → Ranges n → n.calls < 2 ^ 32 →
    (n.capacity < 256 ^ 2) × (n.sampled < 256 ^ 2) × (n.size < 256 ^ 2) × (n.c1 < 256 ^ 2) × (n.c2 < 256 ^ 2) × (n.calls < 256 ^ 8) × (n.words < 256 ^ 8)
fits n r few =
    let a = r.limits.1 in
    let b = r.sample.0 in
    let c = r.room in
    let d = r.usage in
    (omega (arith, a), omega (arith, a, b), omega (arith, c), omega (arith, c), omega (arith, c), omega (arith, few), omega (arith, few, d))

pub counts_read : (code : ℕ) (n : Counts) → Ranges n → n.calls < 2 ^ 32 → counts_in (head_of code n) ≡ n
unfolding counts_in head_of
counts_read code n r few =
    let f = fits n r few in
    λ i. record {
      capacity = value_little 2 n.capacity f.0 i;
      size = value_little 2 n.size f.2 i;
      sampled = value_little 2 n.sampled f.1 i;
      c1 = value_little 2 n.c1 f.3 i;
      c2 = value_little 2 n.c2 f.4 i;
      calls = value_little 8 n.calls f.5 i;
      words = value_little 8 n.words f.6 i;
    }

pub kind_read : (code : ℕ) (n : Counts) → code < 256 → kind_in (head_of code n) ≡ code
unfolding head_of
kind_read code n small = value_little 1 code small

-- ---- its bytes

pub length_head : (code : ℕ) (n : Counts) → length (head_of code n) ≡ 512
unfolding head_of
length_head code n = refl

-- bytes behind bytes
record BytesOnly (xs : List ℕ) : Type 0 where
  under : Under256 xs

both : {ys : List ℕ} (xs : List ℕ) → Under256 xs → BytesOnly ys → BytesOnly (xs ++ ys)
both {ys} xs a b = record { under = under_append xs ys a b.under }

number : {ys : List ℕ} (c n : ℕ) → BytesOnly ys → BytesOnly (little c n ++ ys)
number c n b = both (little c n) (little_bytes c n) b

none : {ys : List ℕ} (n : ℕ) → BytesOnly ys → BytesOnly (zeros n ++ ys)
none n b = both (zeros n) (under_zeros n) b

ends : (n : ℕ) → BytesOnly (zeros n)
ends n = record { under = under_zeros n }

pub under_head : (code : ℕ) (n : Counts) → Under256 (head_of code n)
unfolding head_of
under_head code n =
    (both mark refl
    (number 1 code
    (none 3
    (number 2 n.capacity
    (number 2 n.sampled
    (number 2 n.size
    (number 2 n.c1 (number 2 n.c2 (none 6 (number 8 n.calls (number 8 n.words (ends 472)))))))))))
    ).under

pub head_is_block : (code : ℕ) (n : Counts) → is_block (head_of code n) ≡ true
head_is_block code n = block_from (head_of code n) (length_head code n) (under_head code n)

pub head_marked : (code : ℕ) (n : Counts) → marked (head_of code n) ≡ true
unfolding head_of
head_marked code n = ap (every blank) (take_all 472 (zeros 472) (omega (arith, length-replicate {A = ℕ} 472 0))) ∙ zeros_blank 472

-- ---- faults

-- a head with the right numbers has no fault
pub head_passes : (code : ℕ) (xs : List ℕ) → marked xs ≡ true → known_kind (kind_in xs) ≡ true → in_range (counts_in xs) ≡ true → balanced (counts_in xs) ≡ true →
    eqb (kind_in xs) code ≡ true → head_fault code xs ≡ None
unfolding head_fault
head_passes code xs a b c d e =
    or_else_none _ _ (unless_none _ 0 damage.Mark a)
    (or_else_none _ _ (unless_none _ 0 damage.Range b)
    (or_else_none _ _ (unless_none _ 0 damage.Range c)
    (or_else_none _ _ (unless_none _ 0 damage.Disagreement d) (unless_none _ 0 damage.OtherKind e))))

-- what a head without a fault has
pub record Faultless (code : ℕ) (xs : List ℕ) : Type 0 where
  pub marks : marked xs ≡ true
  pub known : known_kind (kind_in xs) ≡ true
  pub ranges : in_range (counts_in xs) ≡ true
  pub balance : balanced (counts_in xs) ≡ true
  pub kind : eqb (kind_in xs) code ≡ true

pub head_passed : (code : ℕ) (xs : List ℕ) → head_fault code xs ≡ None → Faultless code xs
unfolding head_fault
head_passed code xs h =
    let a = or_else_parts _ _ h in
    let b = or_else_parts _ _ a.1 in
    let c = or_else_parts _ _ b.1 in
    let d = or_else_parts _ _ c.1 in
    record {
      marks = unless_passes _ 0 damage.Mark a.0;
      known = unless_passes _ 0 damage.Range b.0;
      ranges = unless_passes _ 0 damage.Range c.0;
      balance = unless_passes _ 0 damage.Disagreement d.0;
      kind = unless_passes _ 0 damage.OtherKind d.1;
    }

-- ---- ranges

pub in_range_lem : (n : Counts) → Ranges n → n.calls < 2 ^ 32 → in_range n ≡ true
in_range_lem n r few =
    and_from _ _ (and_from _ _ (le-leb 1 n.capacity r.limits.0) (le-leb n.capacity 512 r.limits.1))
    (and_from _ _ (and_from _ _ (le-leb n.sampled n.capacity r.sample.0) (le-leb n.sampled n.size r.sample.1))
    (and_from _ _ (le-leb (n.size + (n.c1 + n.c2)) 32768 r.room)
    (and_from _ _ (lt-ltb n.calls (2 ^ 32) few) (le-leb n.words (64 * n.calls) r.usage))))

pub range_parts : (n : Counts) → in_range n ≡ true → balanced n ≡ true → Ranges n × (n.calls < 2 ^ 32)
range_parts n h e =
    let a = and_parts _ _ h in
    let limits = and_parts _ _ a.0 in
    let b = and_parts _ _ a.1 in
    let sample = and_parts _ _ b.0 in
    let c = and_parts _ _ b.1 in
    let d = and_parts _ _ c.1 in (
      record {
        limits = (leb-true 1 n.capacity limits.0, leb-true n.capacity 512 limits.1);
        sample = (leb-true n.sampled n.capacity sample.0, leb-true n.sampled n.size sample.1);
        room = leb-true (n.size + (n.c1 + n.c2)) 32768 c.0;
        balance = eqb-true (n.sampled + n.c1) (min n.capacity (n.size + (n.c1 + n.c2))) e;
        usage = leb-true n.words (64 * n.calls) d.1;
      },
      ltb-true n.calls (2 ^ 32) d.0,
    )

-- ---- the laws

-- the codes of the kinds
abbrev pub Known : ℕ → Type 0
Known code = (code ≡ 1) ⊎ (code ≡ 2)

known_small : (code : ℕ) → Known code → code < 256
known_small code (inl e) = omega (arith, e)
known_small code (inr e) = omega (arith, e)

known_kind_lem : (code : ℕ) → Known code → known_kind code ≡ true
known_kind_lem code (inl e) = or_left (eqb code 1) (eqb code 2) (eq-eqb code 1 e)
known_kind_lem code (inr e) = or_right (eqb code 1) (eqb code 2) (eq-eqb code 2 e)

pub head_reads : (code : ℕ) (n : Counts) → Known code → Ranges n → n.calls < 2 ^ 32 → (head_fault code (head_of code n) ≡ None) × (counts_in (head_of code n) ≡ n)
head_reads code n k r few =
    let counts = counts_read code n r few in
    let kind = kind_read code n (known_small code k) in (
      head_passes code (head_of code n) (head_marked code n) (ap known_kind kind ∙ known_kind_lem code k) (ap in_range counts ∙ in_range_lem n r few)
          (ap balanced counts ∙ eq-eqb (n.sampled + n.c1) (min n.capacity (n.size + (n.c1 + n.c2))) r.balance)
          (eq-eqb (kind_in (head_of code n)) code kind),
      counts,
    )

-- the bytes of a marked head, part by part
pub head_bytes : (xs : List ℕ) → length xs ≡ 512 → Under256 xs → marked xs ≡ true → xs ≡ head_of (kind_in xs) (counts_in xs)
unfolding head_of counts_in
head_bytes xs long under h =
    let a = and_parts _ _ h in
    let b = and_parts _ _ a.1 in
    let c = and_parts _ _ b.1 in
    cut xs mark _ 0 4 4 refl ((bytes_eq-Decides (take 4 xs) mark).0 a.0)
    (cut xs (little 1 (number_at xs 4 1)) _ 4 1 5 refl (bytes_there xs 4 1 (omega (arith, long)) under)
    (cut xs (zeros 3) _ 5 3 8 refl (zeros_there xs 5 3 (omega (arith, long)) b.0)
    (cut xs (little 2 (number_at xs 8 2)) _ 8 2 10 refl (bytes_there xs 8 2 (omega (arith, long)) under)
    (cut xs (little 2 (number_at xs 10 2)) _ 10 2 12 refl (bytes_there xs 10 2 (omega (arith, long)) under)
    (cut xs (little 2 (number_at xs 12 2)) _ 12 2 14 refl (bytes_there xs 12 2 (omega (arith, long)) under)
    (cut xs (little 2 (number_at xs 14 2)) _ 14 2 16 refl (bytes_there xs 14 2 (omega (arith, long)) under)
    (cut xs (little 2 (number_at xs 16 2)) _ 16 2 18 refl (bytes_there xs 16 2 (omega (arith, long)) under)
    (cut xs (zeros 6) _ 18 6 24 refl (zeros_there xs 18 6 (omega (arith, long)) c.0)
    (cut xs (little 8 (number_at xs 24 8)) _ 24 8 32 refl (bytes_there xs 24 8 (omega (arith, long)) under)
    (cut xs (little 8 (number_at xs 32 8)) _ 32 8 40 refl (bytes_there xs 32 8 (omega (arith, long)) under)
    (sym (take_all 472 (drop 40 xs) (omega (arith, long, length-drop 40 xs))) ∙ zeros_there xs 40 472 (omega (arith, long)) c.1)))))))))))

pub head_exact : (code : ℕ) (xs : List ℕ) → is_block xs ≡ true → head_fault code xs ≡ None →
    (xs ≡ head_of code (counts_in xs)) × Ranges (counts_in xs) × ((counts_in xs).calls < 2 ^ 32)
head_exact code xs block none =
    let f = head_passed code xs none in
    let r = range_parts (counts_in xs) f.ranges f.balance in (
      head_bytes xs (block_length xs block) (block_under xs block) f.marks
          ∙ ap (λ k. head_of k (counts_in xs)) (eqb-true (kind_in xs) code f.kind),
      r.0,
      r.1,
    )
