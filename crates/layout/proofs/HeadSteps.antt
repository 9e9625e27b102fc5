-- A head, written piece by piece and read test by test.
-- Assumes nothing.
use Rattle.std.proofs.Common.{leb, ltb, ◌&&◌, ◌+◌, ◌*◌, ◌≡◌, ℕ, ◌%◌, ◌^◌, ◌<◌, Bool, true, false, eqb, List, [], ◌∷◌, get_or, Ok, Err, Result, sym, refl, ap, ◌∙◌, arith}
use Rattle.std.proofs.lemmas.Bool.{and_parts, ltb-true, eq-eqb, ne_eqb, false_from_ne_true}
use Rattle.fault.specs.Refusals.{not_register}
use Rattle.fault.specs.declared.Damage.TheVariants as damage
use Rattle.fault.specs.declared.Fault.{Fault}
use Rattle.octets.specs.Numbers.{little, number_at}
use Rattle.octets.specs.Zeros.{zeros}
use Rattle.octets.proofs.Numbers.{number_more}
use Rattle.pairing.specs.Ranges.{in_range, balanced}
use Rattle.pairing.specs.declared.counts.Counts.{Counts}
use Rattle.octets.specs.Edits.{placed}
use Rattle.layout.specs.Layout.{mark, head_of}
use Rattle.std.specs.Option.{option_or}
use Rattle.layout.specs.Reading.{unless, unless_fault, marked, kind_in, known_kind, counts_in, counts_fault, head_fault}

-- ---- written

-- all pieces, at their places
abbrev pieces : ℕ → Counts → List ℕ
pieces code n =
    placed (placed (placed (placed (placed (placed (placed (placed (placed (zeros 512) 0 mark) 4 (little 1 code))
    8 (little 2 n.capacity)) 10 (little 2 n.sampled)) 12 (little 2 n.size)) 14 (little 2 n.c1)) 16 (little 2 n.c2))
    24 (little 8 n.calls)) 32 (little 8 n.words)

pieces_are : (code : ℕ) (n : Counts) → pieces code n ≡ head_of code n
unfolding head_of
pieces_are code n = refl

pub one_byte : (code : ℕ) → code < 256 → code ∷ [] ≡ little 1 code
one_byte code h = let e : code ≡ code % 256 = omega arith in ap (λ b. b ∷ []) e

pub head_made : (code : ℕ) (n m : Counts) (f : List ℕ) → m ≡ n → f ≡ pieces code m → f ≡ head_of code n
head_made code n m f is made = made ∙ pieces_are code m ∙ ap (head_of code) is

-- ---- read

pub kind_is : (xs : List ℕ) → get_or xs 4 0 ≡ kind_in xs
kind_is xs = let e = number_more xs 4 0 in omega arith

pub counts_are : (xs : List ℕ) (m n k c1 c2 q w : ℕ) →
    m ≡ number_at xs 8 2 → n ≡ number_at xs 12 2 → k ≡ number_at xs 10 2 → c1 ≡ number_at xs 14 2 → c2 ≡ number_at xs 16 2 → q ≡ number_at xs 24 8 → w ≡ number_at xs 32 8 →
    ◌≡◌ {A = Counts} (record { capacity = m; size = n; sampled = k; c1 = c1; c2 = c2; calls = q; words = w }) (counts_in xs)
unfolding counts_in
counts_are xs m n k c1 c2 q w at-m at_n at-k at-c1 at-c2 at-q at-w =
    λ i. record { capacity = at-m i; size = at_n i; sampled = at-k i; c1 = at-c1 i; c2 = at-c2 i; calls = at-q i; words = at-w i }

pub calls_in : (xs : List ℕ) → (counts_in xs).calls ≡ number_at xs 24 8
unfolding counts_in
calls_in xs = refl

test_4 : (a b c d e : Bool) → (a && (b && (c && (d && e)))) ≡ true → d ≡ true
test_4 a b c d e h = (and_parts d e (and_parts c (d && e) (and_parts b (c && (d && e)) (and_parts a _ h).1).1).1).0

pub calls_fit : (n : Counts) → in_range n ≡ true → n.calls < 2 ^ 32
calls_fit n h = ltb-true n.calls (2 ^ 32) (test_4 _ _ (leb (n.size + (n.c1 + n.c2)) 32768) (ltb n.calls (2 ^ 32)) (leb n.words (64 * n.calls)) h)

-- the five tests of a head
abbrev read : Counts → Bool → Bool → Bool → Bool → Bool → Result Counts Fault
read n marks kind range sum own =
    unless_fault (option_or (unless marks 0 damage.Mark) (option_or (unless kind 0 damage.Range) (option_or (unless range 0 damage.Range)
    (option_or (unless sum 0 damage.Disagreement) (unless own 0 damage.OtherKind))))) n

-- the numbers are refused for the first test that they do not pass, or pass both
refused : (n : Counts) (range sum own : Bool) (f : Fault) →
    Err f ≡ unless_fault (option_or (unless range 0 damage.Range) (unless sum 0 damage.Disagreement)) n → Err f ≡ read n true true range sum own
refused n false sum own f is = is
refused n true false own f is = is
refused n true true own f is = cc

passed : (n : Counts) (range sum : Bool) (counts : Counts) →
    Ok counts ≡ unless_fault (option_or (unless range 0 damage.Range) (unless sum 0 damage.Disagreement)) n → (range ≡ true) × (sum ≡ true) × (counts ≡ n)
passed n false sum counts is = cc
passed n true false counts is = cc
passed n true true counts is = (refl, refl, cc)

module _ (code : ℕ) (xs : List ℕ) where
  abbrev head_answer : Result Counts Fault
  head_answer = unless_fault (head_fault code xs) (counts_in xs)

  -- the tests that the code has not come to
  abbrev known : Bool
  known = known_kind (kind_in xs)

  abbrev range : Bool
  range = in_range (counts_in xs)

  abbrev sum : Bool
  sum = balanced (counts_in xs)

  abbrev own : Bool
  own = eqb (kind_in xs) code

  pub head_mark : (f : Fault) → f ≡ not_register 0 damage.Mark → marked xs ≡ false → Err f ≡ head_answer
  unfolding head_fault
  head_mark f is m = ap Err is ∙ sym (λ i. read (counts_in xs) (m i) known range sum own)

  module _ (m : marked xs ≡ true) (kind : ℕ) (kind-here : kind ≡ kind_in xs) where
    pub head_kind : (f : Fault) → f ≡ not_register 0 damage.Range → known_kind kind ≡ false → Err f ≡ head_answer
    unfolding head_fault
    head_kind f is k = ap Err is ∙ sym (λ i. read (counts_in xs) (m i) ((ap known_kind (sym kind-here) ∙ k) i) range sum own)

    module _ (k : known_kind kind ≡ true) where
      is_known : known ≡ true
      is_known = ap known_kind (sym kind-here) ∙ k

      pub head_range : (f : Fault) → f ≡ not_register 0 damage.Range → (range ≡ true → ⊥) → Err f ≡ head_answer
      unfolding head_fault
      head_range f is never = ap Err is ∙ sym (λ i. read (counts_in xs) (m i) (is_known i) (false_from_ne_true range never i) sum own)

      pub head_sum : (f : Fault) → Err f ≡ unless_fault (counts_fault (counts_in xs)) (counts_in xs) → Err f ≡ head_answer
      unfolding head_fault
      head_sum f is = refused (counts_in xs) range sum own f is ∙ sym (λ i. read (counts_in xs) (m i) (is_known i) range sum own)

      module _ (counts : Counts) (made : Ok counts ≡ unless_fault (counts_fault (counts_in xs)) (counts_in xs)) where
        pub head_other : (f : Fault) → f ≡ not_register 0 damage.OtherKind → (kind ≡ code → ⊥) → Err f ≡ head_answer
        unfolding head_fault
        head_other f is never =
            let other : own ≡ false = ne_eqb _ _ (λ e. never (kind-here ∙ e)) in
            let p = passed (counts_in xs) range sum counts made in
            ap Err is ∙ sym (λ i. read (counts_in xs) (m i) (is_known i) (p.0 i) (p.1 i) (other i))

        pub head_read : kind ≡ code → Ok counts ≡ head_answer
        unfolding head_fault
        head_read e =
            let o : own ≡ true = eq-eqb _ _ (sym kind-here ∙ e) in
            let p = passed (counts_in xs) range sum counts made in
            ap Ok p.2 ∙ sym (λ i. read (counts_in xs) (m i) (is_known i) (p.0 i) (p.1 i) (o i))
