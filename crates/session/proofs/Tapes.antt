-- Draws from a tape of small words: one word for each draw of a width above 1.
-- Assumes nothing.
use Rattle.std.proofs.Common.{◌≡◌, ℕ, zero, suc, ◌+◌, ◌-◌, ◌%◌, ◌<◌, ◌≤◌, ltb, List, length, get_or, Some, None, Option, sym, refl, ap, ◌∙◌, subst, inl, inr, add-zero, zero-add, arith, length-append}
use lib.ListN.{length-replicate, get_or-replicate}
use Rattle.std.specs.List.{AllByRecursion}
use Rattle.std.proofs.lemmas.List.{get_or_append_left, get_or-append_right}
use Rattle.std.proofs.lemmas.Bool.{cases_eq, cases_lt, cond-true, cond-false, lt-ltb, le-ltb}
use Rattle.octets.specs.Zeros.{zeros}
use Rattle.words.specs.Draws.{limit, draw_of}
use Rattle.words.specs.declared.draws.Drawn.{Drawn}
use Rattle.words.proofs.Limits.{limit_largest}
use Rattle.words.proofs.Looks.{draw_sure, draw_wide, looked_low, looked_none}
use Rattle.session.specs.Law.{Below, none, next, words_of, tape_of}

-- n words, each below 32,768
pub record Tape (n : ℕ) (words : ℕ → Option ℕ) : Type 0 where
  pub word : (k : ℕ) → k < n → (v : ℕ) × (words k ≡ Some v) × (v < 32768)
  pub ends : (k : ℕ) → n ≤ k → words k ≡ None

-- what a draw of the width w comes to at the place k
pub data Draws (n w k : ℕ) (words : ℕ → Option ℕ) : Option Drawn → Type 0 where
  sure : w ≡ 1 → Draws n w k words (Some (record { value = 0; used = 0 }))
  word : (v : ℕ) → 2 ≤ w → k < n → words k ≡ Some v → Draws n w k words (Some (record { value = v % w; used = 1 }))
  missing : 2 ≤ w → n ≤ k → Draws n w k words None

-- words below 32,768 are below the limit of every width
limit_high : (w : ℕ) → 1 ≤ w → w ≤ 32768 → 32768 ≤ limit w
limit_high w least most = omega (arith, (limit_largest w least).2 32768 (omega arith))

module _ {n : ℕ} {words : ℕ → Option ℕ} (tape : Tape n words) (w k : ℕ) (least : 1 ≤ w) (most : w ≤ 32768) where
  draws_here : Draws n w k words (draw_of words w k)
  draws_here =
      elim (cases_eq w 1) [
        | inl one ↦ subst (Draws n w k words) (sym (draw_sure words w k one)) (sure one)
        | inr more ↦
            elim (cases_lt k n) [
              | inl inside ↦
                  let t = tape.word k inside in
                  subst (Draws n w k words)
                  (sym (draw_wide words w k more
                  ∙ looked_low words w k 0 64 63 (omega arith) t.0 (ap words (add-zero k) ∙ t.1) (omega (arith, t.2, limit_high w least most))))
                  (word t.0 (omega arith) inside t.1)
              | inr beyond ↦
                  subst (Draws n w k words)
                  (sym (draw_wide words w k more ∙ looked_none words w k 0 64 63 (omega arith) (ap words (add-zero k) ∙ tape.ends k beyond)))
                  (missing (omega arith) beyond)
            ]
      ]

  pub draws : {o : Option Drawn} → draw_of words w k ≡ o → Draws n w k words o
  draws is = subst (Draws n w k words) is draws_here

-- ---- the tapes of a session

-- the words from a place on begin with these
abbrev pub Begins : (ℕ → Option ℕ) → ℕ → List ℕ → Type 0
Begins words place ds = (i : ℕ) → i < length ds → words (place + i) ≡ Some (get_or ds i 0)

tape_of_lem : (n : ℕ) (words : List ℕ) → length words ≡ n → ((k : ℕ) → k < n → get_or words k 0 < 32768) → Tape n (words_of words)
tape_of_lem n words long small = record {
  word = λ k l. (get_or words k 0, cond-true (ltb k (length words)) _ _ (lt-ltb k (length words) (omega arith)), small k l);
  ends = λ k l. cond-false (ltb k (length words)) _ _ (le-ltb k (length words) (omega arith));
}

pub zeros_tape : (n : ℕ) → Tape n (words_of (zeros n))
zeros_tape n = tape_of_lem n (zeros n) (length-replicate {A = ℕ} n 0) (λ k l. omega (arith, get_or-replicate {A = ℕ} n k 0 0 l))

below_long : {ws ds : List ℕ} → Below ws ds → length ds ≡ length ws
below_long none = refl
below_long (next l b) = ap suc (below_long b)

below_small : {ws ds : List ℕ} → Below ws ds → AllByRecursion (λ w. w ≤ 32768) ws → (k : ℕ) → k < length ds → get_or ds k 0 < 32768
below_small none most k l = absurd (omega arith)
below_small (next l b) most zero h = omega (arith, most.0)
below_small (next l b) most (suc k) h = below_small b most.1 k (omega arith)

module _ (n : ℕ) {ws ds : List ℕ} (below : Below ws ds) (most : AllByRecursion (λ w. w ≤ 32768) ws) (few : length ws ≤ n) where
  tape_long : length (tape_of n ds) ≡ n
  tape_long = omega (arith, length-append ds (zeros (n - length ds)), length-replicate {A = ℕ} (n - length ds) 0, below_long below)

  tape_small : (k : ℕ) → k < n → get_or (tape_of n ds) k 0 < 32768
  tape_small k l =
      elim (cases_lt k (length ds)) [
        | inl inside ↦ omega (arith, get_or_append_left ds (zeros (n - length ds)) 0 k inside, below_small below most k inside)
        | inr beyond ↦
            omega (
              arith,
              get_or-append_right ds (zeros (n - length ds)) (length ds) k 0 refl beyond,
              get_or-replicate {A = ℕ} (n - length ds) (k - length ds) 0 0 (omega arith),
            )
      ]

  pub draws_tape : Tape n (words_of (tape_of n ds))
  draws_tape = tape_of_lem n (tape_of n ds) tape_long tape_small

  pub tape_begins : Begins (words_of (tape_of n ds)) 0 ds
  tape_begins i l =
      ap (words_of (tape_of n ds)) (zero-add i)
      ∙ cond-true (ltb i (length (tape_of n ds))) _ _ (lt-ltb i (length (tape_of n ds)) (omega (arith, tape_long, below_long below)))
      ∙ ap Some (get_or_append_left ds (zeros (n - length ds)) 0 i l)
