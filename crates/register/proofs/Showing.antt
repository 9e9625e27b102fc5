-- The page that Report fills, block by block.
-- Assumes nothing.
use Rattle.std.proofs.Common.{◌≡◌, ℕ, zero, suc, ◌+◌, ◌*◌, ◌<◌, ◌≤◌, true, ltb, List, ◌++◌, length, take, drop, IsErrAnd, Ok, Err, Option, Result, sym, refl, ap, ◌∙◌, subst, inr, append_assoc, arith, length-append}
use Rattle.std.proofs.lemmas.List.{take_at, drop_at, drop-drop}
use Rattle.fault.specs.Refusals.{too_short}
use Rattle.fault.specs.declared.Fault.{Fault}
use Rattle.device.specs.Disk.{Disk}
use Rattle.octets.specs.Edits.{written, placed}
use Rattle.octets.specs.Zeros.{every}
use Rattle.octets.proofs.Edits.{placed_fits}
use Rattle.pairing.specs.Reservoir.{Reservoir}
use Rattle.pairing.specs.Steps.{counts_of}
use Rattle.pairing.specs.declared.counts.Counts.{Counts}
use Rattle.journal.proofs.Writes.{exit_is}
use Rattle.layout.specs.Layout.{Laid, joined, content}
use Rattle.layout.proofs.Blocks.{block_length, joined_push}
use Rattle.plans.specs.Plans.{refused_if, at_rest, reporting, reported}
use Rattle.plans.proofs.Contents.{content_is_block}
use Rattle.register.specs.Reports.{Shown, refused, shown}
use Rattle.register.proofs.Checks.{Answers, one_lost_lem, one_passed}

-- the j-th block of slots
pub block_laid : (j : ℕ) → j < 64 → Laid (14 + j)
block_laid j h = inr (omega arith, omega arith)

-- ---- block by block

-- the page with j parts written over it, from the i-th on
abbrev pub shown_over : (ℕ → List ℕ) → ℕ → ℕ → List ℕ → List ℕ
shown_over part i j page = joined part i j ++ drop (512 * j) page

module _ (part : ℕ → List ℕ) (sized : (b : ℕ) → length (part b) ≡ 512) where
  length_joined : (i j : ℕ) → length (joined part i j) ≡ 512 * j
  length_joined i zero = refl
  length_joined i (suc j) = length-append (part i) (joined part (i + 1) j) ∙ omega (arith, sized i, length_joined (i + 1) j)

  -- one part more
  part_more :
      (i j at : ℕ) (page now new : List ℕ) → at ≡ 512 * j → now ≡ shown_over part i j page → new ≡ part (i + j) →
      written now at new ≡ shown_over part i (j + 1) page
  part_more i j at page now new here is own =
      let front = length_joined i j in
      let size : length new ≡ 512 = ap length own ∙ sized (i + j) in
      let start : take at now ≡ joined part i j =
      ap (take at) is ∙ take_at (joined part i j) (drop (512 * j) page) at (omega (arith, front, here)) in
      let skip : drop (512 * j) now ≡ drop (512 * j) page =
      ap (drop (512 * j)) is ∙ drop_at (joined part i j) (drop (512 * j) page) (512 * j) front in
      let after : at + length new ≡ 512 * j + 512 = omega (arith, here, size) in
      let next : 512 * j + 512 ≡ 512 * (j + 1) = omega arith in
      let rest : drop (at + length new) now ≡ drop (512 * (j + 1)) page =
      ap (λ n. drop n now) after ∙ sym (drop-drop 512 (512 * j) now) ∙ ap (drop 512) skip ∙ drop-drop 512 (512 * j) page
      ∙ ap (λ n. drop n page) next in
      (λ k. start k ++ (own k ++ rest k))
      ∙ sym (append_assoc (joined part i j) (part (i + j)) (drop (512 * (j + 1)) page))
      ∙ ap (λ l. l ++ drop (512 * (j + 1)) page) (sym (joined_push part i j))

module _ {X : Type 0} (code : ℕ) (form : X → List ℕ) (sized : (x : X) → length (form x) ≡ 60)
    (bounded : (x : X) → every (λ b. ltb b 256) (form x) ≡ true) (s : Reservoir X) (page : List ℕ) where
  -- one block more
  pub shown_more :
      (j at : ℕ) (now new now' : List ℕ) → at ≡ 512 * j → 512 * j + 512 ≤ length now → now ≡ shown_over (content code form s) 14 j page →
      new ≡ content code form s (14 + j) → now' ≡ placed now at new →
      now' ≡ shown_over (content code form s) 14 (j + 1) page
  shown_more j at now new now' here room is own put =
      put
      ∙ placed_fits now new at (omega (arith, here, room, ap length own, block_sized (14 + j)))
      ∙ part_more (content code form s) block_sized 14 j at page now new here is own
    where
      block_sized : (b : ℕ) → length (content code form s b) ≡ 512
      block_sized b = block_length (content code form s b) (content_is_block code form sized bounded s b)

-- all 64
pub shown_all :
    {X : Type 0} (code : ℕ) (form : X → List ℕ) (s : Reservoir X) (page : List ℕ) (j : ℕ) (now : List ℕ) → j ≡ 64 →
    now ≡ shown_over (content code form s) 14 j page → now ≡ reported code form s page
unfolding reported
shown_all code form s page j now e is = is ∙ ap (λ n. shown_over (content code form s) 14 n page) e

-- ---- the answer

module _ {X : Type 0} (code : ℕ) (form : X → List ℕ) (reading : List ℕ → Option X) (d : Disk) (page : List ℕ) where
  abbrev checked : Result (Unit {0}) Fault
  checked = refused_if (ltb (length page) 32768) too_short (Ok tt)

  -- the exit of a `?`
  left_as_it_was : (r : Result Counts Fault) (x : Fault) → IsErrAnd r (λ y. y ≡ x) → reporting code reading d page ≡ Err x → Shown code form reading d page r page
  left_as_it_was r x h e = subst (λ r. Shown code form reading d page r page) (sym (exit_is h)) (refused e)

  pub too_short_lem : (r : Result Counts Fault) (x : Fault) → IsErrAnd r (λ y. y ≡ x) → Answers (Err x) checked → Shown code form reading d page r page
  too_short_lem r x h e = left_as_it_was r x h (one_lost_lem (ltb (length page) 32768) too_short x (at_rest code reading d) e)

  module _ (u : Unit {0}) (long : Answers (Ok u) checked) where
    read_first : reporting code reading d page ≡ at_rest code reading d
    read_first = ap (λ b. refused_if b too_short (at_rest code reading d)) (one_passed (ltb (length page) 32768) too_short u long)

    pub unread : (r : Result Counts Fault) (x : Fault) → IsErrAnd r (λ y. y ≡ x) → at_rest code reading d ≡ Err x → Shown code form reading d page r page
    unread r x h e = left_as_it_was r x h (read_first ∙ e)

    pub all_shown :
        (s : Reservoir X) (n : Counts) (page' : List ℕ) → at_rest code reading d ≡ Ok s → n ≡ counts_of s → page' ≡ reported code form s page →
        Shown code form reading d page (Ok n) page'
    all_shown s n page' e counts is =
        subst (λ n. Shown code form reading d page (Ok n) page') (sym counts)
        (subst (λ p. Shown code form reading d page (Ok (counts_of s)) p) (sym is) (shown (read_first ∙ e)))
