-- The table while the lines of a scan fill it. Assumes nothing.
use Rattle.std.proofs.Common.{◌≡◌, ℕ, suc, ◌+◌, ◌<◌, ◌≤◌, Bool, true, false, cond, ◌||◌, eqb, List, [], ◌∷◌, ◌++◌, map, length, get_or, take, drop, set, Some, None, Option, sym, refl, ap, ◌∙◌, subst, append_assoc, append-nil, arith}
use Rattle.std.proofs.lemmas.List.{length-append, length-take-le, take-append-drop, take_more_set, drop-set-lt, drop-drop, at_drop_more, at_drop_all, length-set}
use Rattle.std.specs.Option.{option_to_list}
use Rattle.intake.specs.Field.{Holds, Scanned, scan_of, scanned, confirm_of}
use Rattle.intake.specs.Lines.{Entry, lines_after, passed, entry_of, entries}
use Rattle.intake.specs.declared.field.State.{State}

-- i bytes are scanned, and count lines have filled the table, which was `start`
pub record Filled (input : List ℕ) (start : List Entry) (i count : ℕ) (state : State) (bytes : List ℕ) (table : List Entry) : Type 0 where
  pub line : List ℕ
  pub holds : Holds line state bytes
  pub within : count ≤ length table
  pub front : take count table ++ map entry_of (lines_after line (drop i input)) ≡ entries input
  pub back : drop count table ≡ drop count start

-- ---- the lines from a byte on

passed_entries : (line : List ℕ) (later : List (List ℕ)) → map entry_of (passed line later) ≡ option_to_list (confirm_of line) ++ map entry_of later
passed_entries [] later = refl
passed_entries (x ∷ xs) later = refl

pub entries_more : (line : List ℕ) (b : ℕ) (bs : List ℕ)
    → map entry_of (lines_after line (b ∷ bs)) ≡ option_to_list (scan_of line b) ++ map entry_of (lines_after (scanned line b) bs)
unfolding lines_after
entries_more line b bs = by_byte (eqb b 10) (eqb b 24)
  where
    by_byte : (t k : Bool)
        → map entry_of (cond t (passed line (lines_after [] bs)) (cond k (lines_after [] bs) (lines_after (line ++ b ∷ []) bs)))
        ≡ option_to_list (cond t (confirm_of line) None) ++ map entry_of (lines_after (cond (t || k) [] (line ++ b ∷ [])) bs)
    by_byte true k = passed_entries line (lines_after [] bs)
    by_byte false true = refl
    by_byte false false = refl

pub entries_none : (line : List ℕ) → lines_after line [] ≡ []
unfolding lines_after
entries_none line = refl

-- ---- one byte on

module _ (input : List ℕ) (start : List Entry) (i count : ℕ) (state : State) (bytes : List ℕ) (table : List Entry)
    (f : Filled input start i count state bytes table) (here : i < length input) where
  -- the entries that are left, once the byte is scanned
  rest : List Entry
  rest = map entry_of (lines_after (scanned f.line (get_or input i 0)) (drop (i + 1) input))

  front_more : (r : Option Entry) (state' : State) (bytes' : List ℕ) → Scanned f.line (get_or input i 0) r state' bytes'
      → take count table ++ (option_to_list r ++ rest) ≡ entries input
  unfolding rest
  front_more r state' bytes' s =
      ap (λ xs. take count table ++ xs)
      (ap (λ o. option_to_list o ++ rest) s.answers
      ∙ sym (entries_more f.line (get_or input i 0) (drop (i + 1) input))
      ∙ sym (at_drop_more (λ xs. map entry_of (lines_after f.line xs)) input i 0 here))
      ∙ f.front

  -- nothing was confirmed
  pub filled_same : (state' : State) (bytes' : List ℕ) → Scanned f.line (get_or input i 0) None state' bytes'
      → Filled input start (i + 1) count state' bytes' table
  unfolding rest
  filled_same state' bytes' s =
      record {
        line = scanned f.line (get_or input i 0);
        holds = s.holds;
        within = f.within;
        front = front_more None state' bytes' s;
        back = f.back;
      }

  -- an entry was answered: the table has room for it
  module _ (e : Entry) (state' : State) (bytes' : List ℕ) (s : Scanned f.line (get_or input i 0) (Some e) state' bytes') where
    pub room_more : length (entries input) ≤ length table → count < length table
    room_more fits =
        let whole : length (take count table) + suc (length rest) ≡ length (entries input) = sym (length-append (take count table) (e ∷ rest)) ∙ ap length (front_more (Some e) state' bytes' s) in
        let taken : length (take count table) ≡ count = length-take-le count table f.within in
        omega arith

    pub filled_more : count < length table → Filled input start (i + 1) (count + 1) state' bytes' (set table count e)
    unfolding rest
    filled_more room =
        record {
          line = scanned f.line (get_or input i 0);
          holds = s.holds;
          within = simp length-set (omega arith);
          front =
              ap (λ xs. xs ++ rest) (take_more_set table count e room)
              ∙ append_assoc (take count table) (e ∷ []) rest
              ∙ front_more (Some e) state' bytes' s;
          back =
              drop-set-lt (count + 1) table count e (omega arith)
              ∙ sym (drop-drop 1 count table)
              ∙ ap (drop 1) f.back
              ∙ drop-drop 1 count start;
        }

-- ---- at the end

module _ (input : List ℕ) (start : List Entry) (i count : ℕ) (state : State) (bytes : List ℕ) (table : List Entry)
    (f : Filled input start i count state bytes table) (end : length input ≤ i) where
  front_all : take count table ≡ entries input
  front_all =
      sym (append-nil (take count table))
      ∙ ap (λ xs. take count table ++ xs) (sym (at_drop_all (λ xs. map entry_of (lines_after f.line xs)) input i end ∙ ap (map entry_of) (entries_none f.line)))
      ∙ f.front

  pub count_all : count ≡ length (entries input)
  count_all = sym (length-take-le count table f.within) ∙ ap length front_all

  pub filled_all : table ≡ entries input ++ drop (length (entries input)) start
  filled_all =
      sym (take-append-drop count table)
      ∙ ap (λ xs. xs ++ drop count table) front_all
      ∙ ap (λ xs. entries input ++ xs) (f.back ∙ ap (λ n. drop n start) count_all)

pub filled_is : (input : List ℕ) (start : List Entry) (i count count' : ℕ) (state : State) (bytes : List ℕ) (table table' : List Entry)
    → count' ≡ count → table' ≡ table → Filled input start i count state bytes table → Filled input start i count' state bytes table'
filled_is input start i count count' state bytes table table' c t f =
    subst (λ n. Filled input start i n state bytes table') (sym c) (subst (λ xs. Filled input start i count state bytes xs) (sym t) f)
