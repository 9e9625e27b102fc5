-- Which lines of a scan are confirmed, and what each of them fills its table entry with.
-- Assumes nothing.
use Rattle.std.specs.Prelude.{ℕ, cond, List, [], ◌∷◌, ◌++◌, map, length, Err, Result, ◌==◌, nat_le}
use Rattle.fault.specs.declared.Fault.{Fault}
use Rattle.fault.specs.Refusals.{line_too_long}
use Rattle.lines.specs.declared.Transaction.{Transaction}
use Rattle.lines.specs.Meaning.{meaning}

-- the line that a confirm finds in the field, before the later ones; an empty line is passed over
abbrev pub passed : List ℕ → List (List ℕ) → List (List ℕ)
passed [] later = later
passed (x ∷ xs) later = (x ∷ xs) ∷ later

-- the lines that are confirmed and not empty, in order, where `field` was scanned since the last confirm or cancel:
-- byte 10 confirms, byte 24 cancels, any other is added to the field
unfoldable pub lines_after : List ℕ → List ℕ → List (List ℕ)
lines_after field [] = []
lines_after field (b ∷ bs) =
    cond (b == 10) (passed field (lines_after [] bs)) (cond (b == 24) (lines_after [] bs) (lines_after (field ++ b ∷ []) bs))

abbrev pub confirmed : List ℕ → List (List ℕ)
confirmed input = lines_after [] input

-- what a table entry holds
abbrev pub Entry : Type 0
Entry = Result Transaction Fault

-- what a line fills its entry with: its meaning, or a refusal where it has more than 100 bytes
unfoldable pub entry_of : List ℕ → Entry
entry_of line = cond (nat_le (length line) 100) (meaning line) (Err line_too_long)

abbrev pub entries : List ℕ → List Entry
entries input = map entry_of (confirmed input)
