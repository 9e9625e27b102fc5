-- The 60-byte form of an item: its sections in order, each after its count byte, then zeros.
-- Assumes nothing.
use Rattle.std.specs.Prelude.{ℕ, cond, ◌&&◌, List, ◌∷◌, ◌++◌, length, take, drop, None, Option, ◌==◌, slice_index}
use Rattle.std.specs.Result.{result_ok}
use Rattle.octets.specs.Zeros.{every, blank}
use Rattle.items.specs.Labels.{label}
use Rattle.items.specs.Texts.{chars, padded}
use Rattle.items.specs.declared.label.Label.{Label}

-- a section of text, after the count of its characters
abbrev pub counted : List ℕ → List ℕ
counted xs = length xs ∷ xs

-- the first section of s, and what stands behind it
abbrev pub front : List ℕ → List ℕ
front s = take (slice_index s 0) (drop 1 s)

abbrev pub behind : List ℕ → List ℕ
behind s = drop (slice_index s 0) (drop 1 s)

-- a label: code, batch and expiry
unfoldable pub label_form : Label → List ℕ
label_form l = padded 60 (counted (chars l.code) ++ (counted (chars l.batch) ++ counted (chars l.expiry)))

-- the label that 60 bytes hold: its three sections, with nothing but zeros behind
unfoldable pub label_reading : List ℕ → Option Label
label_reading s =
    cond (length s == 60 && every blank (behind (behind (behind s))))
    (result_ok (label (front s) (front (behind s)) (front (behind (behind s))))) None
