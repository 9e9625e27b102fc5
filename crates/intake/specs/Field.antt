-- What the scan field holds once some bytes were scanned since the last confirm or cancel.
-- Assumes nothing.
use Rattle.std.specs.Prelude.{◌≡◌, ℕ, cond, ◌||◌, List, [], ◌∷◌, ◌++◌, length, take, replicate, Some, None, Option, ◌==◌, nat_le}
use Rattle.intake.specs.Lines.{Entry, entry_of}
use Rattle.intake.specs.declared.field.State.{State}
use Rattle.intake.specs.declared.field.State.TheVariants.{Empty, Filling, Overlong}

-- the empty field (`unfoldable`: a proof that only hands it on need not carry a hundred bytes)
unfoldable pub zeros : List ℕ
zeros = replicate 100 0

-- the state that the bytes leave
abbrev pub state_of : List ℕ → State
state_of [] = Empty
state_of (x ∷ xs) = cond (nat_le (length (x ∷ xs)) 100) (Filling (length (x ∷ xs))) Overlong

-- the field shows the first 100 of the bytes, then zeros
pub record Holds (line : List ℕ) (state : State) (bytes : List ℕ) : Type 0 where
  pub state_is : state ≡ state_of line
  pub bytes_are : bytes ≡ take 100 (line ++ zeros)

-- so many bytes the state tells of that the field shows
abbrev pub shown : State → ℕ
shown Empty = 0
shown (Filling n) = n
shown Overlong = 0

-- what was scanned since the last confirm or cancel, after one byte more
abbrev pub scanned : List ℕ → ℕ → List ℕ
scanned line b = cond (b == 10 || b == 24) [] (line ++ b ∷ [])

-- what a confirm answers
abbrev pub confirm_of : List ℕ → Option Entry
confirm_of [] = None
confirm_of (x ∷ xs) = Some (entry_of (x ∷ xs))

abbrev pub scan_of : List ℕ → ℕ → Option Entry
scan_of line b = cond (b == 10) (confirm_of line) None

-- the byte b behind the line was answered by r, and left the field so
pub record Scanned (line : List ℕ) (b : ℕ) (r : Option Entry) (state : State) (bytes : List ℕ) : Type 0 where
  pub answers : r ≡ scan_of line b
  pub holds : Holds (scanned line b) state bytes
