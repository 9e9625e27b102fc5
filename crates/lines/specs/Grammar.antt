-- The shape of a line that is a transaction, and what its fields say.
-- Assumes nothing.
use Rattle.std.specs.Prelude.{◌≡◌, ℕ, ◌+◌, ◌-◌, ◌*◌, ◌<◌, ◌≤◌, Bool, true, false, cond, ◌⊎◌, List, [], ◌∷◌, ◌++◌, length, take, codes, fold, ◌==◌}
use Rattle.std.specs.Char.{is_ascii_digit, is_ascii_alphanumeric}
use Rattle.std.specs.List.{AllByRecursion}
use Rattle.lines.specs.declared.Field.{Field}
use Rattle.lines.specs.declared.Field.TheVariants.{Number, Code, Batch, Expiry}

-- ---- fields

-- which bytes a field may have: digits, and in a batch letters too, all of ASCII
abbrev pub fits : Field → ℕ → Bool
fits Number b = is_ascii_digit b
fits Code b = is_ascii_digit b
fits Batch b = is_ascii_alphanumeric b
fits Expiry b = is_ascii_digit b

-- how many at least
abbrev pub least : Field → ℕ
least Number = 1
least Code = 1
least Batch = 1
least Expiry = 6

-- how many at most
abbrev pub most : Field → ℕ
most Number = 5
most Code = 14
most Batch = 20
most Expiry = 6

-- whether - may stand for it, which is byte 45
abbrev pub optional : Field → Bool
optional Number = false
optional Code = false
optional Batch = true
optional Expiry = true

-- xs is written in the shape of the field f
abbrev pub Written : Field → List ℕ → Type 0
Written f xs =
    (AllByRecursion (λ b. fits f b ≡ true) xs × (least f ≤ length xs) × (length xs ≤ most f)) ⊎ ((optional f ≡ true) × (xs ≡ 45 ∷ []))

-- the number that digits write
abbrev pub value : List ℕ → ℕ
value xs = fold (λ n b. 10 * n + (b - 48)) 0 xs

-- what an optional field holds: nothing where it is -
abbrev pub present : List ℕ → List ℕ
present [] = []
present (b ∷ []) = cond (b == 45) [] (b ∷ [])
present (b ∷ c ∷ xs) = b ∷ c ∷ xs

-- ---- lines

-- with one space between
abbrev pub words : List (List ℕ) → List ℕ
words [] = []
words (x ∷ []) = x
words (x ∷ y ∷ ys) = x ++ 32 ∷ words (y ∷ ys)

-- s is the line `T number`
abbrev pub Takes : List ℕ → List ℕ → Type 0
Takes s number = (s ≡ words (codes "T" ∷ number ∷ [])) × Written Number number

-- s is the line `S number code batch expiry`
abbrev pub Stores : List ℕ → List ℕ → List ℕ → List ℕ → List ℕ → Type 0
Stores s number code batch expiry =
    (s ≡ words (codes "S" ∷ number ∷ code ∷ batch ∷ expiry ∷ [])) × Written Number number × Written Code code × Written Batch batch × Written Expiry expiry

-- s is a transaction by its shape
abbrev pub Shaped : List ℕ → Type 0
Shaped s =
    ((number : List ℕ) × Takes s number)
    ⊎ ((number : List ℕ) × (code : List ℕ) × (batch : List ℕ) × (expiry : List ℕ) × Stores s number code batch expiry)

-- p begins some transaction
abbrev pub Begins : List ℕ → Type 0
Begins p = (rest : List ℕ) × Shaped (p ++ rest)

-- s is no transaction, and p is its first byte that none has after the bytes before it, or its length where it ends too early
abbrev pub Misfit : List ℕ → ℕ → Type 0
Misfit s p =
    (Shaped s → ⊥) × (p ≤ length s) × Begins (take p s) × (p < length s → Begins (take (p + 1) s) → ⊥)
