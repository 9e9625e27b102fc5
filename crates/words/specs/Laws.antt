-- Laws of draws: which word gives the draw, and that no draw is favoured.
-- Assumes nothing.
use Rattle.std.specs.Prelude.{◌≡◌, ℕ, zero, suc, ◌+◌, ◌*◌, ◌/◌, ◌%◌, ◌^◌, ◌<◌, ◌≤◌, Bool, false, cond, ◌⊎◌, List, [], ◌∷◌, length, Some, None, Option, ◌==◌, nat_eq, slice_index}
use Rattle.std.specs.List.{AllByRecursion}
use Rattle.words.specs.Draws.{limit, draw_of}
use Rattle.words.specs.declared.draws.Drawn.{Drawn}

-- ---- the limit

-- the limit is a multiple of the width up to 2^32, and no other such multiple is larger
abbrev pub LimitLargest : Type 0
LimitLargest =
    (width : ℕ) → 1 ≤ width →
    (limit width % width ≡ 0) × (limit width ≤ 2 ^ 32) × ((k : ℕ) → k * width ≤ 2 ^ 32 → k * width ≤ limit width)

-- ---- which word is drawn

-- the n words from the place on are there, and none of them is below the limit
abbrev pub Passed : (ℕ → Option ℕ) → ℕ → ℕ → ℕ → Type 0
Passed words width place n = (i : ℕ) → i < n → (v : ℕ) × (words (place + i) ≡ Some v) × (limit width ≤ v)

-- of the 64 words from the place on, the first that is below the limit gives the draw
abbrev pub Draws : (ℕ → Option ℕ) → ℕ → ℕ → Drawn → Type 0
Draws words width place drawn =
    (i v : ℕ) × (i < 64) × Passed words width place i × (words (place + i) ≡ Some v) × (v < limit width)
    × (drawn ≡ record { value = v % width; used = i + 1 })

-- a place has no word before one was below the limit, or none of 64 words is
abbrev pub Refuses : (ℕ → Option ℕ) → ℕ → ℕ → Type 0
Refuses words width place =
    ((i : ℕ) × (i < 64) × Passed words width place i × (words (place + i) ≡ None)) ⊎ Passed words width place 64

-- a draw of a width above 1 is made exactly so, and refused exactly so
abbrev pub FirstIsDrawn : Type 0
FirstIsDrawn =
    (words : ℕ → Option ℕ) (width place : ℕ) → 2 ≤ width →
    ((drawn : Drawn) → draw_of words width place ≡ Some drawn → Draws words width place drawn)
    × ((drawn : Drawn) → Draws words width place drawn → draw_of words width place ≡ Some drawn)
    × (draw_of words width place ≡ None → Refuses words width place)
    × (Refuses words width place → draw_of words width place ≡ None)

-- a word below a width above 1 is itself the draw, and the only word used
abbrev pub SmallIsDrawn : Type 0
SmallIsDrawn =
    (words : ℕ → Option ℕ) (width place v : ℕ) → 2 ≤ width → width ≤ 32768 → words place ≡ Some v → v < width →
    draw_of words width place ≡ Some (record { value = v; used = 1 })

-- ---- no draw is favoured

-- the sum over the numbers below n
unfoldable pub total : (ℕ → ℕ) → ℕ → ℕ
total f zero = 0
total f (suc n) = f n + total f n

-- how many numbers below n pass a test
abbrev pub count : (ℕ → Bool) → ℕ → ℕ
count test n = total (λ v. cond (test v) 1 0) n

-- of the words below the limit, each draw has as many as any other
abbrev pub WordsAreEven : Type 0
WordsAreEven =
    (width draw : ℕ) → 1 ≤ width → draw < width → count (λ v. nat_eq (v % width) draw) (limit width) ≡ limit width / width

-- in how many ways n words can be chosen so that they pass a test
unfoldable pub ways : ℕ → (List ℕ → Bool) → ℕ
ways zero test = cond (test []) 1 0
ways (suc n) test = total (λ v. ways n (λ vs. test (v ∷ vs))) (2 ^ 32)

-- whether a draw came, and is this one
abbrev pub gives : ℕ → Option Drawn → Bool
gives draw None = false
gives draw (Some drawn) = drawn.value == draw

-- whatever words are chosen, the source then has them, in their order, from the place on
abbrev pub Holds : (List ℕ → ℕ → Option ℕ) → ℕ → Type 0
Holds source place =
    (vs : List ℕ) → AllByRecursion (λ v. v < 2 ^ 32) vs → (i : ℕ) → i < length vs → source vs (place + i) ≡ Some (slice_index vs i)

-- of all choices of 64 words, each draw comes from as many as any other
abbrev pub DrawsAreEven : Type 0
DrawsAreEven =
    (source : List ℕ → ℕ → Option ℕ) (width place a b : ℕ) → Holds source place → a < width → b < width →
    ways 64 (λ vs. gives a (draw_of (source vs) width place)) ≡ ways 64 (λ vs. gives b (draw_of (source vs) width place))

-- ---- worked examples

abbrev pub Examples : Type 0
Examples =
    ((words : ℕ → Option ℕ) (place : ℕ) → words place ≡ Some 4294967294 →
    draw_of words 3 place ≡ Some (record { value = 2; used = 1 }))
    × ((words : ℕ → Option ℕ) (place : ℕ) → words place ≡ Some 4294967295 → words (place + 1) ≡ Some 4 →
    draw_of words 3 place ≡ Some (record { value = 1; used = 2 }))
