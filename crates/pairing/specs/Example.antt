-- A worked example: capacity 2, the words 2 and 0; Store 10, 11, 12, 13, Take 11, Take 10.
-- Assumes nothing.
use Rattle.std.specs.Prelude.{◌≡◌, ℕ, [], ◌∷◌, Some, Option}
use Rattle.words.specs.Draws.{draw_of}
use Rattle.pairing.specs.Reservoir.{Reservoir, empty, store, taken, width}

-- after each call
abbrev pub after1 : {X : Type 0} → X → Reservoir X
after1 a = store (empty 2) 10 a 0 0

abbrev pub after2 : {X : Type 0} → X → X → Reservoir X
after2 a b = store (after1 a) 11 b 0 0

abbrev pub after3 : {X : Type 0} → X → X → X → Reservoir X
after3 a b c = store (after2 a b) 12 c 2 1

abbrev pub after4 : {X : Type 0} → X → X → X → X → Reservoir X
after4 a b c d = store (after3 a b c) 13 d 0 1

abbrev pub after6 : {X : Type 0} → X → X → X → X → Reservoir X
after6 a b c d = taken (taken (after4 a b c d) 11) 10

-- a reservoir draws so: the next word that no call has used comes first
abbrev pub Draws : {X : Type 0} → Reservoir X → (ℕ → Option ℕ) → (draw used : ℕ) → Type 0
Draws r words draw used = draw_of words (width r) r.words ≡ Some (record { value = draw; used = used })

pub record Worked (X : Type 0) : Type 0 where
  -- the draws are those of the words
  pub first : (words : ℕ → Option ℕ) → Draws {X = X} (empty 2) words 0 0
  pub second : (words : ℕ → Option ℕ) (a : X) → Draws (after1 a) words 0 0
  pub third : (words : ℕ → Option ℕ) (a b : X) → words 0 ≡ Some 2 → Draws (after2 a b) words 2 1
  pub fourth : (words : ℕ → Option ℕ) (a b c : X) → words 1 ≡ Some 0 → Draws (after3 a b c) words 0 1
  -- what is left
  pub slots : (a b c d : X) → (after6 a b c d).slots ≡ record { number = 13; item = d } ∷ []
  pub size : (a b c d : X) → (after6 a b c d).size ≡ 2
  pub c1 : (a b c d : X) → (after6 a b c d).c1 ≡ 1
  pub c2 : (a b c d : X) → (after6 a b c d).c2 ≡ 1
  pub calls : (a b c d : X) → (after6 a b c d).calls ≡ 6
  pub words : (a b c d : X) → (after6 a b c d).words ≡ 2
