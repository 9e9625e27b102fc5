-- The kinds of item: the code and the word of each.
-- Assumes nothing.
use Rattle.std.specs.Prelude.{◌≡◌, ◌≢◌, ℕ, List, Result, MatchResult, codes}
use Rattle.items.specs.declared.item_kind.ItemKind.{ItemKind}
use Rattle.items.specs.declared.item_kind.ItemKind.TheVariants.{Label, WardBox}
use Rattle.items.specs.declared.item_kind.UnknownCode.{UnknownCode}
use Rattle.items.specs.declared.item_kind.UnknownWord.{UnknownWord}

abbrev pub code_of : ItemKind → ℕ
code_of Label = 1
code_of WardBox = 2

abbrev pub words_of : ItemKind → List ℕ
words_of Label = codes "label"
words_of WardBox = codes "box"

-- the kind with this code, or an error with a code that no kind has
abbrev pub Decodes : ℕ → Result ItemKind UnknownCode → Type 0
Decodes code r = MatchResult r (λ kind. code_of kind ≡ code) (λ e. (e.0 ≡ code) × ((kind : ItemKind) → code_of kind ≢ code))

-- the kind with this word, or an error where no kind has it
abbrev pub Names : List ℕ → Result ItemKind UnknownWord → Type 0
Names word r = MatchResult r (λ kind. words_of kind ≡ word) (λ e. (kind : ItemKind) → words_of kind ≢ word)
