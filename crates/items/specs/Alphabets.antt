-- Which bytes a section may have.
-- Assumes nothing.
use Rattle.std.specs.Prelude.{ℕ, Bool, ◌||◌}
use Rattle.std.specs.Char.{is_ascii_digit, is_ascii_uppercase, is_ascii_alphanumeric}
use Rattle.items.specs.declared.rules.Alphabet.{Alphabet}
use Rattle.items.specs.declared.rules.Alphabet.TheVariants.{Digits, Alphanumeric, UpperAlphanumeric}

abbrev pub letter : Alphabet → ℕ → Bool
letter Digits b = is_ascii_digit b
letter Alphanumeric b = is_ascii_alphanumeric b
letter UpperAlphanumeric b = is_ascii_uppercase b || is_ascii_digit b
