-- A window on a source: the 64 words from a place on.
-- Assumes nothing.
use Rattle.std.specs.Prelude.{ℕ, ◌-◌, cond, List, None, Option, nat_lt, slice_index_or}

-- the word at a place: none outside the window
abbrev pub window_word : ℕ → List (Option ℕ) → ℕ → Option ℕ
window_word first words n = cond (nat_lt n first) None (cond (nat_lt (n - first) 64) (slice_index_or words (n - first) None) None)
