-- The bytes at the front of a text that fit a field.
use Rattle.std.proofs.Common.{◌≡◌, ℕ, zero, suc, cond, List, [], ◌∷◌, length, take, refl, ap, ◌∙◌, arith}
use Rattle.std.specs.List.{prefix_len}
use Rattle.std.proofs.lemmas.List.Folds.{length-prefix_len}
use Rattle.lines.specs.declared.Field.{Field}
use Rattle.lines.specs.Grammar.{fits}
use Rattle.lines.specs.Meaning.{run}

prefix_run : (f : Field) (m : ℕ) (s : List ℕ) → prefix_len (fits f) (take m s) ≡ run f m s
prefix_run f zero s = refl
prefix_run f (suc m) [] = refl
prefix_run f (suc m) (b ∷ s) =
    let rest = prefix_run f m s in
    ap (λ k. cond (fits f b) k 0) (omega arith)

-- the first m of them
pub length_run : (f : Field) (m : ℕ) (s : List ℕ) → length (take (prefix_len (fits f) (take m s)) (take m s)) ≡ run f m s
length_run f m s = length-prefix_len (fits f) (take m s) ∙ prefix_run f m s
