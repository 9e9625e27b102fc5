-- What the code finds by length and index, as the definitions of what a line says have it.
use Rattle.std.proofs.Common.{◌≡◌, ℕ, suc, ◌+◌, ◌-◌, ◌<◌, ◌≤◌, List, [], ◌∷◌, length, get_or, take, drop, Ok, sym, refl, ap, ◌∙◌, arith}
use Rattle.std.proofs.lemmas.List.{take_all}
use Rattle.std.proofs.lemmas.Bool.{cond-false, ne_eqb}
use Rattle.lines.specs.declared.Field.{Field}
use Rattle.lines.specs.Meaning.{then, misfit, front, behind, spaced}

behind_other : (x : List ℕ) (at : ℕ) (t : List ℕ) → (0 < length t → get_or t 0 0 ≡ 32 → ⊥) → behind x at t ≡ misfit at
behind_other x at [] h = refl
behind_other x at (b ∷ t) h = cond-false _ _ _ (ne_eqb b 32 (λ e. h (omega arith) e))

module _ (f : Field) (at : ℕ) (s : List ℕ) (n : ℕ) (ends : Ok n ≡ front f at s) where
  pub spaced_misfit : (t : List ℕ) → t ≡ drop n s → (0 < length t → get_or t 0 0 ≡ 32 → ⊥) → spaced f at s ≡ misfit (at + n)
  spaced_misfit t back h =
      ap (λ r. then r (λ n. behind (take n s) (at + n) (drop n s))) (sym ends) ∙ ap (behind (take n s) (at + n)) (sym back) ∙ behind_other (take n s) (at + n) t h

-- a line of two bytes and more, by its letter and a space
pub lettered : (letter : ℕ) (s : List ℕ) → 2 ≤ length s → get_or s 0 0 ≡ letter → get_or s 1 0 ≡ 32 → letter ∷ 32 ∷ take (length s - 2) (drop 2 s) ≡ s
lettered letter [] h e d = absurd (omega arith)
lettered letter (c ∷ []) h e d = absurd (omega arith)
lettered letter (c ∷ b ∷ s) h e d =
    λ i. sym e i ∷ sym d i ∷ take_all (suc (suc (length s)) - 2) s (omega arith) i
