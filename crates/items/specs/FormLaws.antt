-- Sections of text in a form: what was written is read, and what reads was so written.
-- Assumes nothing.
use Rattle.std.specs.Prelude.{◌≡◌, ℕ, ◌+◌, ◌<◌, ◌≤◌, List, [], ◌∷◌, ◌++◌, length, take, Some, Ok, Err, Result}
use Rattle.std.proofs.Common.{sym, ap, ◌∙◌, arith, length-append, length-take, take-append-drop}
use Rattle.std.proofs.lemmas.List.{length-replicate}
use Rattle.std.proofs.Math.Seq.{take-append_seam, drop-append_seam}
use Rattle.std.specs.Result.{result_ok}
use Rattle.items.specs.Forms.{counted, front, behind}
use Rattle.items.specs.Texts.{padded}

pub front_counted : (xs r : List ℕ) → front (counted xs ++ r) ≡ xs
front_counted xs r = take-append_seam xs r

pub behind_counted : (xs r : List ℕ) → behind (counted xs ++ r) ≡ r
behind_counted xs r = drop-append_seam xs r

pub length_padded : (n : ℕ) (xs : List ℕ) → length xs ≤ n → length (padded n xs) ≡ n
length_padded n xs h = simp (length-append, length-replicate) (omega arith)

-- a section that does not reach the end has as many characters as its count says
pub section_split : (s : List ℕ) (m : ℕ) → length (front s) ≤ m → m + 1 < length s → s ≡ counted (front s) ++ behind s
section_split [] m h k = absurd (omega arith)
section_split (x ∷ t) m h k =
    let full : length (take x t) ≡ x = omega (arith, length-take x t) in
    sym (λ i. full i ∷ take-append-drop x t i)

pub length_split : (s : List ℕ) (m : ℕ) → length (front s) ≤ m → m + 1 < length s → length s ≡ 1 + (length (front s) + length (behind s))
length_split s m h k =
    ap length (section_split s m h k) ∙ length-append (counted (front s)) (behind s) ∙ omega arith

pub some_ok : {A E : Type 0} (r : Result A E) (x : A) → result_ok r ≡ Some x → r ≡ Ok x
some_ok (Ok y) x e = cc
some_ok (Err y) x e = cc
