-- The characters of a text, and the text of given characters.
-- Assumes nothing.
use Rattle.std.specs.Prelude.{◌≡◌, ℕ, ◌-◌, ◌≤◌, cond, List, ◌++◌, length, take, Some, None, Option, nat_le}
use Rattle.std.proofs.Common.{◌∙◌, arith, length-append, length-take, take_all}
use Rattle.std.proofs.lemmas.List.{length-replicate}
use Rattle.std.proofs.Math.Seq.{take-append_seam, drop-append_seam}
use Rattle.octets.specs.Zeros.{zeros}
use Rattle.items.specs.Padded.{Padded}
use Rattle.items.specs.declared.text.Text.{Text}

abbrev pub chars : {n : ℕ} → Text n → List ℕ
chars t = take t.len t.bytes

abbrev pub padded : ℕ → List ℕ → List ℕ
padded n xs = xs ++ zeros (n - length xs)

pub padded_is : (n : ℕ) (xs : List ℕ) → length xs ≤ n → Padded n (length xs) (padded n xs)
padded_is n xs h =
    (h, simp (length-append, length-replicate) (omega arith), drop-append_seam xs (zeros (n - length xs)))

-- the text of the first n of these characters
abbrev pub text : (n : ℕ) → List ℕ → Text n
text n xs = record {
  len = length (take n xs);
  bytes = padded n (take n xs);
  padded = padded_is n (take n xs) (simp length-take (omega arith));
}

pub text_at : (n : ℕ) (xs : List ℕ) → length xs ≤ n → chars (text n xs) ≡ xs
text_at n xs h = take-append_seam (take n xs) (zeros (n - length (take n xs))) ∙ take_all n xs h

-- the text of these characters, unless they are more than n
abbrev pub text_of : (n : ℕ) → List ℕ → Option (Text n)
text_of n xs = cond (nat_le (length xs) n) (Some (text n xs)) None
