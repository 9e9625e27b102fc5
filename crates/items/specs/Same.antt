-- Texts with the same characters are the same text.
-- Assumes nothing.
use Rattle.std.specs.Prelude.{◌≡◌, ℕ, zero, suc, ◌-◌, ◌<◌, ◌≤◌, List, [], ◌∷◌, ◌++◌, length, take, slice_index, refl}
use Rattle.std.proofs.Common.{sym, ap, ◌∙◌, arith, take-append-drop, length-take-le}
use mathlib.Core.HLevel.{is_prop→PathP}
use Rattle.std.proofs.Math.Seq.{take-append_seam}
use denote.Struct.Props.{props}
use Rattle.std.proofs.lemmas.List.{ext_get_or}
use Rattle.octets.specs.Zeros.{zeros}
use Rattle.octets.proofs.Zeros.{zero_at}
use Rattle.items.specs.Padded.{Padded}
use Rattle.items.specs.Texts.{chars, padded, padded_is, text, text_at}
use Rattle.items.specs.declared.text.Text.{Text}

pub chars_length : {n : ℕ} (t : Text n) → length (chars t) ≡ t.len
chars_length t = length-take-le t.len t.bytes (omega (arith, t.padded.0, t.padded.1))

pub bytes_are : {n : ℕ} (t : Text n) → t.bytes ≡ padded n (chars t)
bytes_are {n} t =
    sym (take-append-drop t.len t.bytes)
    ∙ ap (λ z. chars t ++ z) (t.padded.2 ∙ ap (λ k. zeros (n - k)) (sym (chars_length t)))

padded_prop : (n len : ℕ) (bytes : List ℕ) → IsProp (Padded n len bytes)
padded_prop n len bytes = hlevel props

pub same_text : {n : ℕ} (s t : Text n) → chars s ≡ chars t → s ≡ t
same_text {n} s t e =
    let l : s.len ≡ t.len = sym (chars_length s) ∙ ap length e ∙ chars_length t in
    let b : s.bytes ≡ t.bytes = bytes_are s ∙ ap (padded n) e ∙ sym (bytes_are t) in
    λ i. record {
      len = l i;
      bytes = b i;
      padded = is_prop→PathP (λ j. Padded n (l j) (b j)) (λ j. padded_prop n (l j) (b j)) s.padded t.padded i;
    }

pub text_chars : {n : ℕ} (t : Text n) → t ≡ text n (chars t)
text_chars {n} t = same_text t (text n (chars t)) (sym (text_at n (chars t) (omega (arith, chars_length t, t.padded.0))))

-- the text that is made of the characters and their array
pub made_text : (n : ℕ) (xs : List ℕ) → length xs ≤ n → (bytes : List ℕ) → bytes ≡ padded n xs → (p : Padded n (length xs) bytes) → ◌≡◌ {A = Text n} (record { len = length xs; bytes = bytes; padded = p }) (text n xs)
made_text n xs h bytes e p =
    same_text (record { len = length xs; bytes = bytes; padded = p }) (text n xs)
    (ap (take (length xs)) e ∙ take-append_seam xs (zeros (n - length xs)) ∙ sym (text_at n xs h))

-- the characters, and zeros behind them
index_before_zeros : (xs : List ℕ) (n i : ℕ) → slice_index xs i ≡ slice_index (xs ++ zeros n) i
index_before_zeros [] n i = sym (zero_at n i)
index_before_zeros (x ∷ xs) n zero = refl
index_before_zeros (x ∷ xs) n (suc i) = index_before_zeros xs n i

pub padded_from : (n : ℕ) (xs bytes : List ℕ) → length xs ≤ n → length bytes ≡ n → ((k : ℕ) → k < n → slice_index bytes k ≡ slice_index xs k) → bytes ≡ padded n xs
padded_from n xs bytes h long each =
    ext_get_or 0 bytes (padded n xs) (long ∙ sym (padded_is n xs h).1) (λ i l. each i (omega arith) ∙ index_before_zeros xs (n - length xs) i)
