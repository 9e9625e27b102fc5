-- The forms of items are bytes.
-- Assumes nothing.
use Rattle.std.specs.Prelude.{◌≡◌, ℕ, ◌-◌, ◌/◌, ◌%◌, ◌<◌, ◌≤◌, true, ◌&&◌, ◌||◌, List, [], ◌∷◌, ◌++◌, length, ℤ, Some, None, Option, ◌==◌, nat_le, nat_lt, refl}
use Rattle.std.proofs.Common.{ap, ⊎_elim, arith, of_z}
use Rattle.std.specs.Int.{w16}
use Rattle.std.proofs.lemmas.List.{nil_from_length}
use Rattle.std.proofs.lemmas.Bool.Decides.{nat_tests}
use Rattle.std.proofs.lemmas.Bool.{and_parts, and_from, or_cases, lt-ltb, eqb-true}
use Rattle.octets.specs.Zeros.{every, zeros}
use Rattle.items.specs.Alphabets.{letter}
use Rattle.items.specs.BoxForms.{box_form, difference_form}
use Rattle.items.specs.Boxes.{ward_fits}
use Rattle.items.specs.Forms.{counted, label_form}
use Rattle.items.specs.Labels.{code_fits, batch_fits, expiry_fits}
use Rattle.items.specs.Lawful.{lawful_code, lawful_batch, lawful_expiry, lawful_ward, lawful_difference}
use Rattle.octets.proofs.Under.{Under256, under_append, under_zeros}
use Rattle.items.specs.Texts.{chars, padded}
use Rattle.items.specs.declared.label.Label.{Label}
use Rattle.items.specs.declared.rules.Alphabet.{Alphabet}
use Rattle.items.specs.declared.rules.Alphabet.TheVariants.{Digits, Alphanumeric, UpperAlphanumeric}
use Rattle.items.specs.declared.ward_box.WardBox.{WardBox}

letter_bounded : (a : Alphabet) (b : ℕ) → letter a b ≡ true → b < 256
letter_bounded Digits b h = grind (arith, nat_tests)
letter_bounded Alphanumeric b h = grind (arith, nat_tests)
letter_bounded UpperAlphanumeric b h = grind (arith, nat_tests)

letters_bounded : (a : Alphabet) (xs : List ℕ) → every (letter a) xs ≡ true → Under256 xs
letters_bounded a [] h = refl
letters_bounded a (x ∷ xs) h =
    let p = and_parts (letter a x) (every (letter a) xs) h in
    and_from _ _ (lt-ltb x 256 (letter_bounded a x p.0)) (letters_bounded a xs p.1)

-- a section of letters after its count
counted_bounded : (a : Alphabet) (xs : List ℕ) (n : ℕ) → length xs ≤ n → n ≤ 20 → every (letter a) xs ≡ true → Under256 (counted xs)
counted_bounded a xs n h m k = and_from _ _ (lt-ltb (length xs) 256 (omega arith)) (letters_bounded a xs k)

padded_bounded : (n : ℕ) (xs : List ℕ) → Under256 xs → Under256 (padded n xs)
padded_bounded n xs h = under_append xs (zeros (n - length xs)) h (under_zeros (n - length xs))

code_bounded : (c : List ℕ) → lawful_code c ≡ true → Under256 (counted c)
code_bounded c h =
    counted_bounded Digits c 14 (code_fits c h) (omega arith)
    (and_parts (every (letter Digits) c) _ (and_parts (length c == 8 || (length c == 13 || length c == 14)) _ h).1).0

batch_bounded : (b : List ℕ) → lawful_batch b ≡ true → Under256 (counted b)
batch_bounded b h = counted_bounded Alphanumeric b 20 (batch_fits b h) (omega arith) (and_parts (nat_le (length b) 20) _ h).1

expiry_digits : (e : List ℕ) → lawful_expiry e ≡ true → every (letter Digits) e ≡ true
expiry_digits e h =
    ⊎_elim
    (λ z. ap (every (letter Digits)) (nil_from_length e (eqb-true _ 0 z)))
    (λ r. (and_parts _ _ (and_parts (length e == 6) _ r).1).0)
    (or_cases (length e == 0) _ h)

expiry_bounded : (e : List ℕ) → lawful_expiry e ≡ true → Under256 (counted e)
expiry_bounded e h = counted_bounded Digits e 6 (expiry_fits e h) (omega arith) (expiry_digits e h)

ward_bounded : (w : List ℕ) → lawful_ward w ≡ true → Under256 (counted w)
ward_bounded w h =
    counted_bounded UpperAlphanumeric w 12 (ward_fits w h) (omega arith)
    (and_parts (nat_le (length w) 12) _ (and_parts (nat_le 1 (length w)) _ h).1).1

pub label_bounded : (l : Label) → Under256 (label_form l)
unfolding label_form
label_bounded l =
    let p = and_parts (lawful_code (chars l.code)) (lawful_batch (chars l.batch) && lawful_expiry (chars l.expiry)) l.lawful in
    let q = and_parts (lawful_batch (chars l.batch)) (lawful_expiry (chars l.expiry)) p.1 in
    padded_bounded 60 (counted (chars l.code) ++ (counted (chars l.batch) ++ counted (chars l.expiry)))
    (under_append (counted (chars l.code)) _ (code_bounded (chars l.code) p.0)
    (under_append (counted (chars l.batch)) _ (batch_bounded (chars l.batch) q.0) (expiry_bounded (chars l.expiry) q.1)))

difference_bounded : (d : Option ℤ) → Under256 (difference_form d)
difference_bounded None = refl
difference_bounded (Some d) =
    let v = of_z w16 d in
    let low : v % 256 < 256 = omega arith in
    let high : v / 256 % 256 < 256 = omega arith in
    and_from (nat_lt (v % 256) 256) _ (lt-ltb _ 256 low) (and_from (nat_lt (v / 256 % 256) 256) _ (lt-ltb _ 256 high) refl)

pub box_bounded : (x : WardBox) → Under256 (box_form x)
unfolding box_form
box_bounded x =
    let p = and_parts (lawful_ward (chars x.ward)) (lawful_difference x.difference) x.lawful in
    padded_bounded 60 (counted (chars x.ward) ++ difference_form x.difference)
    (under_append (counted (chars x.ward)) _ (ward_bounded (chars x.ward) p.0) (difference_bounded x.difference))
