-- The two laws of a ward box's form.
-- Assumes nothing.
use Rattle.std.specs.Prelude.{◌≡◌, ℕ, ◌+◌, ◌-◌, ◌*◌, ◌/◌, ◌%◌, ◌<◌, ◌≤◌, Bool, true, false, cond, List, [], ◌∷◌, ◌++◌, length, drop, ℤ, Some, None, Option, FitsSigned, ◌==◌, ◌≢◌, nat_le, slice_index, refl}
use Rattle.std.proofs.Common.{sym, ap, subst, ◌∙◌, append_assoc, arith, length-append, of_z, to_z, Fits, to_z-of_z, eqb-true, eq-eqb, ne_eqb, leb-true, le-leb}
use Rattle.std.proofs.lemmas.List.{length-replicate}
use Rattle.std.specs.Int.{w16}
use Rattle.std.proofs.Math.Facts.{Fits-of_z, of_z-to_z}
use Rattle.std.specs.Result.{result_ok}
use Rattle.std.proofs.lemmas.Int.{ints}
use Rattle.std.proofs.lemmas.Bool.Decides.{nat_tests}
use Rattle.std.proofs.lemmas.Bool.{and_parts, and_from, cond-true, cond-false}
use Rattle.octets.specs.Zeros.{every, blank, zeros}
use Rattle.octets.proofs.Zeros.{zeros_blank, blank_zeros}
use Rattle.items.specs.BoxForms.{box_form, box_reading, difference_form, ended, after_ward, with_difference, two_bytes}
use Rattle.items.specs.Boxes.{ward_box, ward_fits}
use Rattle.items.specs.Forms.{counted, front, behind}
use Rattle.items.specs.Lawful.{lawful_ward, lawful_difference}
use Rattle.items.specs.Texts.{chars, padded}
use Rattle.items.specs.declared.ward_box.WardBox.{WardBox}
use Rattle.items.specs.BoxesLemmas.{box_chars, box_sections, Sections}
use Rattle.items.specs.FormLaws.{front_counted, behind_counted, length_padded, section_split, some_ok}

pub reading_none : (s : List ℕ) → (length s ≢ 60) → None ≡ box_reading s
unfolding box_reading
reading_none s h = sym (cond-false _ _ _ (ne_eqb _ 60 h))

pub reading_some : (s : List ℕ) → length s ≡ 60 → box_reading s ≡ after_ward (front s) (behind s)
unfolding box_reading
reading_some s h = cond-true _ _ _ (eq-eqb _ 60 h)

short_difference : (d : Option ℤ) → length (difference_form d) ≤ 3
short_difference None = omega arith
short_difference (Some d) = omega arith

fits : (x : WardBox) → length (counted (chars x.ward) ++ difference_form x.difference) ≤ 16
fits x =
    let w = ward_fits (chars x.ward) (and_parts _ _ x.lawful).0 in
    let d = short_difference x.difference in
    omega (arith, length-append (counted (chars x.ward)) (difference_form x.difference))

pub box_sized : (x : WardBox) → length (box_form x) ≡ 60
unfolding box_form
box_sized x = let n = fits x in length_padded 60 (counted (chars x.ward) ++ difference_form x.difference) (omega arith)

-- two bytes hold a number of 16 bits
pub bits_fit : (a b : ℕ) → a ≤ 255 → b ≤ 255 → Fits w16 (a + b * 256)
bits_fit a b h k = record { fits = omega arith }

pub difference_read : (w r t : List ℕ) (d : ℤ) → 2 ≤ length r → slice_index r 0 ≤ 255 → slice_index r 1 ≤ 255 → d ≡ to_z w16 (slice_index r 0 + slice_index r 1 * 256) → t ≡ drop 2 r → ended w (Some (to_z w16 (of_z w16 d))) t ≡ with_difference w r
difference_read w r t d h low high is e =
    let same : to_z w16 (of_z w16 d) ≡ to_z w16 (slice_index r 0 + slice_index r 1 * 256) = ap (λ z. to_z w16 (of_z w16 z)) is ∙ ap (to_z w16) (of_z-to_z (bits_fit (slice_index r 0) (slice_index r 1) low high)) in
    (λ i. ended w (Some (same i)) (e i))
    ∙ sym (cond-true _ _ _ (and_from _ _ (le-leb 2 _ h) (and_from _ _ (le-leb _ 255 low) (le-leb _ 255 high))))

-- a lawful difference has 16 bits
bits : (d : ℤ) → lawful_difference (Some d) ≡ true → FitsSigned w16 d
bits d h = grind (arith, ints, nat_tests)

-- what stands behind the ward, read back
after_form : (w : List ℕ) (d : Option ℤ) (n : ℕ) → lawful_difference d ≡ true → after_ward w (difference_form d ++ zeros n) ≡ result_ok (ward_box w d)
after_form w None n h = cond-true _ _ _ (zeros_blank n)
after_form w (Some d) n h =
    let v = of_z w16 d in
    let f : v < 65536 = (Fits-of_z {w = w16} {z = d} (bits d h)).fits in
    let low : v % 256 ≤ 255 = omega arith in
    let high : v / 256 % 256 ≤ 255 = omega arith in
    let back : v % 256 + v / 256 % 256 * 256 ≡ v = omega arith in
    let two : 2 ≤ length (v % 256 ∷ v / 256 % 256 ∷ zeros n) = omega arith in
    cond-true _ _ _ (and_from _ _ (le-leb 2 _ two) (and_from (nat_le (v % 256) 255) _ (le-leb _ 255 low) (le-leb _ 255 high)))
    ∙ cond-true _ _ _ (zeros_blank n)
    ∙ ap (λ z. result_ok (ward_box w (Some z))) (ap (to_z w16) back ∙ to_z-of_z (bits d h))

pub box_round : (x : WardBox) → box_reading (box_form x) ≡ Some x
unfolding box_form
box_round x =
    let w = chars x.ward in
    let d = difference_form x.difference in
    let n = 60 - length (counted w ++ d) in
    let is = append_assoc (counted w) d (zeros n) in
    reading_some (box_form x) (box_sized x)
    ∙ (λ i. after_ward ((ap front is ∙ front_counted w (d ++ zeros n)) i) ((ap behind is ∙ behind_counted w (d ++ zeros n)) i))
    ∙ after_form w x.difference n (and_parts _ _ x.lawful).1
    ∙ ap result_ok (box_chars x)

-- what was read behind a ward: the difference, and then zeros
pub record Ended (x : WardBox) (w : List ℕ) (d : Option ℤ) (rest : List ℕ) : Type 0 where
  pub blanks : every blank rest ≡ true
  pub made : Sections x w d

ended_if : (w : List ℕ) (d : Option ℤ) (rest : List ℕ) (x : WardBox) (t : Bool) → every blank rest ≡ t → cond t (result_ok (ward_box w d)) None ≡ Some x → Ended x w d rest
ended_if w d rest x true h is = record { blanks = h; made = box_sections w d x (some_ok _ x is) }
ended_if w d rest x false h is = cc

ended_some : (w : List ℕ) (d : Option ℤ) (rest : List ℕ) (x : WardBox) → ended w d rest ≡ Some x → Ended x w d rest
ended_some w d rest x = ended_if w d rest x (every blank rest) refl

pub record Behind (x : WardBox) (w r : List ℕ) : Type 0 where
  pub lawful : lawful_ward w ≡ true
  pub ward : chars x.ward ≡ w
  pub count : ℕ
  pub rest : r ≡ difference_form x.difference ++ zeros count

behind_none : (w r : List ℕ) (x : WardBox) → ended w None r ≡ Some x → Behind x w (0 ∷ r)
behind_none w r x h =
    let e = ended_some w None r x h in
    record {
      lawful = (and_parts _ _ e.made.lawful).0;
      ward = e.made.ward;
      count = length r;
      rest = ap (λ l. 0 ∷ l) (blank_zeros r e.blanks) ∙ sym (ap (λ d. difference_form d ++ zeros (length r)) e.made.difference);
    }

number_bytes : (a b : ℕ) → a ≤ 255 → b ≤ 255 → (r : List ℕ) → a ∷ b ∷ r ≡ of_z w16 (to_z w16 (a + b * 256)) % 256 ∷ of_z w16 (to_z w16 (a + b * 256)) / 256 % 256 ∷ r
number_bytes a b h k r =
    let v : of_z w16 (to_z w16 (a + b * 256)) ≡ a + b * 256 = of_z-to_z (bits_fit a b h k) in
    let low : a ≡ (a + b * 256) % 256 = omega arith in
    let quotient : (a + b * 256) / 256 ≡ b = omega arith in
    let small : b ≡ b % 256 = omega arith in
    let high : b ≡ (a + b * 256) / 256 % 256 = small ∙ ap (λ n. n % 256) (sym quotient) in
    (λ i. low i ∷ high i ∷ r) ∙ sym (λ i. v i % 256 ∷ v i / 256 % 256 ∷ r)

behind_number : (w : List ℕ) (a b : ℕ) (r : List ℕ) (x : WardBox) → a ≤ 255 → b ≤ 255 → ended w (Some (to_z w16 (a + b * 256))) r ≡ Some x → Behind x w (1 ∷ a ∷ b ∷ r)
behind_number w a b r x low high h =
    let e = ended_some w (Some (to_z w16 (a + b * 256))) r x h in
    record {
      lawful = (and_parts _ _ e.made.lawful).0;
      ward = e.made.ward;
      count = length r;
      rest = ap (λ l. 1 ∷ a ∷ b ∷ l) (blank_zeros r e.blanks) ∙ ap (λ l. 1 ∷ l) (number_bytes a b low high (zeros (length r))) ∙ sym (ap (λ d. difference_form d ++ zeros (length r)) e.made.difference);
    }

with_if : (w r : List ℕ) (x : WardBox) (t : Bool) → two_bytes r ≡ t → cond t (ended w (Some (to_z w16 (slice_index r 0 + slice_index r 1 * 256))) (drop 2 r)) None ≡ Some x → Behind x w (1 ∷ r)
with_if w r x false h is = cc
with_if w [] x true h is = cc
with_if w (a ∷ []) x true h is = cc
with_if w (a ∷ b ∷ r) x true h is =
    let two = and_parts (nat_le a 255) (nat_le b 255) (and_parts _ _ h).1 in
    behind_number w a b r x (leb-true a 255 two.0) (leb-true b 255 two.1) is

after_if : (w : List ℕ) (n : ℕ) (r : List ℕ) (x : WardBox) (s t : Bool) → (n == 0) ≡ s → (n == 1) ≡ t → cond s (ended w None r) (cond t (with_difference w r) None) ≡ Some x → Behind x w (n ∷ r)
after_if w n r x true t h k is = subst (λ m. Behind x w (m ∷ r)) (sym (eqb-true n 0 h)) (behind_none w r x is)
after_if w n r x false true h k is = subst (λ m. Behind x w (m ∷ r)) (sym (eqb-true n 1 k)) (with_if w r x (two_bytes r) refl is)
after_if w n r x false false h k is = cc

after_some : (w r : List ℕ) (x : WardBox) → after_ward w r ≡ Some x → Behind x w r
after_some w [] x is = cc
after_some w (n ∷ r) x is = after_if w n r x (n == 0) (n == 1) refl refl is

exact_if : (s : List ℕ) (x : WardBox) (t : Bool) → (length s == 60) ≡ t → cond t (after_ward (front s) (behind s)) None ≡ Some x → s ≡ box_form x
unfolding box_form
exact_if s x false h is = cc
exact_if s x true h is =
    let long : length s ≡ 60 = eqb-true _ 60 h in
    let b = after_some (front s) (behind s) x is in
    let w = ward_fits (front s) b.lawful in
    let d = difference_form x.difference in
    let split : s ≡ counted (front s) ++ behind s = section_split s 12 w (omega arith) in
    let laid : s ≡ (counted (front s) ++ d) ++ zeros b.count = split ∙ ap (λ l. counted (front s) ++ l) b.rest ∙ sym (append_assoc (counted (front s)) d (zeros b.count)) in
    let all = ap length laid ∙ length-append (counted (front s) ++ d) (zeros b.count) in
    let zs = length-replicate {A = ℕ} b.count 0 in
    let left : b.count ≡ 60 - length (counted (front s) ++ d) = omega (arith, long, all, zs) in
    laid
    ∙ ap (λ n. (counted (front s) ++ d) ++ zeros n) left
    ∙ sym (ap (λ c. padded 60 (counted c ++ d)) b.ward)

pub box_exact : (s : List ℕ) (x : WardBox) → box_reading s ≡ Some x → s ≡ box_form x
unfolding box_reading
box_exact s x = exact_if s x (length s == 60) refl
