-- Boxes with the same sections are the same box.
-- Assumes nothing.
use Rattle.std.specs.Prelude.{◌≡◌, ℕ, Bool, true, false, List, [], ℤ, None, Ok, Err, Option, Result, refl}
use Rattle.std.proofs.Common.{sym, ap, ◌∙◌}
use mathlib.Core.HLevel.{is_prop→PathP}
use denote.Struct.Props.{props}
use Rattle.std.proofs.lemmas.Bool.{and_from}
use Rattle.fault.specs.declared.Fault.{Fault}
use Rattle.items.specs.Boxes.{ward_box, made, of_sections, ward_text}
use Rattle.items.specs.Lawful.{lawful_ward, lawful_difference, lawful_box}
use Rattle.items.specs.Texts.{chars, text}
use Rattle.items.specs.declared.text.Text.{Text}
use Rattle.items.specs.declared.ward_box.WardBox.{WardBox}
use Rattle.items.specs.Same.{text_chars}

pub both_lawful : (w : List ℕ) (d : Option ℤ) → true ≡ lawful_ward w → true ≡ lawful_difference d → lawful_box w d ≡ true
both_lawful w d p q = and_from _ _ (sym p) (sym q)

lawful_prop : (w : Text 12) (d : Option ℤ) → IsProp (lawful_box (chars w) d ≡ true)
lawful_prop w d = hlevel props

pub same_box : (x y : WardBox) → x.ward ≡ y.ward → x.difference ≡ y.difference → x ≡ y
same_box x y p q =
    λ i. record {
      ward = p i;
      difference = q i;
      lawful = is_prop→PathP (λ j. lawful_box (chars (p j)) (q j) ≡ true) (λ j. lawful_prop (p j) (q j)) x.lawful y.lawful i;
    }

made_lawful : (w : List ℕ) (d : Option ℤ) (t : Bool) (h : lawful_box w d ≡ t) (k : lawful_box w d ≡ true) (x : WardBox) → x.ward ≡ text 12 w → x.difference ≡ d → Ok x ≡ made w d t h
made_lawful w d true h k x p q = ap Ok (same_box x (of_sections w d h) p q)
made_lawful w d false h k x p q = cc

-- the box of lawful sections
pub box_of : (w : List ℕ) (d : Option ℤ) → lawful_box w d ≡ true → (x : WardBox) → x.ward ≡ text 12 w → x.difference ≡ d → Ok x ≡ ward_box w d
unfolding ward_box
box_of w d = made_lawful w d (lawful_box w d) refl

pub box_chars : (x : WardBox) → ward_box (chars x.ward) x.difference ≡ Ok x
box_chars x = sym (box_of _ _ x.lawful x (text_chars x.ward) refl)

-- the sections of the box that they make
pub record Sections (x : WardBox) (w : List ℕ) (d : Option ℤ) : Type 0 where
  pub lawful : lawful_box w d ≡ true
  pub ward : chars x.ward ≡ w
  pub difference : x.difference ≡ d

ward_part : Result WardBox Fault → List ℕ
ward_part (Ok x) = chars x.ward
ward_part (Err e) = []

difference_part : Result WardBox Fault → Option ℤ
difference_part (Ok x) = x.difference
difference_part (Err e) = None

made_sections : (w : List ℕ) (d : Option ℤ) (t : Bool) (h : lawful_box w d ≡ t) (x : WardBox) → made w d t h ≡ Ok x → Sections x w d
unfolding ward_part difference_part
made_sections w d true h x is = record {
  lawful = h;
  ward = sym (ap ward_part is) ∙ ward_text w d h;
  difference = sym (ap difference_part is);
}
made_sections w d false h x is = cc

pub box_sections : (w : List ℕ) (d : Option ℤ) (x : WardBox) → ward_box w d ≡ Ok x → Sections x w d
unfolding ward_box
box_sections w d = made_sections w d (lawful_box w d) refl
