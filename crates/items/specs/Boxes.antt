-- Ward boxes: the box of given sections, or the first of them that is unlawful.
-- Assumes nothing.
use Rattle.std.specs.Prelude.{◌≡◌, ℕ, ◌≤◌, Bool, true, false, cond, List, length, ℤ, Ok, Err, Option, Result, refl}
use Rattle.std.proofs.Common.{◌∙◌, leb-true}
use Rattle.std.proofs.lemmas.Bool.{and_parts}
use Rattle.fault.specs.declared.Fault.{Fault}
use Rattle.fault.specs.Refusals.{unlawful}
use Rattle.items.specs.Lawful.{lawful_ward, lawful_box}
use Rattle.items.specs.Texts.{text, chars, text_at}
use Rattle.items.specs.declared.ward_box.WardBox.{WardBox}

-- a lawful ward is short enough for its text
pub ward_fits : (w : List ℕ) → lawful_ward w ≡ true → length w ≤ 12
ward_fits w h = leb-true _ _ (and_parts _ _ (and_parts _ _ h).1).0

pub ward_text : (w : List ℕ) (d : Option ℤ) → lawful_box w d ≡ true → chars (text 12 w) ≡ w
ward_text w d h = text_at 12 w (ward_fits w (and_parts _ _ h).0)

-- the box with these sections, which are lawful
abbrev pub of_sections : (w : List ℕ) (d : Option ℤ) → lawful_box w d ≡ true → WardBox
of_sections w d h = record {
  ward = text 12 w;
  difference = d;
  lawful = (λ i. lawful_box (ward_text w d h i) d) ∙ h;
}

abbrev pub made : (w : List ℕ) (d : Option ℤ) (t : Bool) → lawful_box w d ≡ t → Result WardBox Fault
made w d true h = Ok (of_sections w d h)
made w d false h = Err (unlawful (cond (lawful_ward w) 2 1))

unfoldable pub ward_box : List ℕ → Option ℤ → Result WardBox Fault
ward_box w d = made w d (lawful_box w d) refl
