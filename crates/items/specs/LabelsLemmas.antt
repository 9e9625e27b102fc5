-- Labels with the same sections are the same label.
-- Assumes nothing.
use Rattle.std.specs.Prelude.{◌≡◌, ℕ, Bool, true, false, List, [], Ok, Err, Result, refl}
use Rattle.std.proofs.Common.{sym, ap, ◌∙◌}
use mathlib.Core.HLevel.{is_prop→PathP}
use denote.Struct.Props.{props}
use Rattle.std.proofs.lemmas.Bool.{and_from}
use Rattle.fault.specs.declared.Fault.{Fault}
use Rattle.fault.specs.Refusals.{unlawful}
use Rattle.items.specs.Labels.{label, made, of_sections, first_unlawful, fits}
use Rattle.items.specs.Lawful.{lawful_code, lawful_batch, lawful_expiry, lawful_label}
use Rattle.items.specs.Texts.{chars, text}
use Rattle.items.specs.declared.label.Label.{Label}
use Rattle.items.specs.declared.text.Text.{Text}
use Rattle.items.specs.Same.{text_chars}

pub all_lawful : (c b e : List ℕ) → true ≡ lawful_code c → true ≡ lawful_batch b → true ≡ lawful_expiry e → lawful_label c b e ≡ true
all_lawful c b e p q r = and_from _ _ (sym p) (and_from _ _ (sym q) (sym r))

lawful_prop : (a : Text 14) (b : Text 20) (c : Text 6) → IsProp (lawful_label (chars a) (chars b) (chars c) ≡ true)
lawful_prop a b c = hlevel props

pub same_label : (l m : Label) → l.code ≡ m.code → l.batch ≡ m.batch → l.expiry ≡ m.expiry → l ≡ m
same_label l m p q r =
    λ i. record {
      code = p i;
      batch = q i;
      expiry = r i;
      lawful = is_prop→PathP (λ j. lawful_label (chars (p j)) (chars (q j)) (chars (r j)) ≡ true) (λ j. lawful_prop (p j) (q j) (r j)) l.lawful m.lawful i;
    }

made_lawful : (c b e : List ℕ) (t : Bool) (h : lawful_label c b e ≡ t) (k : lawful_label c b e ≡ true) (l : Label) → l.code ≡ text 14 c → l.batch ≡ text 20 b → l.expiry ≡ text 6 e → Ok l ≡ made c b e t h
made_lawful c b e true h k l p q r = ap Ok (same_label l (of_sections c b e h) p q r)
made_lawful c b e false h k l p q r = cc

-- the label of lawful sections
pub label_of : (c b e : List ℕ) → lawful_label c b e ≡ true → (l : Label) → l.code ≡ text 14 c → l.batch ≡ text 20 b → l.expiry ≡ text 6 e → Ok l ≡ label c b e
unfolding label
label_of c b e = made_lawful c b e (lawful_label c b e) refl

pub label_chars : (l : Label) → label (chars l.code) (chars l.batch) (chars l.expiry) ≡ Ok l
label_chars l = sym (label_of _ _ _ l.lawful l (text_chars l.code) (text_chars l.batch) (text_chars l.expiry))

-- the sections of the label that they make
pub record Sections (l : Label) (c b e : List ℕ) : Type 0 where
  pub lawful : lawful_label c b e ≡ true
  pub code : chars l.code ≡ c
  pub batch : chars l.batch ≡ b
  pub expiry : chars l.expiry ≡ e

part : (Label → List ℕ) → Result Label Fault → List ℕ
part f (Ok l) = f l
part f (Err e) = []

made_sections : (c b e : List ℕ) (t : Bool) (h : lawful_label c b e ≡ t) (l : Label) → made c b e t h ≡ Ok l → Sections l c b e
unfolding part
made_sections c b e true h l is = record {
  lawful = h;
  code = sym (ap (part (λ x. chars x.code)) is) ∙ (fits c b e h).code;
  batch = sym (ap (part (λ x. chars x.batch)) is) ∙ (fits c b e h).batch;
  expiry = sym (ap (part (λ x. chars x.expiry)) is) ∙ (fits c b e h).expiry;
}
made_sections c b e false h l is = cc

pub label_sections : (c b e : List ℕ) (l : Label) → label c b e ≡ Ok l → Sections l c b e
unfolding label
label_sections c b e = made_sections c b e (lawful_label c b e) refl

made_refuses : (c b e : List ℕ) (t : Bool) (h : lawful_label c b e ≡ t) (f : Fault) → made c b e t h ≡ Err f → (k : ℕ) × (f ≡ unlawful k)
made_refuses c b e true h f is = cc
made_refuses c b e false h f is = (first_unlawful c b e, cc)

-- sections that make no label are refused by 8
pub label_refuses : (c b e : List ℕ) (f : Fault) → label c b e ≡ Err f → (k : ℕ) × (f ≡ unlawful k)
unfolding label
label_refuses c b e = made_refuses c b e (lawful_label c b e) refl
