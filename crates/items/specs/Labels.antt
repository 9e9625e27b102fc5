-- Pack labels: the label of given sections, or the first of them that is unlawful.
-- Assumes nothing.
use Rattle.std.specs.Prelude.{◌≡◌, ℕ, ◌≤◌, Bool, true, false, cond, List, length, Ok, Err, Result, ◌==◌, refl}
use Rattle.std.proofs.Common.{◌∙◌, ⊎_elim, arith, lit≤, leb-true, eqb-true}
use Rattle.std.proofs.lemmas.Bool.{and_parts, or_cases}
use Rattle.fault.specs.declared.Fault.{Fault}
use Rattle.fault.specs.Refusals.{unlawful}
use Rattle.items.specs.Lawful.{lawful_code, lawful_batch, lawful_expiry, lawful_label}
use Rattle.items.specs.Texts.{text, chars, text_at}
use Rattle.items.specs.declared.label.Label.{Label}

-- lawful sections are short enough for their texts
at_most : (n k m : ℕ) → k ≤ m → (n == k) ≡ true → n ≤ m
at_most n k m h e = let is : n ≡ k = eqb-true n k e in omega arith

pub code_fits : (c : List ℕ) → lawful_code c ≡ true → length c ≤ 14
code_fits c h =
    ⊎_elim (at_most _ 8 14 (lit≤ tt))
    (λ r. ⊎_elim (at_most _ 13 14 (lit≤ tt)) (at_most _ 14 14 (lit≤ tt)) (or_cases _ _ r))
    (or_cases _ _ (and_parts _ _ h).0)

pub batch_fits : (b : List ℕ) → lawful_batch b ≡ true → length b ≤ 20
batch_fits b h = leb-true _ _ (and_parts _ _ h).0

pub expiry_fits : (e : List ℕ) → lawful_expiry e ≡ true → length e ≤ 6
expiry_fits e h =
    ⊎_elim (at_most _ 0 6 (lit≤ tt)) (λ r. at_most _ 6 6 (lit≤ tt) (and_parts _ _ r).0) (or_cases _ _ h)

pub record Fits (c b e : List ℕ) : Type 0 where
  pub code : chars (text 14 c) ≡ c
  pub batch : chars (text 20 b) ≡ b
  pub expiry : chars (text 6 e) ≡ e

pub fits : (c b e : List ℕ) → lawful_label c b e ≡ true → Fits c b e
fits c b e h =
    let p = and_parts _ _ h in
    let q = and_parts _ _ p.1 in
    record {
      code = text_at 14 c (code_fits c p.0);
      batch = text_at 20 b (batch_fits b q.0);
      expiry = text_at 6 e (expiry_fits e q.1);
    }

-- the label with these sections, which are lawful
abbrev pub of_sections : (c b e : List ℕ) → lawful_label c b e ≡ true → Label
of_sections c b e h = record {
  code = text 14 c;
  batch = text 20 b;
  expiry = text 6 e;
  lawful = (λ i. lawful_label ((fits c b e h).code i) ((fits c b e h).batch i) ((fits c b e h).expiry i)) ∙ h;
}

-- the first unlawful section, counted from 1
abbrev pub first_unlawful : List ℕ → List ℕ → List ℕ → ℕ
first_unlawful c b e = cond (lawful_code c) (cond (lawful_batch b) 3 2) 1

abbrev pub made : (c b e : List ℕ) (t : Bool) → lawful_label c b e ≡ t → Result Label Fault
made c b e true h = Ok (of_sections c b e h)
made c b e false h = Err (unlawful (first_unlawful c b e))

unfoldable pub label : List ℕ → List ℕ → List ℕ → Result Label Fault
label c b e = made c b e (lawful_label c b e) refl
