-- The two laws of a label's form.
-- Assumes nothing.
use Rattle.std.specs.Prelude.{◌≡◌, ℕ, ◌+◌, ◌-◌, ◌≤◌, Bool, true, false, cond, ◌&&◌, List, ◌++◌, length, Some, None, ◌==◌, refl}
use Rattle.std.proofs.Common.{sym, ap, ◌∙◌, append_assoc, arith, length-append, eqb-true, eq-eqb}
use Rattle.std.specs.Result.{result_ok}
use Rattle.std.proofs.lemmas.Bool.{and_parts, and_from, cond-true, cond-false}
use Rattle.octets.specs.Zeros.{every, blank, zeros}
use Rattle.octets.proofs.Zeros.{zeros_blank, blank_zeros}
use Rattle.items.specs.Forms.{counted, front, behind, label_form, label_reading}
use Rattle.items.specs.Labels.{label, code_fits, batch_fits, expiry_fits}
use Rattle.items.specs.Texts.{chars, padded}
use Rattle.items.specs.declared.label.Label.{Label}
use Rattle.items.specs.FormLaws.{front_counted, behind_counted, length_padded, section_split, length_split, some_ok}
use Rattle.items.specs.LabelsLemmas.{label_chars, label_sections}

-- the three sections, and then the rest
abbrev laid : List ℕ → List ℕ → List ℕ → List ℕ → List ℕ
laid c b e r = counted c ++ (counted b ++ (counted e ++ r))

abbrev three : List ℕ → List ℕ → List ℕ → List ℕ
three c b e = counted c ++ (counted b ++ counted e)

laid_is : (c b e r : List ℕ) → three c b e ++ r ≡ laid c b e r
laid_is c b e r = simp append_assoc

length_three : (c b e : List ℕ) → length (three c b e) ≡ 3 + (length c + (length b + length e))
length_three c b e = length-append (counted c) (counted b ++ counted e) ∙ ap (λ n. length (counted c) + n) (length-append (counted b) (counted e)) ∙ omega arith

lengths : (l : Label) → (length (chars l.code) ≤ 14) × (length (chars l.batch) ≤ 20) × (length (chars l.expiry) ≤ 6)
lengths l =
    let p = and_parts _ _ l.lawful in
    let q = and_parts _ _ p.1 in
    (code_fits _ p.0, batch_fits _ q.0, expiry_fits _ q.1)

pub three_fits : (l : Label) → length (three (chars l.code) (chars l.batch) (chars l.expiry)) ≤ 43
three_fits l =
    let n = lengths l in
    omega (arith, length_three (chars l.code) (chars l.batch) (chars l.expiry))

pub label_sized : (l : Label) → length (label_form l) ≡ 60
unfolding label_form
label_sized l =
    let n = three_fits l in
    length_padded 60 (three (chars l.code) (chars l.batch) (chars l.expiry)) (omega arith)

-- the parts of three sections and what stands behind them
module _ (c b e r : List ℕ) where
  once : behind (laid c b e r) ≡ counted b ++ (counted e ++ r)
  once = behind_counted c (counted b ++ (counted e ++ r))

  twice : behind (behind (laid c b e r)) ≡ counted e ++ r
  twice = ap behind once ∙ behind_counted b (counted e ++ r)

  first : front (laid c b e r) ≡ c
  first = front_counted c (counted b ++ (counted e ++ r))

  second : front (behind (laid c b e r)) ≡ b
  second = ap front once ∙ front_counted b (counted e ++ r)

  third : front (behind (behind (laid c b e r))) ≡ e
  third = ap front twice ∙ front_counted e r

  last : behind (behind (behind (laid c b e r))) ≡ r
  last = ap behind twice ∙ behind_counted e r

reading_laid : (c b e : List ℕ) (n : ℕ) → length (laid c b e (zeros n)) ≡ 60 → label_reading (laid c b e (zeros n)) ≡ result_ok (label c b e)
unfolding label_reading
reading_laid c b e n h =
    cond-true _ _ _ (and_from _ _ (eq-eqb _ 60 h) (ap (every blank) (last c b e (zeros n)) ∙ zeros_blank n))
    ∙ (λ i. result_ok (label (first c b e (zeros n) i) (second c b e (zeros n) i) (third c b e (zeros n) i)))

pub label_round : (l : Label) → label_reading (label_form l) ≡ Some l
unfolding label_form
label_round l =
    let is = laid_is (chars l.code) (chars l.batch) (chars l.expiry) (zeros (60 - length (three (chars l.code) (chars l.batch) (chars l.expiry)))) in
    ap label_reading is
    ∙ reading_laid (chars l.code) (chars l.batch) (chars l.expiry) _ (sym (ap length is) ∙ label_sized l)
    ∙ ap result_ok (label_chars l)

-- bytes with three sections of lawful length and zeros behind
module _ (s : List ℕ) (long : length s ≡ 60) (blanks : every blank (behind (behind (behind s))) ≡ true)
    (one : length (front s) ≤ 14) (two : length (front (behind s)) ≤ 20) (three' : length (front (behind (behind s))) ≤ 6) where
  after_code : length s ≡ 1 + (length (front s) + length (behind s))
  after_code = length_split s 14 one (omega arith)

  after_batch : length (behind s) ≡ 1 + (length (front (behind s)) + length (behind (behind s)))
  after_batch = let n = after_code in length_split (behind s) 20 two (omega arith)

  after_expiry : length (behind (behind s)) ≡ 1 + (length (front (behind (behind s))) + length (behind (behind (behind s))))
  after_expiry = let n = after_code in let m = after_batch in length_split (behind (behind s)) 6 three' (omega arith)

  as_laid : s ≡ laid (front s) (front (behind s)) (front (behind (behind s))) (behind (behind (behind s)))
  as_laid =
      let n = after_code in
      let m = after_batch in
      section_split s 14 one (omega arith)
      ∙ ap (λ r. counted (front s) ++ r) (section_split (behind s) 20 two (omega arith)
      ∙ ap (λ r. counted (front (behind s)) ++ r) (section_split (behind (behind s)) 6 three' (omega arith)))

  pub as_padded : s ≡ padded 60 (three (front s) (front (behind s)) (front (behind (behind s))))
  as_padded =
      let n = after_code in
      let m = after_batch in
      let k = after_expiry in
      let all = length_three (front s) (front (behind s)) (front (behind (behind s))) in
      let left : length (behind (behind (behind s))) ≡ 60 - length (three (front s) (front (behind s)) (front (behind (behind s)))) = omega arith in
      as_laid
      ∙ sym (laid_is (front s) (front (behind s)) (front (behind (behind s))) (behind (behind (behind s))))
      ∙ ap (λ r. three (front s) (front (behind s)) (front (behind (behind s))) ++ r) (blank_zeros _ blanks ∙ ap zeros left)

exact_if : (s : List ℕ) (t : Bool) → (length s == 60 && every blank (behind (behind (behind s)))) ≡ t → (l : Label) → cond t (result_ok (label (front s) (front (behind s)) (front (behind (behind s))))) None ≡ Some l → s ≡ label_form l
unfolding label_form
exact_if s true h l is =
    let test = and_parts _ _ h in
    let made = label_sections _ _ _ l (some_ok _ l is) in
    let p = and_parts _ _ made.lawful in
    let q = and_parts _ _ p.1 in
    as_padded s (eqb-true _ 60 test.0) test.1 (code_fits _ p.0) (batch_fits _ q.0) (expiry_fits _ q.1)
    ∙ sym (λ i. padded 60 (three (made.code i) (made.batch i) (made.expiry i)))
exact_if s false h l is = cc

pub label_exact : (s : List ℕ) (l : Label) → label_reading s ≡ Some l → s ≡ label_form l
unfolding label_reading
label_exact s l = exact_if s (length s == 60 && every blank (behind (behind (behind s)))) refl l

pub reading_none : (s : List ℕ) → (length s == 60 && every blank (behind (behind (behind s)))) ≡ false → None ≡ label_reading s
unfolding label_reading
reading_none s h = sym (cond-false _ _ _ h)

pub reading_some : (s : List ℕ) → length s ≡ 60 → every blank (behind (behind (behind s))) ≡ true → label_reading s ≡ result_ok (label (front s) (front (behind s)) (front (behind (behind s))))
unfolding label_reading
reading_some s h k = cond-true _ _ _ (and_from _ _ (eq-eqb _ 60 h) k)
