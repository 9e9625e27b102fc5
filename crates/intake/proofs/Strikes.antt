-- Cancelled bytes can be struck out: the confirmed lines stay the same. Assumes nothing.
use Rattle.std.proofs.Common.{◌≡◌, ℕ, Bool, true, false, cond, not, ◌&&◌, ◌||◌, eqb, List, [], ◌∷◌, ◌++◌, map, sym, refl, ap, ◌∙◌, subst}
use Rattle.std.proofs.lemmas.Bool.{cond-false, eqb-true}
use Rattle.intake.specs.Cancelled.{cancels, struck}
use Rattle.intake.specs.Lines.{lines_after, passed, entry_of, confirmed, entries}

lines_added : (field : List ℕ) (b : ℕ) (bs : List ℕ) → eqb b 10 ≡ false → eqb b 24 ≡ false → lines_after field (b ∷ bs) ≡ lines_after (field ++ b ∷ []) bs
unfolding lines_after
lines_added field b bs c k = cond-false _ _ _ c ∙ cond-false _ _ _ k

cancels_added : (b : ℕ) (bs : List ℕ) → eqb b 10 ≡ false → eqb b 24 ≡ false → cancels (b ∷ bs) ≡ cancels bs
unfolding cancels
cancels_added b bs c k = ap (λ x. x || (not (eqb b 10) && cancels bs)) k ∙ ap (λ x. not x && cancels bs) c

cond_empty : (x : Bool) (s : List ℕ) → lines_after (cond x [] []) s ≡ lines_after [] s
cond_empty true s = refl
cond_empty false s = refl

-- what stands of a scan behind a field whose bytes are cancelled with it, or are not
abbrev Struck : List ℕ → List ℕ → Type 0
Struck field s = lines_after field s ≡ lines_after (cond (cancels s) [] field) (struck s)

module _ (bs : List ℕ) (ih : (field : List ℕ) → Struck field bs) (field : List ℕ) where
  later : lines_after [] bs ≡ lines_after [] (struck bs)
  later = ih [] ∙ cond_empty (cancels bs) (struck bs)

  at_confirm : Struck field (10 ∷ bs)
  unfolding lines_after cancels struck
  at_confirm = ap (passed field) later

  at_cancel : Struck field (24 ∷ bs)
  unfolding lines_after cancels struck
  at_cancel = later

  at_other : (b : ℕ) → eqb b 10 ≡ false → eqb b 24 ≡ false → (x : Bool) → cancels bs ≡ x → Struck field (b ∷ bs)
  unfolding struck
  at_other b c k true e =
      lines_added field b bs c k ∙ ih (field ++ b ∷ [])
      ∙ ap (λ x. lines_after (cond x [] (field ++ b ∷ [])) (struck bs)) e
      ∙ sym (ap (λ x. lines_after (cond x [] field) (cond x (struck bs) (b ∷ struck bs))) (cancels_added b bs c k ∙ e))
  at_other b c k false e =
      lines_added field b bs c k ∙ ih (field ++ b ∷ [])
      ∙ ap (λ x. lines_after (cond x [] (field ++ b ∷ [])) (struck bs)) e
      ∙ sym (lines_added field b (struck bs) c k)
      ∙ sym (ap (λ x. lines_after (cond x [] field) (cond x (struck bs) (b ∷ struck bs))) (cancels_added b bs c k ∙ e))

  at_byte : (b : ℕ) (t k : Bool) → eqb b 10 ≡ t → eqb b 24 ≡ k → Struck field (b ∷ bs)
  at_byte b true k e f = subst (λ n. Struck field (n ∷ bs)) (sym (eqb-true b 10 e)) at_confirm
  at_byte b false true e f = subst (λ n. Struck field (n ∷ bs)) (sym (eqb-true b 24 f)) at_cancel
  at_byte b false false e f = at_other b e f (cancels bs) refl

lines_struck : (field s : List ℕ) → Struck field s
unfolding cancels struck
lines_struck field [] = refl
lines_struck field (b ∷ bs) = at_byte bs (λ l. lines_struck l bs) field b (eqb b 10) (eqb b 24) refl refl

pub confirmed_struck : (s : List ℕ) → confirmed s ≡ confirmed (struck s)
confirmed_struck s = lines_struck [] s ∙ cond_empty (cancels s) (struck s)

-- scans that are equal once their cancelled bytes are struck out fill the same entries
pub entries_struck : (other input : List ℕ) → struck other ≡ struck input → entries other ≡ entries input
entries_struck other input same = ap (map entry_of) (confirmed_struck other ∙ ap confirmed same ∙ sym (confirmed_struck input))
