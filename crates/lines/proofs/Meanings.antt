-- The laws of what a line answers.
use Rattle.std.proofs.Common.{◌≡◌, ℕ, suc, ◌+◌, ◌<◌, ◌≤◌, Bool, true, false, eqb, ◌⊎◌, List, [], ◌∷◌, ◌++◌, length, get_or, take, drop, Ok, Err, Result, sym, refl, ap, ◌∙◌, subst, inl, inr, append_assoc, arith, length-append, take-append-drop}
use Rattle.std.proofs.lemmas.List.{take_at, take-take}
use Rattle.std.proofs.lemmas.Bool.{cond-true, cond-false, eqb-true, eqb-false, ne_eqb, or_from, le-leb, lt-leb, cases_lt, cases_order}
use Rattle.fault.specs.declared.Fault.{Fault}
use Rattle.fault.specs.declared.Place.{Place}
use Rattle.fault.specs.declared.Place.TheVariants.{Whole, Block, Count, Section, Byte}
use Rattle.fault.specs.Refusals.{number_of, place_of, number_too_large, unlawful}
use Rattle.items.specs.declared.label.Label.{Label}
use Rattle.items.specs.Labels.{label}
use Rattle.items.specs.LabelsLemmas.{label_refuses}
use Rattle.lines.specs.declared.Field.{Field}
use Rattle.lines.specs.declared.Field.TheVariants.{Number, Code, Batch, Expiry}
use Rattle.lines.specs.declared.Transaction.{Transaction}
use Rattle.lines.specs.declared.Transaction.TheVariants.{Store, Take}
use Rattle.lines.specs.Grammar.{Takes, Stores, Shaped, Begins, Misfit, value, present}
use Rattle.lines.specs.Meaning.{then, misfit, cut, take_of, store_of, meaning}
use Rattle.lines.specs.Laws.{Says, TooLarge, Unlawful, MisfitLaw, ShapedLaw}
use Rattle.lines.proofs.Fields.{Fields, cut_fields, Tells, tells, begins_written}

-- ---- lines of each letter

-- s is a, which begins a transaction, and then b, of which the first byte, if any, cannot stand there
record Stops (s a b : List ℕ) : Type 0 where
  whole : s ≡ a ++ b
  stops : meaning s ≡ misfit (length a)
  begins : Begins a
  local : (y : ℕ) (t r : List ℕ) → b ≡ y ∷ t → meaning (a ++ y ∷ r) ≡ misfit (length a)

-- s is a transaction by its shape, or stops
abbrev Line : List ℕ → Type 0
Line s = Shaped s ⊎ ((a : List ℕ) × (b : List ℕ) × Stops s a b)

-- a letter, behind which and a space stand a number and fields of the kinds gs
module _ (letter : ℕ) (gs : List Field) (of : List (List ℕ) → Result Transaction Fault) (shape : (s : List ℕ) (xs : List (List ℕ)) → Fields Number gs s xs → Shaped (letter ∷ 32 ∷ s)) (alone : meaning (letter ∷ []) ≡ misfit 1) (apart : (b : ℕ) (s : List ℕ) → (b ≡ 32 → ⊥) → meaning (letter ∷ b ∷ s) ≡ misfit 1) (behind : (s : List ℕ) → meaning (letter ∷ 32 ∷ s) ≡ then (cut Number gs 2 s) of) where
  begins_letter : Begins (letter ∷ [])
  begins_letter =
      let (rest, xs, h) = begins_written Number gs (48 ∷ []) (inl ((refl, tt), omega arith, omega arith)) in
      (32 ∷ 48 ∷ rest, shape (48 ∷ rest) xs h)

  spaces : (s : List ℕ) → Tells Number gs 2 s → Line (letter ∷ 32 ∷ s)
  spaces s (inl (xs, h, e)) = inl (shape s xs h)
  spaces s (inr (a, b, F)) =
      let place : 2 + length a ≡ suc (suc (length a)) = omega arith in
      let (rest, xs, h) = F.begins in
      inr (
        letter ∷ 32 ∷ a,
        b,
        record {
          whole = ap (λ t. letter ∷ 32 ∷ t) F.whole;
          stops = behind s ∙ ap (λ r. then r of) F.stops ∙ ap (λ n. misfit n) place;
          begins = (rest, shape (a ++ rest) xs h);
          local = λ y t r e. behind (a ++ y ∷ r) ∙ ap (λ r. then r of) (F.local y t r e) ∙ ap (λ n. misfit n) place;
        },
      )

  lettered : (s : List ℕ) → Line (letter ∷ s)
  lettered [] = inr (letter ∷ [], [], record { whole = refl; stops = alone; begins = begins_letter; local = λ y t r e. cc })
  lettered (b ∷ s) = go (eqb b 32) refl
    where
      go : (d : Bool) → eqb b 32 ≡ d → Line (letter ∷ b ∷ s)
      go true d = subst (λ b. Line (letter ∷ b ∷ s)) (sym (eqb-true b 32 d)) (spaces s (tells Number gs 2 s))
      go false d =
          inr (
            letter ∷ [],
            b ∷ s,
            record {
              whole = refl;
              stops = apart b s (eqb-false b 32 d);
              begins = begins_letter;
              local = λ y t r e. apart y r (λ k. eqb-false b 32 d (ap (λ u. get_or u 0 0) e ∙ k));
            },
          )

-- ---- every line

abbrev label_fields : List Field
label_fields = Code ∷ Batch ∷ Expiry ∷ []

abbrev store_by : List (List ℕ) → Result Transaction Fault
store_by xs = store_of (get_or xs 0 []) (get_or xs 1 []) (get_or xs 2 []) (get_or xs 3 [])

abbrev take_by : List (List ℕ) → Result Transaction Fault
take_by xs = take_of (get_or xs 0 [])

store_shape : (s : List ℕ) (xs : List (List ℕ)) → Fields Number label_fields s xs → Shaped (83 ∷ 32 ∷ s)
store_shape s xs (number, s₁, xs₁, is₁, w₁, (code, s₂, xs₂, is₂, w₂, (batch, expiry, xs₃, is₃, w₃, (w₄, e₄), e₃), e₂), e₁) =
    inr (number, code, batch, expiry, (ap (λ t. 83 ∷ 32 ∷ t) (is₁ ∙ ap (λ t. number ++ 32 ∷ t) (is₂ ∙ ap (λ t. code ++ 32 ∷ t) is₃)), w₁, w₂, w₃, w₄))

take_shape : (s : List ℕ) (xs : List (List ℕ)) → Fields Number [] s xs → Shaped (84 ∷ 32 ∷ s)
take_shape s xs h = inl (s, (refl, h.0))

other : (c : ℕ) (s : List ℕ) → (c ≡ 83 → ⊥) → (c ≡ 84 → ⊥) → meaning (c ∷ s) ≡ misfit 0
unfolding meaning
other c s h k = cond-false _ _ _ (or_from _ _ (ne_eqb c 83 h) (ne_eqb c 84 k))

begins_none : Begins []
begins_none = (84 ∷ 32 ∷ 48 ∷ [], inl (48 ∷ [], (refl, inl ((refl, tt), omega arith, omega arith))))

line : (s : List ℕ) → Line s
unfolding meaning
line [] = inr ([], [], record { whole = refl; stops = refl; begins = begins_none; local = λ y t r e. cc })
line (c ∷ s) = go (eqb c 83) refl (eqb c 84) refl
  where
    go : (d : Bool) → eqb c 83 ≡ d → (e : Bool) → eqb c 84 ≡ e → Line (c ∷ s)
    go true d t e =
        subst (λ c. Line (c ∷ s)) (sym (eqb-true c 83 d)) (lettered 83 label_fields store_by store_shape refl (λ b s h. cond-false _ _ _ (ne_eqb b 32 h)) (λ s. refl) s)
    go false d true e =
        subst (λ c. Line (c ∷ s)) (sym (eqb-true c 84 e)) (lettered 84 [] take_by take_shape refl (λ b s h. cond-false _ _ _ (ne_eqb b 32 h)) (λ s. refl) s)
    go false d false e =
        inr (
          [],
          c ∷ s,
          record {
            whole = refl;
            stops = other c s (eqb-false c 83 d) (eqb-false c 84 e);
            begins = begins_none;
            local = λ y t r is. let same = ap (λ u. get_or u 0 0) is in other y r (λ k. eqb-false c 83 d (same ∙ k)) (λ k. eqb-false c 84 e (same ∙ k));
          },
        )

-- ---- a line of the shape answers by its fields

takes_mean : (s number : List ℕ) → Takes s number → meaning s ≡ take_of number
unfolding meaning
takes_mean s number (is, w) =
    ap meaning is ∙ ap (λ r. then r take_by) (cut_fields Number [] 2 number (number ∷ []) (w, refl))

stores_mean : (s number code batch expiry : List ℕ) → Stores s number code batch expiry → meaning s ≡ store_of number code batch expiry
unfolding meaning
stores_mean s number code batch expiry (is, w₁, w₂, w₃, w₄) =
    ap meaning is ∙ ap (λ r. then r store_by) (cut_fields Number label_fields 2 _ (number ∷ code ∷ batch ∷ expiry ∷ []) (number, _, _, refl, w₁, (code, _, _, refl, w₂, (batch, expiry, _, refl, w₃, (w₄, refl), refl), refl), refl))

-- ---- what the fields make

module _ (number code batch expiry : List ℕ) where
  abbrev made : Result Label Fault
  made = label code (present batch) (present expiry)

  store_small : (r : Result Label Fault) → value number ≤ 32767 → made ≡ r → store_of number code batch expiry ≡ then r (λ l. Ok (Store (value number) l))
  store_small r h e =
      ap (λ q. then q (λ n. then made (λ l. Ok (Store n l)))) (cond-true _ _ _ (le-leb _ _ h)) ∙ ap (λ q. then q (λ l. Ok (Store (value number) l))) e

  store_large : 32767 < value number → store_of number code batch expiry ≡ Err number_too_large
  store_large h = ap (λ q. then q (λ n. then made (λ l. Ok (Store n l)))) (cond-false _ _ _ (lt-leb _ _ h))

take_small : (number : List ℕ) → value number ≤ 32767 → take_of number ≡ Ok (Take (value number))
take_small number h = ap (λ r. then r (λ n. Ok (Take n))) (cond-true _ _ _ (le-leb _ _ h))

take_large : (number : List ℕ) → 32767 < value number → take_of number ≡ Err number_too_large
take_large number h = ap (λ r. then r (λ n. Ok (Take n))) (cond-false _ _ _ (lt-leb _ _ h))

-- ---- each answer of a line of the shape, and what it says of the line

abbrev Answered : List ℕ → Type 0
Answered s =
    ((t : Transaction) × Says s t × (meaning s ≡ Ok t))
    ⊎ (TooLarge s × (meaning s ≡ Err number_too_large))
    ⊎ ((k : ℕ) × Unlawful s k × (meaning s ≡ Err (unlawful k)))

answered : (s : List ℕ) → Shaped s → Answered s
answered s (inl (number, h)) = go (cases_lt 32767 (value number))
  where
    go : (32767 < value number) ⊎ (value number ≤ 32767) → Answered s
    go (inl lt) = inr (inl ((number, lt, inl h), takes_mean s number h ∙ take_large number lt))
    go (inr le) = inl (Take (value number), (number, h, refl, le), takes_mean s number h ∙ take_small number le)
answered s (inr (number, code, batch, expiry, h)) = go (cases_lt 32767 (value number)) (label code (present batch) (present expiry)) refl
  where
    go : (32767 < value number) ⊎ (value number ≤ 32767) → (r : Result Label Fault) → label code (present batch) (present expiry) ≡ r → Answered s
    go (inl lt) r is =
        inr (inl ((number, lt, inr (code, batch, expiry, h)), stores_mean s number code batch expiry h ∙ store_large number code batch expiry lt))
    go (inr le) (Ok l) is =
        inl (Store (value number) l, (number, code, batch, expiry, h, refl, le, is), stores_mean s number code batch expiry h ∙ store_small number code batch expiry _ le is)
    go (inr le) (Err f) is =
        let (k, eight) = label_refuses _ _ _ f is in
        let is' : label code (present batch) (present expiry) ≡ Err (unlawful k) = is ∙ ap Err eight in
        inr (inr (k, (number, code, batch, expiry, h, le, is'), stores_mean s number code batch expiry h ∙ store_small number code batch expiry _ le is'))

says_means : (s : List ℕ) (t : Transaction) → Says s t → meaning s ≡ Ok t
says_means s (Take n) (number, h, is, le) =
    takes_mean s number h ∙ take_small number (subst (λ m. m ≤ 32767) (sym is) le) ∙ ap (λ m. Ok (Take m)) is
says_means s (Store n l) (number, code, batch, expiry, h, is, le, lab) =
    stores_mean s number code batch expiry h ∙ store_small number code batch expiry (Ok l) (subst (λ m. m ≤ 32767) (sym is) le) lab ∙ ap (λ m. Ok (Store m l)) is

large_means : (s : List ℕ) → TooLarge s → meaning s ≡ Err number_too_large
large_means s (number, lt, inl h) = takes_mean s number h ∙ take_large number lt
large_means s (number, lt, inr (code, batch, expiry, h)) =
    stores_mean s number code batch expiry h ∙ store_large number code batch expiry lt

unlawful_means : (s : List ℕ) (k : ℕ) → Unlawful s k → meaning s ≡ Err (unlawful k)
unlawful_means s k (number, code, batch, expiry, h, le, lab) =
    stores_mean s number code batch expiry h ∙ store_small number code batch expiry _ le lab

-- ---- the laws

-- an answer's number, 0 for a transaction, and its byte
abbrev answered_number : Result Transaction Fault → ℕ
answered_number (Ok t) = 0
answered_number (Err e) = number_of e

abbrev byte : Place → ℕ
byte Whole = 0
byte (Block b) = b
byte (Count n) = n
byte (Section k) = k
byte (Byte p) = p

abbrev answered_place : Result Transaction Fault → ℕ
answered_place (Ok t) = 0
answered_place (Err e) = byte (place_of e)

-- a line of the shape is no misfit
fitting : (s : List ℕ) (p : ℕ) → Shaped s → meaning s ≡ misfit p → ⊥
fitting s p h e = go (answered s h)
  where
    go : Answered s → ⊥
    go (inl (t, w, is)) = omega (arith, ap answered_number (sym is ∙ e))
    go (inr (inl (w, is))) = omega (arith, ap answered_number (sym is ∙ e))
    go (inr (inr (k, w, is))) = omega (arith, ap answered_number (sym is ∙ e))

stops_misfit : (s a b : List ℕ) → Stops s a b → Misfit s (length a)
stops_misfit s a b S = (
  λ h. fitting s (length a) h S.stops,
  omega (arith, length-append a b, ap length S.whole),
  subst Begins (sym (ap (take (length a)) S.whole ∙ take_at a b (length a) refl)) S.begins,
  next b S.whole S.local,
)
  where
    next : (b : List ℕ) → s ≡ a ++ b → ((y : ℕ) (t r : List ℕ) → b ≡ y ∷ t → meaning (a ++ y ∷ r) ≡ misfit (length a)) → length a < length s → Begins (take (length a + 1) s) → ⊥
    next [] whole local lt h = omega (arith, length-append a [], ap length whole)
    next (y ∷ t) whole local lt (rest, h) =
        let long : length (a ++ y ∷ []) ≡ length a + 1 = simp length-append (omega arith) in
        let front : take (length a + 1) s ≡ a ++ y ∷ [] = ap (take (length a + 1)) (whole ∙ sym (append_assoc a (y ∷ []) t)) ∙ take_at (a ++ y ∷ []) t (length a + 1) long in
        fitting (a ++ y ∷ rest) (length a) (subst Shaped (ap (λ u. u ++ rest) front ∙ append_assoc a (y ∷ []) rest) h) (local y t rest refl)

begins_shorter : (s : List ℕ) (m n : ℕ) → m ≤ n → Begins (take n s) → Begins (take m s)
begins_shorter s m n le (rest, h) =
    let split : take n s ≡ take m s ++ drop m (take n s) = sym (take-append-drop m (take n s)) ∙ ap (λ u. u ++ drop m (take n s)) (take-take m n s le) in
    (drop m (take n s) ++ rest, subst Shaped (ap (λ u. u ++ rest) split ∙ append_assoc (take m s) (drop m (take n s)) rest) h)

one_misfit : (s : List ℕ) (p q : ℕ) → Misfit s p → Misfit s q → p ≡ q
one_misfit s p q P Q = go (cases_order p q)
  where
    go : (p ≡ q) ⊎ ((p < q) ⊎ (q < p)) → p ≡ q
    go (inl e) = e
    go (inr (inl lt)) = absurd (P.3 (omega (arith, Q.1)) (begins_shorter s (p + 1) q (omega arith) Q.2))
    go (inr (inr lt)) = absurd (Q.3 (omega (arith, P.1)) (begins_shorter s (q + 1) p (omega arith) P.2))

pub misfit_law : (s : List ℕ) (r : Result Transaction Fault) → r ≡ meaning s → MisfitLaw s r
unfolding MisfitLaw
misfit_law s r is = (λ p. (λ e. there p (sym is ∙ e) (line s), λ m. is ∙ back p m (line s)), λ h. some h (line s))
  where
    there : (p : ℕ) → meaning s ≡ misfit p → Line s → Misfit s p
    there p e (inl h) = absurd (fitting s p h e)
    there p e (inr (a, b, S)) = subst (Misfit s) (ap answered_place (sym S.stops ∙ e)) (stops_misfit s a b S)

    back : (p : ℕ) → Misfit s p → Line s → meaning s ≡ misfit p
    back p m (inl h) = absurd (m.0 h)
    back p m (inr (a, b, S)) = S.stops ∙ ap (λ n. misfit n) (one_misfit s (length a) p (stops_misfit s a b S) m)

    some : (Shaped s → ⊥) → Line s → (p : ℕ) × Misfit s p
    some h (inl k) = absurd (h k)
    some h (inr (a, b, S)) = (length a, stops_misfit s a b S)

pub shaped_law : (s : List ℕ) (r : Result Transaction Fault) → r ≡ meaning s → ShapedLaw s r
unfolding ShapedLaw
shaped_law s r is = (
  λ t. (λ e. says t (sym is ∙ e) (line s), λ h. is ∙ says_means s t h),
  (λ e. large (sym is ∙ e) (line s), λ h. is ∙ large_means s h),
  λ k. (λ e. unl k (sym is ∙ e) (line s), λ h. is ∙ unlawful_means s k h),
)
  where
    says_of : (t : Transaction) → meaning s ≡ Ok t → Answered s → Says s t
    says_of t e (inl (u, h, is)) = subst (Says s) (let same : Ok u ≡ Ok t = sym is ∙ e in cc) h
    says_of t e (inr (inl (h, is))) = absurd (omega (arith, ap answered_number (sym is ∙ e)))
    says_of t e (inr (inr (k, h, is))) = absurd (omega (arith, ap answered_number (sym is ∙ e)))

    says : (t : Transaction) → meaning s ≡ Ok t → Line s → Says s t
    says t e (inl h) = says_of t e (answered s h)
    says t e (inr (a, b, S)) = absurd (omega (arith, ap answered_number (sym S.stops ∙ e)))

    large_of : meaning s ≡ Err number_too_large → Answered s → TooLarge s
    large_of e (inl (u, h, is)) = absurd (omega (arith, ap answered_number (sym is ∙ e)))
    large_of e (inr (inl (h, is))) = h
    large_of e (inr (inr (k, h, is))) = absurd (omega (arith, ap answered_number (sym is ∙ e)))

    large : meaning s ≡ Err number_too_large → Line s → TooLarge s
    large e (inl h) = large_of e (answered s h)
    large e (inr (a, b, S)) = absurd (omega (arith, ap answered_number (sym S.stops ∙ e)))

    unl_of : (k : ℕ) → meaning s ≡ Err (unlawful k) → Answered s → Unlawful s k
    unl_of k e (inl (u, h, is)) = absurd (omega (arith, ap answered_number (sym is ∙ e)))
    unl_of k e (inr (inl (h, is))) = absurd (omega (arith, ap answered_number (sym is ∙ e)))
    unl_of k e (inr (inr (m, h, is))) = subst (Unlawful s) (ap answered_place (sym is ∙ e)) h

    unl : (k : ℕ) → meaning s ≡ Err (unlawful k) → Line s → Unlawful s k
    unl k e (inl h) = unl_of k e (answered s h)
    unl k e (inr (a, b, S)) = absurd (omega (arith, ap answered_number (sym S.stops ∙ e)))
