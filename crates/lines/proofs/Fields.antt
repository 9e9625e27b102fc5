-- The fields of a text: it has them exactly where it is cut into them, and else they fail at the first misfit.
use Rattle.std.proofs.Common.{◌≡◌, ℕ, zero, suc, ◌+◌, ◌-◌, ◌<◌, ◌≤◌, Bool, true, false, cond, eqb, ◌⊎◌, List, [], ◌∷◌, ◌++◌, length, get_or, take, drop, replicate, Ok, Err, Result, sym, refl, ap, ◌∙◌, subst, inl, inr, append_assoc, append-nil, arith, length-append}
use lib.ListN.{length-replicate}
use Rattle.std.proofs.ByRecursion.{All-append}
use Rattle.std.proofs.lemmas.List.{take_all, take_at, drop_at}
use Rattle.std.proofs.lemmas.Bool.{cond-true, cond-false, eqb-true, eqb-false, eq-eqb, ne_eqb}
use Rattle.fault.specs.declared.Fault.{Fault}
use Rattle.lines.specs.declared.Field.{Field}
use Rattle.lines.specs.declared.Field.TheVariants.{Number, Code, Batch, Expiry}
use Rattle.lines.specs.Grammar.{fits, least, most, Written}
use Rattle.lines.specs.Meaning.{then, misfit, front, behind, spaced, last, cut}
use Rattle.lines.proofs.Fronts.{Fit, Short, Found, found, front_written, not_space}
use Rattle.lines.proofs.Splits.{spaced_misfit}

-- s is the fields xs, of these kinds, with one space between
abbrev pub Fields : Field → List Field → List ℕ → List (List ℕ) → Type 0
Fields f [] s xs = Written f s × (xs ≡ s ∷ [])
Fields f (g ∷ gs) s xs =
    (a : List ℕ) × (b : List ℕ) × (ys : List (List ℕ)) × (s ≡ a ++ 32 ∷ b) × Written f a × Fields g gs b ys × (xs ≡ a ∷ ys)

-- ---- a field and its space, or the end

module _ (f : Field) (at : ℕ) where
  spaced_at : (a b : List ℕ) → front f at (a ++ 32 ∷ b) ≡ Ok (length a) → spaced f at (a ++ 32 ∷ b) ≡ Ok (a, at + length a + 1, b)
  spaced_at a b e =
      ap (λ r. then r (λ n. behind (take n (a ++ 32 ∷ b)) (at + n) (drop n (a ++ 32 ∷ b)))) e ∙ (λ i. behind (take_at a (32 ∷ b) (length a) refl i) (at + length a) (drop_at a (32 ∷ b) (length a) refl i))

  spaced_not : (a b : List ℕ) → front f at (a ++ b) ≡ Ok (length a) → (0 < length b → get_or b 0 0 ≡ 32 → ⊥) → spaced f at (a ++ b) ≡ misfit (at + length a)
  spaced_not a b e h = spaced_misfit f at (a ++ b) (length a) (sym e) b (sym (drop_at a b (length a) refl)) h

  spaced_short : (s : List ℕ) (n : ℕ) → front f at s ≡ misfit n → spaced f at s ≡ misfit n
  spaced_short s n e = ap (λ r. then r (λ n. behind (take n s) (at + n) (drop n s))) e

  last_at : (s : List ℕ) → front f at s ≡ Ok (length s) → last f at s ≡ Ok s
  last_at s e =
      ap (λ r. then r (λ n. cond (eqb n (length s)) (Ok s) (misfit (at + n)))) e ∙ cond-true (eqb (length s) (length s)) _ (misfit (at + length s)) (eq-eqb (length s) (length s) refl)

  last_not : (s : List ℕ) (n : ℕ) → front f at s ≡ Ok n → (n ≡ length s → ⊥) → last f at s ≡ misfit (at + n)
  last_not s n e h =
      ap (λ r. then r (λ n. cond (eqb n (length s)) (Ok s) (misfit (at + n)))) e ∙ cond-false _ _ _ (ne_eqb _ _ h)

  last_short : (s : List ℕ) (n : ℕ) → front f at s ≡ misfit n → last f at s ≡ misfit n
  last_short s n e = ap (λ r. then r (λ n. cond (eqb n (length s)) (Ok s) (misfit (at + n)))) e

  cut_goes : (g : Field) (gs : List Field) (s a t : List ℕ) (n : ℕ) → spaced f at s ≡ Ok (a, n, t) → cut f (g ∷ gs) at s ≡ then (cut g gs n t) (λ xs. Ok (a ∷ xs))
  cut_goes g gs s a t n e = ap (λ r. then r (λ x. then (cut g gs x.1 x.2) (λ xs. Ok (x.0 ∷ xs)))) e

  cut_stops : (g : Field) (gs : List Field) (s : List ℕ) (n : ℕ) → spaced f at s ≡ misfit n → cut f (g ∷ gs) at s ≡ misfit n
  cut_stops g gs s n e = ap (λ r. then r (λ x. then (cut g gs x.1 x.2) (λ xs. Ok (x.0 ∷ xs)))) e

-- ---- what is read as a field is written in its shape

abbrev first : Result (List ℕ × ℕ × List ℕ) Fault → List ℕ → List ℕ
first (Ok x) d = x.0
first (Err e) d = d

behind_first : (x : List ℕ) (at : ℕ) (t : List ℕ) → first (behind x at t) x ≡ x
behind_first x at [] = refl
behind_first x at (b ∷ t) = go (eqb b 32)
  where
    go : (d : Bool) → first (cond d (Ok (x, at + 1, t)) (misfit at)) x ≡ x
    go true = refl
    go false = refl

front_shape : (f : Field) (at : ℕ) (s : List ℕ) (n : ℕ) → front f at s ≡ Ok n → Written f (take n s)
front_shape f at s n e = let (a, b, F) = found f at s in go a b F F.cases
  where
    go : (a b : List ℕ) → Found f at s a b → (Written f a × (front f at s ≡ Ok (length a))) ⊎ (Short f a × (front f at s ≡ misfit (at + length a))) → Written f (take n s)
    go a b F (inl w) =
        let same : length a ≡ n = let is : Ok (length a) ≡ Ok n = sym w.1 ∙ e in cc in
        subst (Written f) (sym (ap (take n) F.whole ∙ take_at a b n same)) w.0
    go a b F (inr w) = cc

pub spaced_written : (f : Field) (at : ℕ) (s x : List ℕ) (n : ℕ) (t : List ℕ) → spaced f at s ≡ Ok (x, n, t) → Written f x
spaced_written f at s x n t e = go (front f at s) refl e
  where
    go : (r : Result ℕ Fault) → front f at s ≡ r → then r (λ n. behind (take n s) (at + n) (drop n s)) ≡ Ok (x, n, t) → Written f x
    go (Ok m) is e = subst (Written f) (sym (behind_first (take m s) (at + m) (drop m s)) ∙ ap (λ r. first r (take m s)) e) (front_shape f at s m is)
    go (Err g) is e = cc

pub last_written : (f : Field) (at : ℕ) (s x : List ℕ) → last f at s ≡ Ok x → Written f x
last_written f at s x e = go (front f at s) refl e
  where
    all : (m : ℕ) (d : Bool) → eqb m (length s) ≡ d → Written f (take m s) → cond d (Ok s) (misfit (at + m)) ≡ Ok x → Written f x
    all m true d w e = subst (Written f) (take_all m s (omega (arith, eqb-true m (length s) d)) ∙ cc) w
    all m false d w e = cc

    go : (r : Result ℕ Fault) → front f at s ≡ r → then r (λ n. cond (eqb n (length s)) (Ok s) (misfit (at + n))) ≡ Ok x → Written f x
    go (Ok m) is e = all m (eqb m (length s)) refl (front_shape f at s m is) e
    go (Err g) is e = cc

-- ---- a text that has the fields is cut into them

pub cut_fields : (f : Field) (gs : List Field) (at : ℕ) (s : List ℕ) (xs : List (List ℕ)) → Fields f gs s xs → cut f gs at s ≡ Ok xs
cut_fields f [] at s xs w =
    let e : front f at s ≡ Ok (length s) = ap (front f at) (sym (append-nil s)) ∙ front_written f at s [] w.0 tt in
    ap (λ r. then r (λ x. Ok (x ∷ []))) (last_at f at s e) ∙ ap Ok (sym w.1)
cut_fields f (g ∷ gs) at s xs w =
    let (a, b, ys, whole, first, others, is) = w in
    let e = spaced_at f at a b (front_written f at a (32 ∷ b) first (not_space f)) in
    cut_goes f at g gs s a b _ (ap (spaced f at) whole ∙ e) ∙ ap (λ r. then r (λ xs. Ok (a ∷ xs))) (cut_fields g gs (at + length a + 1) b ys others) ∙ ap Ok (sym is)

-- ---- what begins the fields can be completed

fits_zero : (f : Field) → fits f 48 ≡ true
fits_zero Number = refl
fits_zero Code = refl
fits_zero Batch = refl
fits_zero Expiry = refl

least_most : (f : Field) → least f ≤ most f
least_most Number = omega arith
least_most Code = omega arith
least_most Batch = omega arith
least_most Expiry = omega arith

zeros : ℕ → List ℕ
zeros n = replicate n 48

fit_zeros : (f : Field) (n : ℕ) → Fit f (zeros n)
unfolding zeros
fit_zeros f zero = tt
fit_zeros f (suc n) = (fits_zero f, fit_zeros f n)

written_zeros : (f : Field) (a : List ℕ) → Fit f a → length a ≤ least f → Written f (a ++ zeros (least f - length a))
unfolding zeros
written_zeros f a fit h =
    let long : length (a ++ replicate (least f - length a) 48) ≡ least f = simp (length-append, length-replicate) (omega arith) in
    inl (All-append (λ b. fits f b ≡ true) a _ fit (fit_zeros f (least f - length a)), omega arith, omega (arith, least_most f))

-- p begins the fields
abbrev Begins : Field → List Field → List ℕ → Type 0
Begins f gs p = (rest : List ℕ) × (xs : List (List ℕ)) × Fields f gs (p ++ rest) xs

pub begins_written : (f : Field) (gs : List Field) (a : List ℕ) → Written f a → Begins f gs a
begins_written f [] a w = ([], (a ++ []) ∷ [], (subst (Written f) (sym (append-nil a)) w, refl))
begins_written f (g ∷ gs) a w =
    let (rest, xs, others) = begins_written g gs _ (written_zeros g [] tt (omega arith)) in
    (32 ∷ _, a ∷ xs, (a, _, xs, refl, w, others, refl))

pub begins_short : (f : Field) (gs : List Field) (a : List ℕ) → Short f a → Begins f gs a
begins_short f gs a short =
    let (rest, xs, h) = begins_written f gs _ (written_zeros f a short.0 (omega (arith, short.1))) in
    (_, xs, subst (λ s. Fields f gs s xs) (append_assoc a (zeros (least f - length a)) rest) h)

-- ---- a text that has not the fields fails

-- s is a, which begins the fields, and then b, of which the first byte, if any, cannot stand there
pub record Fails (f : Field) (gs : List Field) (at : ℕ) (s a b : List ℕ) : Type 0 where
  pub whole : s ≡ a ++ b
  pub stops : cut f gs at s ≡ misfit (at + length a)
  pub begins : Begins f gs a
  pub local : (y : ℕ) (t r : List ℕ) → b ≡ y ∷ t → cut f gs at (a ++ y ∷ r) ≡ misfit (at + length a)

abbrev pub Tells : Field → List Field → ℕ → List ℕ → Type 0
Tells f gs at s =
    ((xs : List (List ℕ)) × Fields f gs s xs × (cut f gs at s ≡ Ok xs)) ⊎ ((a : List ℕ) × (b : List ℕ) × Fails f gs at s a b)

-- the two ways in which a field may stand at the front of s
abbrev Front : Field → ℕ → List ℕ → List ℕ → Type 0
Front f at s a = (Written f a × (front f at s ≡ Ok (length a))) ⊎ (Short f a × (front f at s ≡ misfit (at + length a)))

longer : (a : List ℕ) (y : ℕ) (t : List ℕ) → length a ≡ length (a ++ y ∷ t) → ⊥
longer a y t e = omega (arith, length-append a (y ∷ t))

tells_last : (f : Field) (at : ℕ) (s a b : List ℕ) → Found f at s a b → Front f at s a → Tells f [] at s
tells_last f at s a [] F (inl w) =
    let is : s ≡ a = F.whole ∙ append-nil a in
    let e = last_at f at s (w.1 ∙ ap (λ x. Ok (length x)) (sym is)) in
    inl (s ∷ [], (subst (Written f) (sym is) w.0, refl), ap (λ r. then r (λ x. Ok (x ∷ []))) e)
tells_last f at s a (y ∷ t) F (inl w) =
    inr (
      a,
      y ∷ t,
      record {
        whole = F.whole;
        stops = ap (λ r. then r (λ x. Ok (x ∷ []))) (last_not f at s (length a) w.1 (λ e. longer a y t (e ∙ ap length F.whole)));
        begins = begins_written f [] a w.0;
        local = λ z u r e. ap (λ r. then r (λ x. Ok (x ∷ []))) (last_not f at (a ++ z ∷ r) (length a) (F.local z u r e ∙ w.1) (longer a z r));
      },
    )
tells_last f at s a b F (inr w) =
    inr (
      a,
      b,
      record {
        whole = F.whole;
        stops = ap (λ r. then r (λ x. Ok (x ∷ []))) (last_short f at s _ w.1);
        begins = begins_short f [] a w.0;
        local = λ z u r e. ap (λ r. then r (λ x. Ok (x ∷ []))) (last_short f at (a ++ z ∷ r) _ (F.local z u r e ∙ w.1));
      },
    )

module _ (f g : Field) (gs : List Field) (at : ℕ) (s a : List ℕ) where
  -- s goes on behind the field a and its space
  goes : (t : List ℕ) → s ≡ a ++ 32 ∷ t → Written f a → ((r : List ℕ) → front f at (a ++ 32 ∷ r) ≡ Ok (length a)) → Tells g gs (at + length a + 1) t → Tells f (g ∷ gs) at s
  goes t whole w ends (inl (xs, h, e)) =
      inl (a ∷ xs, (a, t, xs, whole, w, h, refl), cut_goes f at g gs s a t _ (ap (spaced f at) whole ∙ spaced_at f at a t (ends t)) ∙ ap (λ r. then r (λ xs. Ok (a ∷ xs))) e)
  goes t whole w ends (inr (a', b, F)) =
      let place : at + length a + 1 + length a' ≡ at + length (a ++ 32 ∷ a') = simp length-append (omega arith) in
      let stop : (r : List ℕ) → cut g gs (at + length a + 1) r ≡ misfit (at + length a + 1 + length a') → cut f (g ∷ gs) at (a ++ 32 ∷ r) ≡ misfit (at + length (a ++ 32 ∷ a')) = λ r e. cut_goes f at g gs (a ++ 32 ∷ r) a r _ (spaced_at f at a r (ends r)) ∙ ap (λ r. then r (λ xs. Ok (a ∷ xs))) e ∙ ap (λ n. misfit n) place in
      let (rest, xs, h) = F.begins in
      inr (
        a ++ 32 ∷ a',
        b,
        record {
          whole = whole ∙ ap (λ u. a ++ 32 ∷ u) F.whole ∙ sym (append_assoc a (32 ∷ a') b);
          stops = ap (cut f (g ∷ gs) at) whole ∙ stop t F.stops;
          begins = (rest, a ∷ xs, (a, a' ++ rest, xs, append_assoc a (32 ∷ a') rest, w, h, refl));
          local = λ y u r e. ap (cut f (g ∷ gs) at) (append_assoc a (32 ∷ a') (y ∷ r)) ∙ stop (a' ++ y ∷ r) (F.local y u r e);
        },
      )

  -- s stops behind the field a
  ends : (b : List ℕ) → s ≡ a ++ b → Written f a → front f at s ≡ Ok (length a) → (0 < length b → get_or b 0 0 ≡ 32 → ⊥) → ((y : ℕ) (t r : List ℕ) → b ≡ y ∷ t → front f at (a ++ y ∷ r) ≡ front f at s) → Tells f (g ∷ gs) at s
  ends b whole w e h local =
      inr (
        a,
        b,
        record {
          whole = whole;
          stops = ap (cut f (g ∷ gs) at) whole ∙ cut_stops f at g gs (a ++ b) _ (spaced_not f at a b (ap (front f at) (sym whole) ∙ e) h);
          begins = begins_written f (g ∷ gs) a w;
          local = λ y t r is. cut_stops f at g gs (a ++ y ∷ r) _ (spaced_not f at a (y ∷ r) (local y t r is ∙ e) (λ _ k. h (subst (λ u. 0 < length u) (sym is) (omega arith)) (ap (λ u. get_or u 0 0) is ∙ k)));
        },
      )

  tells_more : (b : List ℕ) → Found f at s a b → Front f at s a → ((n : ℕ) (t : List ℕ) → Tells g gs n t) → Tells f (g ∷ gs) at s
  tells_more [] F (inl w) next = ends [] F.whole w.0 w.1 (λ k _. absurd (omega arith)) F.local
  tells_more (y ∷ t) F (inl w) next = go (eqb y 32) refl
    where
      go : (d : Bool) → eqb y 32 ≡ d → Tells f (g ∷ gs) at s
      go true d =
          let is = eqb-true y 32 d in
          goes t (F.whole ∙ ap (λ z. a ++ z ∷ t) is) w.0 (λ r. ap (λ z. front f at (a ++ z ∷ r)) (sym is) ∙ F.local y t r refl ∙ w.1) (next _ t)
      go false d = ends (y ∷ t) F.whole w.0 w.1 (λ _ e. eqb-false y 32 d e) F.local
  tells_more b F (inr w) next =
      inr (
        a,
        b,
        record {
          whole = F.whole;
          stops = cut_stops f at g gs s _ (spaced_short f at s _ w.1);
          begins = begins_short f (g ∷ gs) a w.0;
          local = λ y t r e. cut_stops f at g gs (a ++ y ∷ r) _ (spaced_short f at (a ++ y ∷ r) _ (F.local y t r e ∙ w.1));
        },
      )

pub tells : (f : Field) (gs : List Field) (at : ℕ) (s : List ℕ) → Tells f gs at s
tells f [] at s = let (a, b, F) = found f at s in tells_last f at s a b F F.cases
tells f (g ∷ gs) at s = let (a, b, F) = found f at s in tells_more f g gs at s a b F F.cases (tells g gs)
