-- The front of a text and the shape of a field: where a field ends, and that this rests on no byte past the next.
use Rattle.std.proofs.Common.{◌≡◌, ℕ, zero, suc, ◌+◌, ◌<◌, ◌≤◌, Bool, true, false, cond, ◌&&◌, eqb, leb, ◌⊎◌, List, [], ◌∷◌, ◌++◌, length, Ok, sym, refl, ap, ◌∙◌, inl, inr, arith}
use Rattle.std.specs.List.{AllByRecursion}
use Rattle.std.proofs.lemmas.Bool.{cond-true, cond-false, and_parts, and_from, eqb-true, leb-true, leb-false, le-leb, true≢false}
use Rattle.lines.specs.declared.Field.{Field}
use Rattle.lines.specs.declared.Field.TheVariants.{Number, Code, Batch, Expiry}
use Rattle.lines.specs.Grammar.{fits, least, most, optional, Written}
use Rattle.lines.specs.Meaning.{run, dash, misfit, front}

-- every byte fits the field
abbrev pub Fit : Field → List ℕ → Type 0
Fit f xs = AllByRecursion (λ b. fits f b ≡ true) xs

-- ---- runs

-- the bytes that a run counts, and those behind it
run_split : (f : Field) (n : ℕ) (s : List ℕ) → (a : List ℕ) × (b : List ℕ) × (s ≡ a ++ b) × (run f n s ≡ length a) × (length a ≤ n) × Fit f a
run_split f zero s = ([], s, refl, refl, omega arith, tt)
run_split f (suc n) [] = ([], [], refl, refl, omega arith, tt)
run_split f (suc n) (x ∷ s) = go (run_split f n s) (fits f x) refl
  where
    go : (a : List ℕ) × (b : List ℕ) × (s ≡ a ++ b) × (run f n s ≡ length a) × (length a ≤ n) × Fit f a → (t : Bool) → fits f x ≡ t → (a : List ℕ) × (b : List ℕ) × (x ∷ s ≡ a ++ b) × (run f (suc n) (x ∷ s) ≡ length a) × (length a ≤ suc n) × Fit f a
    go r true e = (x ∷ r.0, r.1, ap (λ t. x ∷ t) r.2, cond-true _ _ _ e ∙ ap suc r.3, omega arith, (e, r.5))
    go r false e = ([], x ∷ s, refl, cond-false _ _ _ e, omega arith, tt)

-- the field ends at the front of t
abbrev pub Stops : Field → List ℕ → Type 0
Stops f [] = Unit {0}
Stops f (y ∷ t) = fits f y ≡ false

-- bytes that fit, and then none, are a run
run_fit : (f : Field) (n : ℕ) (x t : List ℕ) → Fit f x → length x ≤ n → Stops f t → run f n (x ++ t) ≡ length x
run_fit f zero [] t w h k = refl
run_fit f zero (b ∷ x) t w h k = absurd (omega arith)
run_fit f (suc n) [] [] w h k = refl
run_fit f (suc n) [] (y ∷ t) w h k = cond-false _ _ _ k
run_fit f (suc n) (b ∷ x) t w h k = cond-true _ _ _ w.0 ∙ ap suc (run_fit f n x t w.1 (omega arith) k)

-- a run rests on the byte behind it and on none after that
run_local : (f : Field) (n : ℕ) (a : List ℕ) (y : ℕ) (b r : List ℕ) → run f n (a ++ y ∷ b) ≡ length a → run f n (a ++ y ∷ r) ≡ length a
run_local f zero a y b r e = e
run_local f (suc n) [] y b r e = go (fits f y) e
  where
    go : (t : Bool) → cond t (suc (run f n b)) 0 ≡ 0 → cond t (suc (run f n r)) 0 ≡ 0
    go true e = absurd (omega arith)
    go false e = refl
run_local f (suc n) (x ∷ a) y b r e = go (fits f x) e (run_local f n a y b r)
  where
    go : (t : Bool) → cond t (suc (run f n (a ++ y ∷ b))) 0 ≡ suc (length a) → (run f n (a ++ y ∷ b) ≡ length a → run f n (a ++ y ∷ r) ≡ length a) → cond t (suc (run f n (a ++ y ∷ r))) 0 ≡ suc (length a)
    go true e ih = ap suc (ih (omega arith))
    go false e ih = absurd (omega arith)

-- ---- fields

not_dash : (f : Field) → fits f 45 ≡ false
not_dash Number = refl
not_dash Code = refl
not_dash Batch = refl
not_dash Expiry = refl

pub not_space : (f : Field) → fits f 32 ≡ false
not_space Number = refl
not_space Code = refl
not_space Batch = refl
not_space Expiry = refl

least_pos : (f : Field) → 0 < least f
least_pos Number = omega arith
least_pos Code = omega arith
least_pos Batch = omega arith
least_pos Expiry = omega arith

-- bytes that fit do not begin with -
fit_no_dash : (f : Field) (x t : List ℕ) → Fit f x → 0 < length x → dash f (x ++ t) ≡ false
fit_no_dash f [] t w h = absurd (omega arith)
fit_no_dash f (b ∷ x) t w h = go (optional f && eqb b 45) refl
  where
    go : (d : Bool) → (optional f && eqb b 45) ≡ d → d ≡ false
    go true e = absurd (true≢false (sym w.0 ∙ ap (fits f) (eqb-true b 45 (and_parts _ _ e).1) ∙ not_dash f))
    go false e = refl

-- where there is no -, the run decides
front_run : (f : Field) (at : ℕ) (s : List ℕ) (n : ℕ) → dash f s ≡ false → run f (most f) s ≡ n → front f at s ≡ cond (leb (least f) n) (Ok n) (misfit (at + n))
front_run f at s n d e =
    cond-false _ _ _ d ∙ ap (λ k. cond (leb (least f) k) (Ok k) (misfit (at + k))) e

-- a field at the front, up to what cannot be part of it, is found
pub front_written : (f : Field) (at : ℕ) (x t : List ℕ) → Written f x → Stops f t → front f at (x ++ t) ≡ Ok (length x)
front_written f at x t (inl w) k =
    let some : 0 < length x = omega (arith, least_pos f, w.1) in
    front_run f at (x ++ t) (length x) (fit_no_dash f x t w.0 some) (run_fit f (most f) x t w.0 w.2 k) ∙ cond-true _ _ _ (le-leb _ _ w.1)
front_written f at x t (inr w) k =
    ap (λ y. front f at (y ++ t)) w.1 ∙ cond-true _ _ _ (and_from _ _ w.0 refl) ∙ sym (ap (λ y. Ok (length y)) w.1)

-- too few bytes that fit
abbrev pub Short : Field → List ℕ → Type 0
Short f a = Fit f a × (length a < least f)

-- what is found: s is a, which is a field or begins one, and then b
pub record Found (f : Field) (at : ℕ) (s a b : List ℕ) : Type 0 where
  pub whole : s ≡ a ++ b
  pub cases : (Written f a × (front f at s ≡ Ok (length a))) ⊎ (Short f a × (front f at s ≡ misfit (at + length a)))
  pub local : (y : ℕ) (t r : List ℕ) → b ≡ y ∷ t → front f at (a ++ y ∷ r) ≡ front f at s

dashed : (f : Field) (at : ℕ) (s : List ℕ) → dash f s ≡ true → (t : List ℕ) × Found f at s (45 ∷ []) t
dashed f at [] d = absurd (omega (arith, eqb-true 0 45 (and_parts _ _ d).1))
dashed f at (b ∷ s) d =
    let p = and_parts _ _ d in (
      s,
      record {
        whole = ap (λ x. x ∷ s) (eqb-true b 45 p.1);
        cases = inl (inr (p.0, refl), cond-true _ _ _ d);
        local = λ y t r e. cond-true _ _ _ (and_from _ _ p.0 refl) ∙ sym (cond-true _ _ _ d);
      },
    )

same_dash : (f : Field) (a : List ℕ) (y : ℕ) (t r : List ℕ) → dash f (a ++ y ∷ r) ≡ dash f (a ++ y ∷ t)
same_dash f [] y t r = refl
same_dash f (x ∷ a) y t r = refl

undashed : (f : Field) (at : ℕ) (s a b : List ℕ) → dash f s ≡ false → s ≡ a ++ b → run f (most f) s ≡ length a → length a ≤ most f → Fit f a → Found f at s a b
undashed f at s a b d whole n le fit = record {
  whole = whole;
  cases = go (leb (least f) (length a)) refl;
  local = λ y t r e.
      let is : s ≡ a ++ y ∷ t = whole ∙ ap (λ u. a ++ u) e in
      let behind : run f (most f) (a ++ y ∷ r) ≡ length a = run_local f (most f) a y t r (ap (run f (most f)) (sym is) ∙ n) in
      front_run f at (a ++ y ∷ r) (length a) (same_dash f a y t r ∙ ap (dash f) (sym is) ∙ d) behind ∙ sym (front_run f at s (length a) d n);
}
  where
    go : (e : Bool) → leb (least f) (length a) ≡ e → (Written f a × (front f at s ≡ Ok (length a))) ⊎ (Short f a × (front f at s ≡ misfit (at + length a)))
    go true e = inl (inl (fit, leb-true _ _ e, le), front_run f at s (length a) d n ∙ cond-true _ _ _ e)
    go false e = inr ((fit, leb-false _ _ e), front_run f at s (length a) d n ∙ cond-false _ _ _ e)

pub found : (f : Field) (at : ℕ) (s : List ℕ) → (a : List ℕ) × (b : List ℕ) × Found f at s a b
found f at s = go (dash f s) refl
  where
    go : (d : Bool) → dash f s ≡ d → (a : List ℕ) × (b : List ℕ) × Found f at s a b
    go true d = let p = dashed f at s d in (45 ∷ [], p.0, p.1)
    go false d =
        let (a, b, whole, n, le, fit) = run_split f (most f) s in
        (a, b, undashed f at s a b d whole n le fit)
