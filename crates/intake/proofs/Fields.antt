-- What a byte more, or a confirm, makes of a field that holds a line. Assumes nothing.
use Rattle.std.proofs.Common.{◌≡◌, ℕ, suc, ◌+◌, ◌<◌, ◌≤◌, Bool, true, false, cond, eqb, ltb, leb, List, [], ◌∷◌, ◌++◌, length, take, set, replicate, Some, None, Err, sym, refl, ap, ◌∙◌, subst, ⊎_elim, append_assoc, arith}
use lib.Seq.{take-set-lt, take-set-le}
use Rattle.std.proofs.lemmas.List.{length-append, length-take, length-take-le, take-append-le, take-take, take_at, set_at, set_past}
use Rattle.std.proofs.lemmas.Bool.{leb-true, leb-false, le-leb, lt-leb, cond-true, cond-false, cond_both, cases_lt, ltb-false, or_from}
use Rattle.fault.specs.Refusals.{line_too_long}
use Rattle.lines.specs.Meaning.{meaning}
use Rattle.intake.specs.Lines.{entry_of}
use Rattle.intake.specs.Field.{Holds, Scanned, state_of, zeros, confirm_of, scanned, scan_of}
use Rattle.intake.specs.declared.field.State.{State}
use Rattle.intake.specs.declared.field.State.TheVariants.{Empty, Filling, Overlong}

-- ---- a field has 100 bytes

pub holds_size : (line : List ℕ) (state : State) (bytes : List ℕ) → Holds line state bytes → length bytes ≡ 100
unfolding zeros
holds_size line state bytes h =
    let long : 100 ≤ length (line ++ zeros) = simp length-append (omega arith) in
    ap length h.bytes_are ∙ length-take-le 100 (line ++ zeros) long

-- ---- what a state says of the line

pub record Fits (line : List ℕ) (n : ℕ) : Type 0 where
  pub count : n ≡ length line
  pub short : length line ≤ 100
  pub answers : confirm_of line ≡ Some (entry_of line)

pub filling_fits : (line : List ℕ) (n : ℕ) → Filling n ≡ state_of line → Fits line n
filling_fits [] n e = cc
filling_fits (x ∷ xs) n e = by_length (leb (length (x ∷ xs)) 100) refl
  where
    by_length : (b : Bool) → leb (length (x ∷ xs)) 100 ≡ b → Fits (x ∷ xs) n
    by_length true t =
        let same : Filling n ≡ Filling (length (x ∷ xs)) = e ∙ cond-true (leb (length (x ∷ xs)) 100) (Filling (length (x ∷ xs))) Overlong t in
        record { count = cc; short = leb-true (length (x ∷ xs)) 100 t; answers = refl }
    by_length false t =
        let other : Filling n ≡ Overlong = e ∙ cond-false (leb (length (x ∷ xs)) 100) (Filling (length (x ∷ xs))) Overlong t in
        cc

pub record Exceeds (line : List ℕ) : Type 0 where
  pub long : 100 < length line
  pub answers : confirm_of line ≡ Some (entry_of line)

pub overlong_exceeds : (line : List ℕ) → Overlong ≡ state_of line → Exceeds line
overlong_exceeds [] e = cc
overlong_exceeds (x ∷ xs) e = by_length (leb (length (x ∷ xs)) 100) refl
  where
    by_length : (b : Bool) → leb (length (x ∷ xs)) 100 ≡ b → Exceeds (x ∷ xs)
    by_length true t =
        let other : Overlong ≡ Filling (length (x ∷ xs)) = e ∙ cond-true (leb (length (x ∷ xs)) 100) (Filling (length (x ∷ xs))) Overlong t in
        cc
    by_length false t = record { long = leb-false (length (x ∷ xs)) 100 t; answers = refl }

-- ---- a confirm

pub short_entry : (line : List ℕ) → length line ≤ 100 → entry_of line ≡ meaning line
unfolding entry_of
short_entry line short = cond-true (leb (length line) 100) (meaning line) (Err line_too_long) (le-leb (length line) 100 short)

pub long_entry : (line : List ℕ) → 100 < length line → entry_of line ≡ Err line_too_long
unfolding entry_of
long_entry line long = cond-false (leb (length line) 100) (meaning line) (Err line_too_long) (lt-leb (length line) 100 long)

-- the line is the first n bytes
pub shown : (line bytes : List ℕ) (n : ℕ) → n ≡ length line → n ≤ 100 → bytes ≡ take 100 (line ++ zeros) → take n bytes ≡ line
shown line bytes n count short e =
    ap (take n) e ∙ take-take n 100 (line ++ zeros) short ∙ take_at line zeros n (sym count)

-- ---- one byte more

pub state_more : (line : List ℕ) (b : ℕ) → state_of (line ++ b ∷ []) ≡ cond (ltb (length line) 100) (Filling (length line + 1)) Overlong
state_more [] b = refl
state_more (x ∷ xs) b =
    let more : length (xs ++ b ∷ []) ≡ suc (length xs) = length-append xs (b ∷ []) ∙ omega arith in
    ap (λ n. cond (leb (suc n) 100) (Filling (suc n)) Overlong) more
    ∙ ap (λ n. cond (leb (suc (suc (length xs))) 100) (Filling n) Overlong) (omega arith)

set_take : (m : ℕ) (xs : List ℕ) (i b : ℕ) → set (take m xs) i b ≡ take m (set xs i b)
set_take m xs i b =
    ⊎_elim (λ below. sym (take-set-lt m xs i b below)) (λ above. past above) (cases_lt i m)
  where
    past : m ≤ i → set (take m xs) i b ≡ take m (set xs i b)
    past above =
        let short : length (take m xs) ≤ i = simp length-take (omega arith) in
        set_past (take m xs) i b short ∙ sym (take-set-le m xs i b above)

pub bytes_more : (line : List ℕ) (b : ℕ) → set (take 100 (line ++ zeros)) (length line) b ≡ take 100 ((line ++ b ∷ []) ++ zeros)
unfolding zeros
bytes_more line b =
    let rest : List ℕ = replicate 99 0 in
    let long : 100 ≤ length (line ++ b ∷ rest) = simp length-append (omega arith) in
    set_take 100 (line ++ zeros) (length line) b
    ∙ ap (take 100) (set_at line 0 rest b (length line) refl)
    ∙ sym (take-append-le 100 (line ++ b ∷ rest) (0 ∷ []) long)
    ∙ ap (take 100) (append_assoc line (b ∷ rest) (0 ∷ []) ∙ sym (append_assoc line (b ∷ []) zeros))

pub bytes_past : (line : List ℕ) (b : ℕ) → 100 ≤ length line → take 100 (line ++ zeros) ≡ take 100 ((line ++ b ∷ []) ++ zeros)
bytes_past line b long =
    take-append-le 100 line zeros long
    ∙ sym (take-append-le 100 line ((b ∷ []) ++ zeros) long)
    ∙ ap (take 100) (sym (append_assoc line (b ∷ []) zeros))

-- a field that is full shows no byte more
kept_full : (n b : ℕ) (bytes : List ℕ) → length bytes ≡ 100 → cond (ltb n 100) (set bytes n b) bytes ≡ set bytes n b
kept_full n b bytes size =
    cond_both (ltb n 100) (set bytes n b) bytes (λ xs. xs ≡ set bytes n b) (λ _. refl)
    (λ full. sym (set_past bytes n b (omega (arith, ltb-false n 100 full))))

-- ---- the step of each state

added : (line : List ℕ) (b : ℕ) → eqb b 10 ≡ false → eqb b 24 ≡ false → scanned line b ≡ line ++ b ∷ []
added line b c k = cond-false _ _ _ (or_from (eqb b 10) (eqb b 24) c k)

unanswered : (line : List ℕ) (b : ℕ) → eqb b 10 ≡ false → None ≡ scan_of line b
unanswered line b c = sym (cond-false _ _ _ c)

pub filling_more : (line : List ℕ) (n b : ℕ) (state : State) (bytes : List ℕ) → eqb b 10 ≡ false → eqb b 24 ≡ false
    → Holds line (Filling n) bytes → state ≡ cond (ltb n 100) (Filling (n + 1)) Overlong → Scanned line b None state (cond (ltb n 100) (set bytes n b) bytes)
filling_more line n b state bytes not-confirm not-cancel h e =
    let f = filling_fits line n h.state_is in
    record {
      answers = unanswered line b not-confirm;
      holds = subst (λ l. Holds l state (cond (ltb n 100) (set bytes n b) bytes)) (sym (added line b not-confirm not-cancel)) (record {
        state_is = e ∙ ap (λ m. cond (ltb m 100) (Filling (m + 1)) Overlong) f.count ∙ sym (state_more line b);
        bytes_are =
            kept_full n b bytes (holds_size line (Filling n) bytes h)
            ∙ ap (λ m. set bytes m b) f.count ∙ ap (λ xs. set xs (length line) b) h.bytes_are ∙ bytes_more line b;
      });
    }

pub overlong_more : (line : List ℕ) (b : ℕ) (bytes : List ℕ) → eqb b 10 ≡ false → eqb b 24 ≡ false
    → Holds line Overlong bytes → Scanned line b None Overlong bytes
overlong_more line b bytes not-confirm not-cancel h =
    let x = overlong_exceeds line h.state_is in
    let long : 100 ≤ length line = omega (arith, x.long) in
    record {
      answers = unanswered line b not-confirm;
      holds = subst (λ l. Holds l Overlong bytes) (sym (added line b not-confirm not-cancel)) (record {
        state_is = sym (state_more line b ∙ cond-false _ _ _ (lt-leb (suc (length line)) 100 (omega (arith, x.long))));
        bytes_are = h.bytes_are ∙ bytes_past line b long;
      });
    }

never_empty : (b : Bool) (n : ℕ) → Empty ≡ cond b (Filling n) Overlong → ⊥
never_empty true n e = cc
never_empty false n e = cc

pub empty_confirmed : (line bytes : List ℕ) → Holds line Empty bytes → None ≡ confirm_of line
empty_confirmed [] bytes h = refl
empty_confirmed (x ∷ xs) bytes h = absurd (never_empty (leb (length (x ∷ xs)) 100) (length (x ∷ xs)) h.state_is)

pub filling_confirmed : (line : List ℕ) (n : ℕ) (bytes : List ℕ) → Holds line (Filling n) bytes → Some (meaning (take n bytes)) ≡ confirm_of line
filling_confirmed line n bytes h =
    let f = filling_fits line n h.state_is in
    ap (λ l. Some (meaning l)) (shown line bytes n f.count (omega (arith, f.count, f.short)) h.bytes_are)
    ∙ ap Some (sym (short_entry line f.short)) ∙ sym f.answers

pub overlong_confirmed : (line bytes : List ℕ) → Holds line Overlong bytes → Some (Err line_too_long) ≡ confirm_of line
overlong_confirmed line bytes h =
    let x = overlong_exceeds line h.state_is in
    ap Some (sym (long_entry line x.long)) ∙ sym x.answers
