-- The committed calls of a session are a history of its reservoir.
-- Assumes nothing.
use Rattle.std.proofs.Common.{◌≡◌, ℕ, ◌<◌, Bool, true, false, cond, not, eqb, ltb, List, [], ◌∷◌, ◌++◌, map, Some, None, Option, refl, subst, arith}
use Rattle.std.proofs.lemmas.Bool.{ltb-false}
use Rattle.fault.specs.Refusals.{number_too_large, in_stock, not_in_stock, last_call}
use Rattle.device.specs.Disk.{Disk, Event}
use Rattle.words.specs.Draws.{draw_of}
use Rattle.words.specs.declared.draws.Drawn.{Drawn}
use Rattle.pairing.specs.Reservoir.{Reservoir, width, taken}
use Rattle.fairness.specs.Histories as history
use Rattle.session.specs.Calls.{Kind, Store, Take, Report, Open, Call, Own, Other, Reply}
use Rattle.session.specs.Refused.{Status, down, busy, ready, fault_if, when_ready, undrawn, refusal}
use Rattle.session.specs.Steps.{Outcome, refused, store_done, store_lost, take_done, take_lost, Steps, none, next, is_committed, stored_by, after}
use Rattle.session.specs.Law.{drawing_call, committed_call, committed_calls}
use Rattle.session.proofs.Moves.{Moves, ends, stores, takes}
use Rattle.session.proofs.PlannedRuns.{some_none}

-- ---- calls that are not refused

pub record Storing {X : Type 0} (s : Status) (r : Reservoir X) (number : ℕ) (words : ℕ → Option ℕ) : Type 0 where
  pub low : number < 32768
  pub free : s ≡ ready
  pub can : eqb r.calls 4294967295 ≡ false
  pub out : r.stock number ≡ false
  pub drawn : Drawn
  pub is : draw_of words (width r) r.words ≡ Some drawn

pub record Taking {X : Type 0} (s : Status) (r : Reservoir X) (number : ℕ) : Type 0 where
  pub low : number < 32768
  pub free : s ≡ ready
  pub can : eqb r.calls 4294967295 ≡ false
  pub inside : r.stock number ≡ true

module _ {X : Type 0} (s : Status) (r : Reservoir X) (number : ℕ) where
  pub storing : (item : X) (words : ℕ → Option ℕ) → refusal s r 0 (Store number item words) ≡ None → Storing s r number words
  storing item words = by (ltb 32767 number) s (eqb r.calls 4294967295) (r.stock number) (draw_of words (width r) r.words) refl refl refl refl refl where
    by :
        (a : Bool) (z : Status) (b c : Bool) (o : Option Drawn) → ltb 32767 number ≡ a → s ≡ z → eqb r.calls 4294967295 ≡ b →
        r.stock number ≡ c → draw_of words (width r) r.words ≡ o →
        fault_if a number_too_large (when_ready z (fault_if b last_call (fault_if c in_stock (undrawn o)))) ≡ None → Storing s r number words
    by true z b c o e₁ e₂ e₃ e₄ e₅ e = absurd (some_none e)
    by false down b c o e₁ e₂ e₃ e₄ e₅ e = absurd (some_none e)
    by false busy b c o e₁ e₂ e₃ e₄ e₅ e = absurd (some_none e)
    by false ready true c o e₁ e₂ e₃ e₄ e₅ e = absurd (some_none e)
    by false ready false true o e₁ e₂ e₃ e₄ e₅ e = absurd (some_none e)
    by false ready false false None e₁ e₂ e₃ e₄ e₅ e = absurd (some_none e)
    by false ready false false (Some x) e₁ e₂ e₃ e₄ e₅ e = record {
      low = omega (arith, ltb-false 32767 number e₁);
      free = e₂;
      can = e₃;
      out = e₄;
      drawn = x;
      is = e₅;
    }

  pub taking : refusal s r 0 (Take number) ≡ None → Taking s r number
  taking = by (ltb 32767 number) s (eqb r.calls 4294967295) (r.stock number) refl refl refl refl where
    by :
        (a : Bool) (z : Status) (b c : Bool) → ltb 32767 number ≡ a → s ≡ z → eqb r.calls 4294967295 ≡ b → r.stock number ≡ c →
        fault_if a number_too_large (when_ready z (fault_if b last_call (fault_if (not c) not_in_stock None))) ≡ None → Taking s r number
    by true z b c e₁ e₂ e₃ e₄ e = absurd (some_none e)
    by false down b c e₁ e₂ e₃ e₄ e = absurd (some_none e)
    by false busy b c e₁ e₂ e₃ e₄ e = absurd (some_none e)
    by false ready true c e₁ e₂ e₃ e₄ e = absurd (some_none e)
    by false ready false false e₁ e₂ e₃ e₄ e = absurd (some_none e)
    by false ready false true e₁ e₂ e₃ e₄ e = record { low = omega (arith, ltb-false 32767 number e₁); free = e₂; can = e₃; inside = e₄ }

-- ---- histories

module _ {X : Type 0} {words : ℕ → Option ℕ} {r r' : Reservoir X} {h : List (history.Call X)} where
  moves_store :
      {s : Status} {number : ℕ} (item : X) → Storing s r number words → (b : Bool) →
      Moves words (cond b (stored_by r number item (draw_of words (width r) r.words)) r) h r' →
      Moves words r (cond b (history.Store number item ∷ []) [] ++ h) r'
  moves_store item f false rest = rest
  moves_store {number = number} item f true rest =
      stores f.low f.out f.is (subst (λ o. Moves words (stored_by r number item o) h r') f.is rest)

  moves_take :
      {s : Status} {number : ℕ} → Taking s r number → (b : Bool) → Moves words (cond b (taken r number) r) h r' →
      Moves words r (cond b (history.Take number ∷ []) [] ++ h) r'
  moves_take f false rest = rest
  moves_take f true rest = takes f.inside rest

  quiet : (b : Bool) → Moves words r h r' → Moves words r (cond b [] [] ++ h) r'
  quiet true rest = rest
  quiet false rest = rest

module _ {X Y : Type 0} (own : Kind X) (other : Kind Y) (words : ℕ → Option ℕ) where
  moves_call :
      {d d' : Disk} {page page' : List ℕ} {r r' : Reservoir X} {a : Reply} {es : List Event} {h : List (history.Call X)} (c : Call X Y) →
      Outcome own d page r (drawing_call words c) a es d' page' → Moves words (after (drawing_call words c) es r) h r' →
      Moves words r (cond (is_committed es) (committed_call c) [] ++ h) r'
  moves_call (Own (Store number item w)) (refused e) rest = rest
  moves_call {r = r} {es = es} (Own (Store number item w)) (store_done e is asked) rest = moves_store item (storing _ r number item words e) (is_committed es) rest
  moves_call {r = r} {es = es} (Own (Store number item w)) (store_lost e asked) rest = moves_store item (storing _ r number item words e) (is_committed es) rest
  moves_call (Own (Take number)) (refused e) rest = rest
  moves_call {r = r} {es = es} (Own (Take number)) (take_done e asked) rest = moves_take (taking _ r number e) (is_committed es) rest
  moves_call {r = r} {es = es} (Own (Take number)) (take_lost e asked) rest = moves_take (taking _ r number e) (is_committed es) rest
  moves_call {es = es} (Own Report) o rest = quiet (is_committed es) rest
  moves_call {es = es} (Own Open) o rest = quiet (is_committed es) rest
  moves_call {es = es} (Other q) o rest = quiet (is_committed es) rest

  pub moves :
      (cs : List (Call X Y)) {d d' : Disk} {page page' : List ℕ} {r r' : Reservoir X} {replies : List Reply} {ess : List (List Event)} →
      Steps own other d page r (map (drawing_call words) cs) replies ess d' page' r' → Moves words r (committed_calls cs ess) r'
  moves [] none = ends
  moves (c ∷ cs) {r' = r'} (next {ess = ess} step rest) =
      moves_call c step.outcome (subst (λ s. Moves words s (committed_calls cs ess) r') step.follows (moves cs rest))
