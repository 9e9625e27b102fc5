-- Two sessions by one failure plan, with tapes of the same length, have the same events.
-- Assumes nothing.
use Rattle.std.proofs.Common.{◌≡◌, ℕ, zero, suc, ◌+◌, ◌-◌, ◌<◌, Bool, true, false, cond, not, eqb, ltb, List, [], ◌∷◌, map, Some, None, Option, sym, refl, ap, ◌∙◌, subst, arith}
use Rattle.std.proofs.lemmas.Bool.{both_ways, ltb-false}
use Rattle.fault.specs.Refusals.{number_too_large, in_stock, not_in_stock, last_call}
use Rattle.fault.specs.declared.Fault.{Fault}
use Rattle.device.specs.Disk.{Disk, Event, entry_at}
use Rattle.words.specs.Draws.{draw_of}
use Rattle.words.specs.declared.draws.Drawn.{Drawn}
use Rattle.pairing.specs.Reservoir.{Reservoir, width, width_of, with, without}
use Rattle.pairing.specs.Reservoir as pairing
use Rattle.journal.specs.Header.{header_of}
use Rattle.plans.specs.Recovery.{Stands, resting, torn, pending}
use Rattle.session.specs.Calls.{Kind, Store, Take, Report, Open, Call, Own, Other, Reply, DidCall}
use Rattle.session.specs.Failures.{Plan, ByPlan}
use Rattle.session.specs.Law.{drawing_call, joined_events}
use Rattle.session.specs.Refused.{Status, down, busy, ready, header_status, status_of, fault_if, when_ready, undrawn, refusal}
use Rattle.session.specs.Runs.{Keeps, KindLaws}
use Rattle.session.specs.Steps.{Outcome, refused, store_done, store_lost, take_done, take_lost, Step, Steps, none, next, is_committed, stored_by, after, owed}
use Rattle.session.proofs.CallHeaders.{owed_after, call_owed}
use Rattle.session.proofs.Committed.{Storing, storing, Taking, taking}
use Rattle.session.proofs.HeaderLeft.{online_after, call_online, owed_at}
use Rattle.session.proofs.Moves.{Kept, kept_taken, draw_at_lem, store_kept, store_words, taken_words}
use Rattle.session.proofs.PlannedRuns.{writes_after, tries_after, plan_front, plan_behind}
use Rattle.session.proofs.Tapes.{Tape, Draws, sure, word, missing}
use Rattle.session.proofs.Tries.{unless_refused, query, Tries, tries, tries_alike}

-- ---- disks

pub record Disks (d e : Disk) : Type 0 where
  pub online : d.online ≡ e.online
  pub owes : owed_at d ≡ owed_at e

abbrev status_by : ℕ → Status
status_by zero = ready
status_by (suc n) = busy

-- where a register stands, the writes that its header owes tell the status
stands_status :
    {X : Type 0} {code : ℕ} {form : X → List ℕ} {reading : List ℕ → Option X} {d : Disk} {r : Reservoir X} → Stands code form reading d r →
    header_status (header_of (entry_at d 1)) ≡ status_by (owed_at d)
stands_status (resting s) = ap header_status s.free ∙ sym (ap (λ h. status_by (owed h)) s.free)
stands_status (torn u h) = ap header_status u ∙ sym (ap (λ h. status_by (owed h)) u)
stands_status (pending p u i h a) = ap header_status u ∙ sym (ap (λ h. status_by (owed h)) u)

status_alike :
    {X : Type 0} {own : Kind X} {d e : Disk} {r s : Reservoir X} → Keeps own d r → Keeps own e s → Disks d e → status_of d ≡ status_of e
status_alike {d = d} {e = e} k l a =
    ap (λ h. cond d.online h down) (stands_status k.stands ∙ ap status_by a.owes ∙ sym (stands_status l.stands))
    ∙ ap (λ o. cond o (header_status (header_of (entry_at e 1))) down) a.online

-- ---- reservoirs

-- alike but for the sample
pub record Pair {X : Type 0} (m : ℕ) (r s : Reservoir X) : Type 0 where
  pub size : ℕ
  pub due : ℕ
  pub stock : ℕ → Bool
  pub first : Kept m size due stock r
  pub second : Kept m size due stock s
  pub calls : r.calls ≡ s.calls
  pub words : r.words ≡ s.words

module _ {n w k : ℕ} {words words' : ℕ → Option ℕ} where
  -- both draws come, or both do not
  undrawn_alike : {o o' : Option Drawn} → Draws n w k words o → Draws n w k words' o' → undrawn o ≡ undrawn o'
  undrawn_alike (sure e) (sure f) = refl
  undrawn_alike (sure e) (word v l h is) = refl
  undrawn_alike (sure e) (missing l h) = absurd (omega arith)
  undrawn_alike (word v l h is) (sure e) = refl
  undrawn_alike (word v l h is) (word u i j at) = refl
  undrawn_alike (word v l h is) (missing i j) = absurd (omega arith)
  undrawn_alike (missing l h) (sure e) = absurd (omega arith)
  undrawn_alike (missing l h) (word u i j at) = absurd (omega arith)
  undrawn_alike (missing l h) (missing i j) = refl

  used_alike : {x y : Drawn} → Draws n w k words (Some x) → Draws n w k words' (Some y) → x.used ≡ y.used
  used_alike (sure e) (sure f) = refl
  used_alike (sure e) (word v l h is) = absurd (omega arith)
  used_alike (word v l h is) (sure e) = absurd (omega arith)
  used_alike (word v l h is) (word u i j at) = refl

-- the refusals of a Store, the last of which hangs on the tape
abbrev gate : Bool → Status → Bool → Bool → Option Fault → Option Fault
gate large z last inside o = fault_if large number_too_large (when_ready z (fault_if last last_call (fault_if inside in_stock o)))

gated :
    (a : Bool) (z : Status) (b c : Bool) (x y : Option Fault) → (a ≡ false → c ≡ false → x ≡ y) → gate a z b c x ≡ gate a z b c y
gated true z b c x y e = refl
gated false z b true x y e = refl
gated false z b false x y e = ap (gate false z b false) (e refl refl)

store_calls : {X : Type 0} (r : Reservoir X) (p : ℕ) (item : X) (x used : ℕ) → (pairing.store r p item x used).calls ≡ r.calls + 1
unfolding pairing.store
store_calls r p item x used = refl

taken_calls : {X : Type 0} (r : Reservoir X) (p : ℕ) → (pairing.taken r p).calls ≡ r.calls + 1
unfolding pairing.taken
taken_calls r p = refl

module _ {X : Type 0} {t m : ℕ} {words words' : ℕ → Option ℕ} (tape : Tape t words) (tape' : Tape t words') {r s : Reservoir X} (pair : Pair m r s) where
  stocks : r.stock ≡ s.stock
  stocks = pair.first.keeps.stock ∙ sym pair.second.keeps.stock

  second_out : {number : ℕ} {b : Bool} → r.stock number ≡ b → s.stock number ≡ b
  second_out {number} e = sym (ap (λ (f : ℕ → Bool). f number) stocks) ∙ e

  second_draws :
      {number : ℕ} → number < 32768 → s.stock number ≡ false → {o : Option Drawn} → draw_of words' (width s) s.words ≡ o →
      Draws t (width_of m pair.size pair.due 0) r.words words' o
  second_draws low out {o} is =
      subst (λ k. Draws t (width_of m pair.size pair.due 0) k words' o) (sym pair.words) (draw_at_lem tape' pair.second low out is)

  store_refusal : (z : Status) (number : ℕ) (item : X) → refusal z r 0 (Store number item words) ≡ refusal z s 0 (Store number item words')
  store_refusal z number item =
      gated (ltb 32767 number) z (eqb r.calls 4294967295) (r.stock number) (undrawn (draw_of words (width r) r.words))
      (undrawn (draw_of words' (width s) s.words))
      (λ a c.
      let low : number < 32768 = omega (arith, ltb-false 32767 number a) in
      undrawn_alike (draw_at_lem tape pair.first low c refl) (second_draws low (second_out c) refl))
      ∙ (λ i. gate (ltb 32767 number) z (eqb (pair.calls i) 4294967295) (stocks i number) (undrawn (draw_of words' (width s) s.words)))

  take_refusal : (z : Status) (number : ℕ) → refusal z r 0 (Take number) ≡ refusal z s 0 (Take number)
  take_refusal z number = λ i.
      fault_if (ltb 32767 number) number_too_large
      (when_ready z (fault_if (eqb (pair.calls i) 4294967295) last_call (fault_if (not (stocks i number)) not_in_stock None)))

  -- both sessions try the same
  query_alike : {Y : Type 0} (z : Status) (n : ℕ) (c : Call X Y) → query z n r (drawing_call words c) ≡ query z n s (drawing_call words' c)
  query_alike z n (Own (Store number item w)) = ap unless_refused (store_refusal z number item)
  query_alike z n (Own (Take number)) = ap unless_refused (take_refusal z number)
  query_alike z n (Own Report) = refl
  query_alike z n (Own Open) = refl
  query_alike z n (Other (Store number item w)) = refl
  query_alike z n (Other (Take number)) = refl
  query_alike z n (Other Report) = refl
  query_alike z n (Other Open) = refl

  -- ---- the next reservoirs

  pair_store :
      {z z' : Status} (number : ℕ) (item : X) → Storing z r number words → Storing z' s number words' →
      Pair m (stored_by r number item (draw_of words (width r) r.words)) (stored_by s number item (draw_of words' (width s) s.words))
  pair_store number item f g =
      let x = f.drawn in
      let y = g.drawn in
      let used : x.used ≡ y.used = used_alike (draw_at_lem tape pair.first f.low f.out f.is) (second_draws g.low g.out g.is) in
      let after : Pair m (pairing.store r number item x.value x.used) (pairing.store s number item y.value y.used) = record {
        size = pair.size + 1;
        due = pair.due - 1;
        stock = with pair.stock number;
        first = store_kept tape pair.first f.low f.out f.is item;
        second = store_kept tape' pair.second g.low g.out g.is item;
        calls = store_calls r number item x.value x.used ∙ ap (λ q. q + 1) pair.calls ∙ sym (store_calls s number item y.value y.used);
        words =
            store_words r number item x.value x.used ∙ ap (λ k. k + x.used) pair.words ∙ ap (λ u. s.words + u) used
            ∙ sym (store_words s number item y.value y.used);
      } in
      subst (λ o. Pair m (stored_by r number item o) (stored_by s number item (draw_of words' (width s) s.words))) (sym f.is)
      (subst (λ o. Pair m (pairing.store r number item x.value x.used) (stored_by s number item o)) (sym g.is) after)

  pair_take : (number : ℕ) → r.stock number ≡ true → Pair m (pairing.taken r number) (pairing.taken s number)
  pair_take number inside = record {
    size = pair.size - 1;
    due = pair.due + 1;
    stock = without pair.stock number;
    first = kept_taken pair.first number inside;
    second = kept_taken pair.second number (second_out inside);
    calls = taken_calls r number ∙ ap (λ q. q + 1) pair.calls ∙ sym (taken_calls s number);
    words = taken_words r number ∙ pair.words ∙ sym (taken_words s number);
  }

-- ---- committed calls were not refused

module _ {X Y : Type 0} {own : Kind X} {number : ℕ} where
  committed_store :
      {item : X} {words : ℕ → Option ℕ} {d d' : Disk} {r : Reservoir X} {page page' : List ℕ} {a : Reply} {es : List Event} →
      Outcome {Y = Y} own d page r (Own (Store number item words)) a es d' page' →
      is_committed es ≡ true → Storing (status_of d) r number words
  committed_store (refused e) c = absurd (both_ways _ refl c)
  committed_store {item} {words} {d} {r = r} (store_done e is asked) c = storing (status_of d) r number item words e
  committed_store {item} {words} {d} {r = r} (store_lost e asked) c = storing (status_of d) r number item words e

  committed_take :
      {d d' : Disk} {r : Reservoir X} {page page' : List ℕ} {a : Reply} {es : List Event} →
      Outcome {Y = Y} own d page r (Own (Take number)) a es d' page' → is_committed es ≡ true →
      Taking (status_of d) r number
  committed_take (refused e) c = absurd (both_ways _ refl c)
  committed_take {d} {r = r} (take_done e asked) c = taking (status_of d) r number e
  committed_take {d} {r = r} (take_lost e asked) c = taking (status_of d) r number e

-- ---- sessions

module _ {X Y : Type 0} (own : Kind X) (other : Kind Y) {t : ℕ} (m : ℕ) {words words' : ℕ → Option ℕ} (tape : Tape t words) (tape' : Tape t words') where
  pair_after :
      (c : Call X Y) {d d' e e' : Disk} {page page' front front' : List ℕ} {r s : Reservoir X} {a b : Reply} {es : List Event} → Pair m r s →
      Outcome own d page r (drawing_call words c) a es d' page' → Outcome own e front s (drawing_call words' c) b es e' front' →
      Pair m (after (drawing_call words c) es r) (after (drawing_call words' c) es s)
  pair_after (Own (Store number item w)) {r = r} {s = s} {es = es} pair f g = by (is_committed es) (committed_store f) (committed_store g) where
    by :
        {z z' : Status} (b : Bool) → (b ≡ true → Storing z r number words) → (b ≡ true → Storing z' s number words') →
        Pair m (cond b (stored_by r number item (draw_of words (width r) r.words)) r) (cond b (stored_by s number item (draw_of words' (width s) s.words)) s)
    by true f g = pair_store tape tape' pair number item (f refl) (g refl)
    by false f g = pair
  pair_after (Own (Take number)) {r = r} {s = s} {es = es} pair f g = by (is_committed es) (committed_take f) where
    by : {z : Status} (b : Bool) → (b ≡ true → Taking z r number) → Pair m (cond b (pairing.taken r number) r) (cond b (pairing.taken s number) s)
    by true f = pair_take tape tape' pair number (f refl).inside
    by false f = pair
  pair_after (Own Report) pair f g = pair
  pair_after (Own Open) pair f g = pair
  pair_after (Other q) pair f g = pair

  module _ (laws : KindLaws own)
      (stands :
      (d d' : Disk) (page page' : List ℕ) (r : Reservoir X) (c : Call X Y) (a : Reply) (es : List Event) → Keeps own d r →
      DidCall own other d page c a es d' page' → Keeps own d' (after c es r)) where
    stands_after :
        {d d' : Disk} {page page' : List ℕ} {r r' : Reservoir X} {c : Call X Y} {a : Reply} {es : List Event} → Keeps own d r →
        Step own other d page r c a es d' page' r' → Keeps own d' r'
    stands_after {d} {d'} {page} {page'} {r} {c = c} {a = a} {es = es} k f =
        subst (Keeps own d') (sym f.follows) (stands d d' page page' r c a es k f.did)

    module _ (c : Call X Y) {d d' e e' : Disk} {page page' front front' : List ℕ} {r r' s s' : Reservoir X} {a b : Reply} where
      -- what one call does with the same events
      disks_after :
          {es : List Event} → Disks d e → Step own other d page r (drawing_call words c) a es d' page' r' →
          Step own other e front s (drawing_call words' c) b es e' front' s' → Disks d' e'
      disks_after {es} k f g = record {
        online = call_online f.did ∙ ap (online_after es) k.online ∙ sym (call_online g.did);
        owes =
            call_owed own other laws f.did f.outcome
            ∙ ap (owed_after (drawing_call words c) es) k.owes
            ∙ owed_like c es (owed_at e)
            ∙ sym (call_owed own other laws g.did g.outcome);
      } where
        owed_like : (c : Call X Y) (es : List Event) (n : ℕ) → owed_after (drawing_call words c) es n ≡ owed_after (drawing_call words' c) es n
        owed_like (Own (Store number item w)) es n = refl
        owed_like (Own (Take number)) es n = refl
        owed_like (Own Report) es n = refl
        owed_like (Own Open) es n = refl
        owed_like (Other q) es n = refl

      events_alike :
          {plan : Plan} {w o : ℕ} {es fs : List Event} → Keeps own d r → Keeps own e s → Pair m r s → Disks d e →
          Step own other d page r (drawing_call words c) a es d' page' r' → Step own other e front s (drawing_call words' c) b fs e' front' s' →
          ByPlan plan w o es → ByPlan plan w o fs → es ≡ fs
      events_alike {fs = fs} k l pair disks f g p q =
          tries_alike (tries own (drawing_call words c) f.outcome)
          (subst (λ t. Tries t fs)
          (sym (query_alike tape tape' pair (status_of d) (owed_at d) c
          ∙ ap (λ z. query z (owed_at d) s (drawing_call words' c)) (status_alike k l disks)
          ∙ ap (λ n. query (status_of e) n s (drawing_call words' c)) disks.owes))
          (tries own (drawing_call words' c) g.outcome)) p q

      pair_next :
          {es : List Event} → Pair m r s → Step own other d page r (drawing_call words c) a es d' page' r' →
          Step own other e front s (drawing_call words' c) b es e' front' s' → Pair m r' s'
      pair_next {es} pair f g =
          subst (λ x. Pair m x s') (sym f.follows)
          (subst (λ y. Pair m (after (drawing_call words c) es r) y) (sym g.follows) (pair_after c pair f.outcome g.outcome))

    pub same_events :
        (plan : Plan) (cs : List (Call X Y)) {d d' e e' : Disk} {page page' front front' : List ℕ} {r r' s s' : Reservoir X}
        {replies replies' : List Reply} {ess fss : List (List Event)} {w o : ℕ} → Keeps own d r → Keeps own e s → Pair m r s → Disks d e →
        Steps own other d page r (map (drawing_call words) cs) replies ess d' page' r' →
        Steps own other e front s (map (drawing_call words') cs) replies' fss e' front' s' →
        ByPlan plan w o (joined_events ess) → ByPlan plan w o (joined_events fss) → ess ≡ fss
    same_events plan [] k l pair disks none none p q = refl
    same_events plan (c ∷ cs) {e = e} {front = front} {s = s} {w = w} {o = o} k l pair disks
        (next {es = es} {ess = ess} f rest) (next {d₁ = e₁} {page₁ = front₁} {r₁ = s₁} {a = b} {es = fs} {ess = fss} g rest') p q =
        let same : es ≡ fs = events_alike c k l pair disks f g (plan_front es (joined_events ess) p) (plan_front fs (joined_events fss) q) in
        let g' : Step own other e front s (drawing_call words' c) b es e₁ front₁ s₁ =
        subst (λ x. Step own other e front s (drawing_call words' c) b x e₁ front₁ s₁) (sym same) g in
        let behind : ByPlan plan (writes_after w es) (tries_after o es) (joined_events fss) =
        subst (λ x. ByPlan plan (writes_after w x) (tries_after o x) (joined_events fss)) (sym same) (plan_behind fs q) in
        let more : ess ≡ fss = same_events plan cs (stands_after k f) (stands_after l g) (pair_next c pair f g') (disks_after c disks f g') rest rest'
        (plan_behind es p) behind in
        ap (λ x. es ∷ x) more ∙ ap (λ x. x ∷ fss) same
