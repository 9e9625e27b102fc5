-- A Store, a Take and a Report for the register's own kind.
-- Assumes nothing.
use Rattle.std.proofs.Common.{◌≡◌, ℕ, ◌<◌, ◌≤◌, Bool, true, false, cond, not, eqb, ltb, List, [], length, Some, None, Ok, Err, Option, Result, sym, refl, ap, ◌∙◌, subst, inl, inr, arith}
use Rattle.std.specs.Option.{ok_or}
use Rattle.std.specs.Result.{result_map_both}
use Rattle.std.proofs.lemmas.Bool.{ltb-false, eqb-false, cases_lt}
use Rattle.fault.specs.Refusals.{number_too_large, in_stock, not_in_stock, last_call, no_draw, too_short}
use Rattle.fault.specs.declared.Fault.{Fault}
use Rattle.device.specs.Disk.{Disk, Event}
use Rattle.words.specs.Draws.{draw_of}
use Rattle.words.specs.declared.draws.Drawn.{Drawn}
use Rattle.words.proofs.Results.{drawn_within}
use Rattle.pairing.specs.Reservoir.{Reservoir, width}
use Rattle.pairing.specs.Reservoir as pairing
use Rattle.pairing.specs.Steps.{counts_of}
use Rattle.pairing.specs.declared.Effect.{Effect}
use Rattle.pairing.proofs.Keeping.{Way, pairs_in, pairs_out, fills, replaces, passes, way}
use Rattle.journal.specs.Writes.{landed}
use Rattle.layout.specs.Laws.{Storable}
use Rattle.plans.specs.Calls.{Performed}
use Rattle.plans.specs.Plans.{Plan, StoreAnswer, TakeAnswer, and_then, refused_if, storing, store_plan, taking, take_plan}
use Rattle.plans.specs.Recovery.{Leaves}
use Rattle.plans.proofs.Opening.{ok_same}
use Rattle.plans.proofs.Recovering.{store_blocks, take_blocks}
use Rattle.plans.proofs.Standing.{err_ok, four_lawful}
use Rattle.session.specs.Calls.{Kind, Store, Take, Report, Own, reporting, reported, stored, taken}
use Rattle.session.specs.Refused.{Status, down, busy, ready, status_of, fault_if, when_ready, undrawn, refusal}
use Rattle.session.specs.Runs.{Keeps, KindLaws}
use Rattle.session.specs.Steps.{Outcome, refused, store_done, store_lost, take_done, take_lost, report_done, stored_by, store_reply, take_reply}
use Rattle.session.specs.declared.Answer.TheVariants as answer
use Rattle.session.proofs.Commits.{Told, no, yes, told_as, Commits, Became, not_tried, all_done_lem, one_lost_lem, became, ten_long, ten_inside}
use Rattle.session.proofs.Statuses.{rested_by, then_rested, ready_rests, recovery, at_rest_lem, err_same}

-- ---- the limits that the refusals leave

width_least : (m n c1 c2 : ℕ) {w : ℕ} {e : Effect} → Way m n c1 c2 0 w e → 1 ≤ w
width_least m n c1 c2 (pairs_in some low) = omega arith
width_least m n c1 c2 (pairs_out some high) = omega arith
width_least m n c1 c2 (fills none free) = omega arith
width_least m n c1 c2 (replaces none full low) = omega arith
width_least m n c1 c2 (passes none full high) = omega arith

pub width_positive : {X : Type 0} (r : Reservoir X) → 1 ≤ width r
width_positive r = width_least r.capacity r.size r.c1 r.c2 (way r.capacity r.size r.c1 r.c2 0)

pub not_last : {X : Type 0} (r : Reservoir X) → Storable r → eqb r.calls 4294967295 ≡ false → r.calls < 4294967295
not_last r ok e =
    let few = ok.countable in
    elim (cases_lt r.calls 4294967295) [
      | inl low ↦ low
      | inr high ↦ absurd (eqb-false r.calls 4294967295 e (omega (arith, few)))
    ]

module _ {X : Type 0} (own : Kind X) (laws : KindLaws own) (d : Disk) (r : Reservoir X) (keeps : Keeps own d r) where
  -- ---- Store

  module _ (number : ℕ) (item : X) (words : ℕ → Option ℕ) where
    abbrev draws : Option Drawn
    draws = draw_of words (width r) r.words

    -- the answer is that of the reservoir
    pub record StoreFits (a : StoreAnswer) : Type 0 where
      pub drawn : Drawn
      pub is : draws ≡ Some drawn
      pub reply : stored a ≡ store_reply r drawn

    abbrev store_from : Reservoir X → Result (Plan StoreAnswer) Fault
    store_from r =
        refused_if (eqb r.calls 4294967295) last_call
        (refused_if (r.stock number) in_stock
        (and_then (ok_or (draw_of words (width r) r.words) no_draw) (λ drawn. Ok (storing own.code own.form r number item drawn))))

    store_plan_lem :
        store_plan own.code own.form own.reading d number item words
        ≡ refused_if (ltb 32767 number) number_too_large (rested_by (status_of d) (store_from r))
    unfolding store_plan
    store_plan_lem =
        ap (λ x. refused_if (ltb 32767 number) number_too_large (and_then x store_from)) (at_rest_lem own laws keeps)
        ∙ ap (refused_if (ltb 32767 number) number_too_large) (then_rested (status_of d) (Ok r) store_from)

    store_commits :
        (drawn : Drawn) → ltb 32767 number ≡ false → status_of d ≡ ready → eqb r.calls 4294967295 ≡ false → r.stock number ≡ false →
        draws ≡ Some drawn → Commits own d r (stored_by r number item draws) StoreFits (storing own.code own.form r number item drawn)
    unfolding storing
    store_commits drawn small on more out is =
        let low : number < 32768 = (let h = ltb-false 32767 number small in omega arith) in
        let rests = ready_rests own keeps.stands on in
        let can = not_last r keeps.storable more in
        let within = drawn_within words (width r) r.words drawn (width_positive r) is in
        let targets = four_lawful _ (store_blocks r keeps.storable.lawful number drawn low) in
        let next = pairing.store r number item drawn.value drawn.used in
        record {
          long = refl;
          inside = ten_inside own.code own.form next [] d targets keeps.large;
          online = rests.1;
          leaves = λ {u} {es} {d'} run.
              subst (λ n. Leaves own.code own.form own.reading es u d' n r × Storable n) (sym (ap (stored_by r number item) is))
              ((recovery own laws).stores d d' r number item drawn u es keeps.storable rests.0 keeps.large low out can within.0 within.1 run);
          fits = record { drawn = drawn; is = is; reply = refl };
        }

    store_told_by :
        (t₁ : Bool) (s : Status) (t₂ t₃ : Bool) (o : Option Drawn) → ltb 32767 number ≡ t₁ → status_of d ≡ s →
        eqb r.calls 4294967295 ≡ t₂ → r.stock number ≡ t₃ → draws ≡ o →
        Told (fault_if t₁ number_too_large (when_ready s (fault_if t₂ last_call (fault_if t₃ in_stock (undrawn o)))))
        (refused_if t₁ number_too_large (rested_by s
        (refused_if t₂ last_call (refused_if t₃ in_stock
        (and_then (ok_or o no_draw) (λ drawn. Ok (storing own.code own.form r number item drawn)))))))
        (Commits own d r (stored_by r number item draws) StoreFits)
    store_told_by true s t₂ t₃ o e₁ e e₂ e₃ is = no refl refl
    store_told_by false down t₂ t₃ o e₁ e e₂ e₃ is = no refl refl
    store_told_by false busy t₂ t₃ o e₁ e e₂ e₃ is = no refl refl
    store_told_by false ready true t₃ o e₁ e e₂ e₃ is = no refl refl
    store_told_by false ready false true o e₁ e e₂ e₃ is = no refl refl
    store_told_by false ready false false None e₁ e e₂ e₃ is = no refl refl
    store_told_by false ready false false (Some drawn) e₁ e e₂ e₃ is = yes _ refl refl (store_commits drawn e₁ e e₂ e₃ is)

    store_became :
        {a : Result StoreAnswer Fault} {es : List Event} {d' : Disk} (room : ℕ) →
        Performed (store_plan own.code own.form own.reading d number item words) d a es d' →
        Became own d r (refusal (status_of d) r room (Store number item words)) StoreFits a es d'
        × Keeps own d' (cond (landed 5 es) (stored_by r number item draws) r)
    store_became room call =
        became own d r keeps (told_as store_plan_lem (store_told_by (ltb 32767 number) (status_of d) (eqb r.calls 4294967295) (r.stock number) draws refl refl refl refl refl)) call

    store_outcome :
        {Y : Type 0} {a : Result StoreAnswer Fault} {es : List Event} {d' : Disk} (page : List ℕ) →
        Became own d r (refusal (status_of d) r (length page) (Store number item words)) StoreFits a es d' →
        Outcome {Y = Y} own d page r (Own (Store number item words)) (result_map_both stored (λ f. f) a) es d' page
    store_outcome page (not_tried f) = refused f
    store_outcome {Y} page (all_done_lem {a = a} {es = es} {d' = d'} f fits asked) =
        subst (λ x. Outcome {Y = Y} own d page r (Own (Store number item words)) (Ok x) es d' page) (sym fits.reply) (store_done f fits.is asked)
    store_outcome page (one_lost_lem f asked) = store_lost f asked

    pub store_law :
        {Y : Type 0} {a : Result StoreAnswer Fault} {es : List Event} {d' : Disk} (page : List ℕ) →
        Performed (store_plan own.code own.form own.reading d number item words) d a es d' →
        Outcome {Y = Y} own d page r (Own (Store number item words)) (result_map_both stored (λ f. f) a) es d' page
        × Keeps own d' (cond (landed 5 es) (stored_by r number item draws) r)
    store_law page call = let q = store_became (length page) call in (store_outcome page q.0, q.1)

  -- ---- Take

  module _ (number : ℕ) where
    pub record TakeFits (a : TakeAnswer) : Type 0 where
      pub reply : taken a ≡ take_reply r number

    abbrev take_from : Reservoir X → Result (Plan TakeAnswer) Fault
    take_from r =
        refused_if (eqb r.calls 4294967295) last_call
        (refused_if (not (r.stock number)) not_in_stock (Ok (taking own.code own.form r number)))

    take_plan_lem :
        take_plan own.code own.form own.reading d number
        ≡ refused_if (ltb 32767 number) number_too_large (rested_by (status_of d) (take_from r))
    unfolding take_plan
    take_plan_lem =
        ap (λ x. refused_if (ltb 32767 number) number_too_large (and_then x take_from)) (at_rest_lem own laws keeps)
        ∙ ap (refused_if (ltb 32767 number) number_too_large) (then_rested (status_of d) (Ok r) take_from)

    take_commits :
        ltb 32767 number ≡ false → status_of d ≡ ready → eqb r.calls 4294967295 ≡ false → r.stock number ≡ true →
        Commits own d r (pairing.taken r number) TakeFits (taking own.code own.form r number)
    unfolding taking
    take_commits small on more inside =
        let low : number < 32768 = (let h = ltb-false 32767 number small in omega arith) in
        let rests = ready_rests own keeps.stands on in
        let can = not_last r keeps.storable more in
        let targets = four_lawful _ (take_blocks r keeps.storable.lawful number low) in
        let next = pairing.taken r number in
        record {
          long = ten_long own.code own.form next _ targets;
          inside = ten_inside own.code own.form next _ d targets keeps.large;
          online = rests.1;
          leaves = λ {u} {es} {d'} run.
              (recovery own laws).takes d d' r number u es keeps.storable rests.0 keeps.large low inside can run;
          fits = record { reply = refl };
        }

    take_told_by :
        (t₁ : Bool) (s : Status) (t₂ t₃ : Bool) → ltb 32767 number ≡ t₁ → status_of d ≡ s → eqb r.calls 4294967295 ≡ t₂ →
        r.stock number ≡ t₃ →
        Told (fault_if t₁ number_too_large (when_ready s (fault_if t₂ last_call (fault_if (not t₃) not_in_stock None))))
        (refused_if t₁ number_too_large (rested_by s
        (refused_if t₂ last_call (refused_if (not t₃) not_in_stock (Ok (taking own.code own.form r number))))))
        (Commits own d r (pairing.taken r number) TakeFits)
    take_told_by true s t₂ t₃ e₁ e e₂ e₃ = no refl refl
    take_told_by false down t₂ t₃ e₁ e e₂ e₃ = no refl refl
    take_told_by false busy t₂ t₃ e₁ e e₂ e₃ = no refl refl
    take_told_by false ready true t₃ e₁ e e₂ e₃ = no refl refl
    take_told_by false ready false false e₁ e e₂ e₃ = no refl refl
    take_told_by false ready false true e₁ e e₂ e₃ = yes _ refl refl (take_commits e₁ e e₂ e₃)

    take_outcome :
        {Y : Type 0} {a : Result TakeAnswer Fault} {es : List Event} {d' : Disk} (page : List ℕ) →
        Became own d r (refusal (status_of d) r (length page) (Take number)) TakeFits a es d' →
        Outcome {Y = Y} own d page r (Own (Take number)) (result_map_both taken (λ f. f) a) es d' page
    take_outcome page (not_tried f) = refused f
    take_outcome {Y} page (all_done_lem {es = es} {d' = d'} f fits asked) =
        subst (λ x. Outcome {Y = Y} own d page r (Own (Take number)) (Ok x) es d' page) (sym fits.reply) (take_done f asked)
    take_outcome page (one_lost_lem f asked) = take_lost f asked

    pub take_law :
        {Y : Type 0} {a : Result TakeAnswer Fault} {es : List Event} {d' : Disk} (page : List ℕ) →
        Performed (take_plan own.code own.form own.reading d number) d a es d' →
        Outcome {Y = Y} own d page r (Own (Take number)) (result_map_both taken (λ f. f) a) es d' page
        × Keeps own d' (cond (landed 5 es) (pairing.taken r number) r)
    take_law page call =
        let told = take_told_by (ltb 32767 number) (status_of d) (eqb r.calls 4294967295) (r.stock number) refl refl refl refl in
        let q = became own d r keeps (told_as take_plan_lem told) call in
        (take_outcome page q.0, q.1)

  -- ---- Report

  -- refused as the table says, or with the reservoir
  data Shown (page : List ℕ) : Result (Reservoir X) Fault → Type 0 where
    hidden : {f : Fault} → refusal (status_of d) r (length page) Report ≡ Some f → Shown page (Err f)
    shown : refusal (status_of d) r (length page) Report ≡ None → Shown page (Ok r)

  shown_by :
      (page : List ℕ) (t : Bool) (s : Status) → ltb (length page) 32768 ≡ t → status_of d ≡ s →
      Shown page (refused_if t too_short (rested_by s (Ok r)))
  shown_by page true s e k = hidden (ap (λ t. fault_if t too_short (when_ready (status_of d) None)) e)
  shown_by page false down e k = hidden (λ i. fault_if (e i) too_short (when_ready (k i) None))
  shown_by page false busy e k = hidden (λ i. fault_if (e i) too_short (when_ready (k i) None))
  shown_by page false ready e k = shown (λ i. fault_if (e i) too_short (when_ready (k i) None))

  report_shown : (page : List ℕ) → Shown page (reporting own d page)
  report_shown page =
      subst (Shown page) (sym (ap (refused_if (ltb (length page) 32768) too_short) (at_rest_lem own laws keeps)))
      (shown_by page (ltb (length page) 32768) (status_of d) refl refl)

  refused_by :
      {Y : Type 0} (page : List ℕ) (x : Result (Reservoir X) Fault) (f : Fault) → Shown page x → x ≡ Err f →
      Outcome {Y = Y} own d page r (Own Report) (Err f) [] d page
  refused_by page x f (hidden h) e = refused (h ∙ ap Some (err_same e))
  refused_by page x f (shown h) e = absurd (err_ok (sym e))

  done_by :
      {Y : Type 0} (page : List ℕ) (x : Result (Reservoir X) Fault) (q : Reservoir X) → Shown page x → x ≡ Ok q →
      Outcome {Y = Y} own d page r (Own Report) (Ok (answer.Reported (counts_of q))) [] d (reported own q page)
  done_by page x q (hidden h) e = absurd (err_ok e)
  done_by {Y} page x q (shown h) e =
      subst (λ q. Outcome {Y = Y} own d page r (Own Report) (Ok (answer.Reported (counts_of q))) [] d (reported own q page)) (ok_same e) (report_done h)

  pub report_refused_lem :
      {Y : Type 0} (page : List ℕ) (f : Fault) → reporting own d page ≡ Err f → Outcome {Y = Y} own d page r (Own Report) (Err f) [] d page
  report_refused_lem page f e = refused_by page (reporting own d page) f (report_shown page) e

  pub report_done_lem :
      {Y : Type 0} (page : List ℕ) (q : Reservoir X) → reporting own d page ≡ Ok q →
      Outcome {Y = Y} own d page r (Own Report) (Ok (answer.Reported (counts_of q))) [] d (reported own q page)
  report_done_lem page q e = done_by page (reporting own d page) q (report_shown page) e
