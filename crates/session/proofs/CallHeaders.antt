-- What each call leaves in the header's block.
-- Assumes nothing.
use Rattle.std.proofs.Common.{◌≡◌, ℕ, ◌<◌, Bool, true, false, cond, not, eqb, ltb, List, [], ◌∷◌, drop, Some, None, Ok, Err, Option, Result, refl, ap, subst, arith}
use Rattle.std.specs.Option.{ok_or}
use Rattle.std.proofs.lemmas.Bool.{ltb-false}
use Rattle.fault.specs.Refusals.{offline, too_few_blocks, number_too_large, in_stock, not_in_stock, last_call, no_draw}
use Rattle.fault.specs.declared.Fault.{Fault}
use Rattle.device.specs.Disk.{Disk, Event, blocks, entry_at}
use Rattle.device.specs.Disk as disk
use Rattle.words.specs.Draws.{draw_of}
use Rattle.words.proofs.Results.{drawn_within}
use Rattle.pairing.specs.Reservoir.{Reservoir, width, store, taken}
use Rattle.journal.specs.Header.{header_of, free_or_refused, pending_bytes}
use Rattle.journal.specs.Writes.{Ran, finished, goes_on, stops}
use Rattle.journal.specs.declared.Write.{Write}
use Rattle.journal.specs.declared.headers.Header.{Header}
use Rattle.journal.specs.declared.headers.Header.TheVariants as header
use Rattle.journal.proofs.HeaderLaws.{headers_read_back}
use Rattle.layout.specs.Laws.{Storable}
use Rattle.layout.specs.Layout.{content}
use Rattle.layout.specs.Reading.{decode, block_fault, first_of, unless_fault}
use Rattle.layout.proofs.LayoutLaws.{reads_exactly}
use Rattle.plans.specs.Calls.{Performed, PerformedOnline, refused, done, interrupted, refused_early, stayed_offline, went_on}
use Rattle.plans.specs.Plans.{Plan, Finding, StoreAnswer, TakeAnswer, and_then, refused_if, answering, agrees, at_rest, storing, store_plan, taking, take_plan, opened_by, open_plan, open_answer}
use Rattle.plans.specs.Views.{viewed}
use Rattle.plans.proofs.Opening.{ok_same}
use Rattle.plans.proofs.Recovering.{store_header, take_header, store_header_lem, take_header_lem}
use Rattle.plans.proofs.Standing.{err_ok, four_lawful, header_four}
use Rattle.session.specs.Calls.{Kind, Request, Store, Take, Report, Open, Call, Own, Other, Reply, Did, store_did, take_did, report_refused, report_did, open_did, DidCall, for_own, for_other}
use Rattle.session.specs.Runs.{KindLaws}
use Rattle.session.specs.Steps.{Outcome, refused_other, other_open, other_offline, owed}
use Rattle.session.proofs.HeaderLeft.{owed_at, left, Shape, ends, ran_left, ten, owed_shape, commit_shape, replay_shape, free_shape}
use Rattle.session.proofs.OwnCalls.{not_last, width_positive}

-- ---- plans in steps

record Then {A B : Type 0} (x : Result A Fault) (next : A → Result B Fault) (b : B) : Type 0 where
  value : A
  is : x ≡ Ok value
  then : next value ≡ Ok b

then_ok : {A B : Type 0} (x : Result A Fault) (next : A → Result B Fault) {b : B} → and_then x next ≡ Ok b → Then x next b
then_ok (Ok y) next e = record { value = y; is = refl; then = e }
then_ok (Err f) next e = absurd (err_ok e)

passed : {A : Type 0} (t : Bool) (f : Fault) (later : Result A Fault) {a : A} → refused_if t f later ≡ Ok a → (t ≡ false) × (later ≡ Ok a)
passed true f later e = absurd (err_ok e)
passed false f later e = (refl, e)

given : {A : Type 0} (o : Option A) (f : Fault) {a : A} → ok_or o f ≡ Ok a → o ≡ Some a
given (Some x) f e = ap Some (ok_same e)
given None f e = absurd (err_ok e)

chosen : {A : Type 0} (t : Bool) (x : A) (f : Fault) {a : A} → cond t (Ok x) (Err f) ≡ Ok a → x ≡ a
chosen true x f e = ok_same e
chosen false x f e = absurd (err_ok e)

-- ---- Store and Take

module _ {X : Type 0} (own : Kind X) (laws : KindLaws own) (d : Disk) where
  rest_storable : (r : Reservoir X) → at_rest own.code own.reading d ≡ Ok r → Storable r
  unfolding at_rest
  rest_storable r e =
      let a = passed (ltb (blocks d) 78) (too_few_blocks (blocks d)) _ e in
      let b = passed (not d.online) (offline 1) _ a.1 in
      let c = then_ok (free_or_refused (header_of (entry_at d 1))) _ b.1 in
      (reads_exactly own.code own.form own.reading laws.known laws.sized laws.bounded laws.round laws.exact (entry_at d) r c.then).0

  store_shape :
      (number : ℕ) (item : X) (words : ℕ → Option ℕ) (p : Plan StoreAnswer) →
      store_plan own.code own.form own.reading d number item words ≡ Ok p → Shape ten p.writes
  unfolding store_plan storing
  store_shape number item words p e =
      let a = passed (ltb 32767 number) number_too_large _ e in
      let b = then_ok (at_rest own.code own.reading d) _ a.1 in
      let r = b.value in
      let c = passed (eqb r.calls 4294967295) last_call _ b.then in
      let g = passed (r.stock number) in_stock _ c.1 in
      let h = then_ok (ok_or (draw_of words (width r) r.words) no_draw) _ g.1 in
      let drawn = h.value in
      let ok = rest_storable r b.is in
      let low : number < 32768 = omega (arith, ltb-false 32767 number a.0) in
      let within = drawn_within words (width r) r.words drawn (width_positive r) (given _ no_draw h.is) in
      let lawful = store_header_lem r ok.lawful number drawn low g.0 (not_last r ok c.0) within.0 within.1 in
      subst (λ p. Shape ten p.writes) (ok_same h.then)
      (commit_shape (content own.code own.form (store r number item drawn.value drawn.used)) (pending_bytes (store_header r number drawn))
      (four_lawful _ lawful.blocks) (ap owed (headers_read_back.pending _ lawful)))

  take_shape :
      (number : ℕ) (p : Plan TakeAnswer) → take_plan own.code own.form own.reading d number ≡ Ok p → Shape ten p.writes
  unfolding take_plan taking
  take_shape number p e =
      let a = passed (ltb 32767 number) number_too_large _ e in
      let b = then_ok (at_rest own.code own.reading d) _ a.1 in
      let r = b.value in
      let c = passed (eqb r.calls 4294967295) last_call _ b.then in
      let g = passed (not (r.stock number)) not_in_stock _ c.1 in
      let ok = rest_storable r b.is in
      let low : number < 32768 = omega (arith, ltb-false 32767 number a.0) in
      let lawful = take_header_lem r ok.lawful number low (not_last r ok c.0) in
      subst (λ p. Shape ten p.writes) (ok_same g.1)
      (commit_shape (content own.code own.form (taken r number)) (pending_bytes (take_header r number))
      (four_lawful _ lawful.blocks) (ap owed (headers_read_back.pending _ lawful)))

-- ---- Open

module _ {X : Type 0} (code : ℕ) (reading : List ℕ → Option X) (d : Disk) where
  opened_shape :
      (h : Header) → header_of (entry_at d 1) ≡ h → (p : Plan (Finding X)) → opened_by code reading d h ≡ Ok p → Shape (owed_shape (owed h)) p.writes
  opened_shape header.Free is p e =
      let a = then_ok (decode code reading (entry_at d)) _ e in
      subst (λ p. Shape [] p.writes) (ok_same a.then) ends
  opened_shape header.Unreadable is p e =
      let a = then_ok (decode code reading (entry_at d)) _ e in
      subst (λ p. Shape (owed_shape 1) p.writes) (ok_same a.then) free_shape
  opened_shape (header.Pending q) is p e =
      let a = then_ok (unless_fault (first_of (block_fault (entry_at d)) 2 4) (tt {0})) _ e in
      let b = then_ok (decode code reading (viewed d 2 q.blocks)) _ a.then in
      subst (λ p. Shape (owed_shape 5) p.writes) (chosen (agrees q b.value) _ _ b.then) (replay_shape d (header_four (entry_at d 1) q is))
  opened_shape header.Unlawful is p e = absurd (err_ok e)
  opened_shape header.Other is p e = absurd (err_ok e)

  open_shape : (p : Plan (Finding X)) → open_plan code reading d ≡ Ok p → Shape (owed_shape (owed_at d)) p.writes
  unfolding open_plan
  open_shape p e = opened_shape (header_of (entry_at d 1)) refl p e

  answer_shape :
      {A : Type 0} (f : Finding X → A) (p : Plan A) → answering f (open_plan code reading d) ≡ Ok p → Shape (owed_shape (owed_at d)) p.writes
  answer_shape f p e =
      let a = then_ok (open_plan code reading d) _ e in
      subst (λ p. Shape (owed_shape (owed_at d)) p.writes) (ok_same a.then) (open_shape a.value a.is)

-- ---- what a call leaves

performed_left :
    {A : Type 0} {plan : Result (Plan A) Fault} {d d' : Disk} {a : Result A Fault} {es : List Event} → Performed plan d a es d' →
    (ss : List (Option ℕ)) → ((p : Plan A) → plan ≡ Ok p → Shape ss p.writes) → owed_at d' ≡ left es ss (owed_at d)
performed_left (refused e) ss shape = refl
performed_left (done {p = p} e run) ss shape = ran_left run (shape p e)
performed_left (interrupted {p = p} e run) ss shape = ran_left run (shape p e)

-- after an Open, whose first event is that of bringing the device online
abbrev open_left : List Event → ℕ → ℕ
open_left [] n = n
open_left (e ∷ es) n = left es (owed_shape n) n

-- the writes that the header owes after a call
abbrev pub owed_after : {X Y : Type 0} → Call X Y → List Event → ℕ → ℕ
owed_after (Own (Store number item words)) es n = left es ten n
owed_after (Own (Take number)) es n = left es ten n
owed_after (Own Report) es n = n
owed_after (Own Open) es n = open_left es n
owed_after (Other q) es n = n

open_owed :
    {X : Type 0} {A : Type 0} (code : ℕ) (reading : List ℕ → Option X) (f : Finding X → A) {early : Option Fault} {d d' : Disk} {a : Result A Fault}
    {es : List Event} → PerformedOnline early (answering f (open_plan code reading d)) d a es d' → owed_at d' ≡ open_left es (owed_at d)
open_owed code reading f (refused_early e) = refl
open_owed code reading f (stayed_offline e) = refl
open_owed code reading f {d = d} (went_on e call) = performed_left call (owed_shape (owed_at d)) (answer_shape code reading d f)

ran_none : {ws : List Write} {d d' : Disk} {a : Result (Unit {0}) Fault} {es : List Event} → Ran ws d a es d' → es ≡ [] → owed_at d' ≡ owed_at d
ran_none finished e = refl
ran_none (goes_on h r) e = absurd (let z : ◌≡◌ {A = ℕ} 0 1 = cc in omega arith)
ran_none (stops (disk.outside h)) e = refl
ran_none (stops (disk.offline h o)) e = refl
ran_none (stops (disk.lost m h o)) e = absurd (let z : ◌≡◌ {A = ℕ} 0 1 = cc in omega arith)

performed_none :
    {A : Type 0} {plan : Result (Plan A) Fault} {d d' : Disk} {a : Result A Fault} {es : List Event} → Performed plan d a es d' → es ≡ [] →
    owed_at d' ≡ owed_at d
performed_none (refused e) none = refl
performed_none (done e run) none = ran_none run none
performed_none (interrupted e run) none = ran_none run none

online_none :
    {A : Type 0} {early : Option Fault} {plan : Result (Plan A) Fault} {d d' : Disk} {a : Result A Fault} {es : List Event} →
    PerformedOnline early plan d a es d' → drop 1 es ≡ [] → owed_at d' ≡ owed_at d
online_none (refused_early e) none = refl
online_none (stayed_offline e) none = refl
online_none (went_on e call) none = performed_none call none

other_none :
    {Y : Type 0} {other : Kind Y} {d d' : Disk} {page page' : List ℕ} {a : Reply} {es : List Event} → Did other d page Open a es d' page' →
    drop 1 es ≡ [] → owed_at d' ≡ owed_at d
other_none (open_did call) none = online_none call none

module _ {X Y : Type 0} (own : Kind X) (other : Kind Y) (laws : KindLaws own) where
  own_owed :
      {q : Request X} {d d' : Disk} {page page' : List ℕ} {a : Reply} {es : List Event} → Did own d page q a es d' page' → owed_at d' ≡ owed_after {Y = Y} (Own q) es (owed_at d)
  own_owed {d = d} (store_did {number} {item} {words} call) = performed_left call ten (store_shape own laws d number item words)
  own_owed {d = d} (take_did {number} call) = performed_left call ten (take_shape own laws d number)
  own_owed (report_refused e) = refl
  own_owed (report_did e) = refl
  own_owed (open_did call) = open_owed own.code own.reading open_answer call

  other_owed :
      {q : Request Y} {r : Reservoir X} {d d' : Disk} {page page' : List ℕ} {a : Reply} {es : List Event} →
      Outcome own d page r (Other q) a es d' page' → Did other d page q a es d' page' → owed_at d' ≡ owed_at d
  other_owed (refused_other e) did = refl
  other_owed (other_open on) did = other_none did refl
  other_owed (other_offline off) did = other_none did refl

  pub call_owed :
      {c : Call X Y} {r : Reservoir X} {d d' : Disk} {page page' : List ℕ} {a : Reply} {es : List Event} →
      DidCall own other d page c a es d' page' → Outcome own d page r c a es d' page' →
      owed_at d' ≡ owed_after c es (owed_at d)
  call_owed (for_own did) o = own_owed did
  call_owed (for_other did) o = other_owed o did
