-- What the calls leave in the header's block, and whether the device is online then: by the events alone.
-- Assumes nothing.
use Rattle.std.proofs.Common.{◌≡◌, ℕ, zero, suc, Bool, true, false, ◌≢◌, List, [], ◌∷◌, map, Some, None, Option, Result, sym, refl, ap, ◌∙◌, arith}
use Rattle.fault.specs.declared.Fault.{Fault}
use Rattle.device.specs.Disk.{Disk, Event, write_done, write_lost, online_done, online_refused, entry_at}
use Rattle.device.specs.Disk as disk
use Rattle.device.specs.declared.Remains.TheVariants as remains
use Rattle.device.proofs.Disk.{wrote_other, entry_at_put, put_same}
use Rattle.journal.specs.Header.{header_of, free_bytes}
use Rattle.journal.specs.Writes.{Ran, finished, goes_on, stops, write_at, commit_writes, replay_writes}
use Rattle.journal.specs.declared.Write.{Write}
use Rattle.journal.proofs.HeaderLaws.{headers_read_back}
use Rattle.layout.specs.Layout.{Laid}
use Rattle.plans.specs.Calls.{Performed, PerformedOnline, refused, done, interrupted, refused_early, stayed_offline, went_on}
use Rattle.plans.specs.Plans.{Plan, pending_changes}
use Rattle.plans.proofs.Standing.{unreadable_header}
use Rattle.plans.proofs.Viewing.{Four, four, laid_apart}
use Rattle.session.specs.Calls.{Kind, Request, Call, Reply, Did, store_did, take_did, report_refused, report_did, open_did, DidCall, for_own, for_other}
use Rattle.session.specs.Steps.{owed}

-- ---- online

abbrev pub online_after : List Event → Bool → Bool
online_after [] o = o
online_after (write_done ∷ es) o = online_after es o
online_after (write_lost m ∷ es) o = false
online_after (online_done ∷ es) o = online_after es true
online_after (online_refused ∷ es) o = false

ran_online :
    {ws : List Write} {d d' : Disk} {a : Result (Unit {0}) Fault} {es : List Event} → Ran ws d a es d' → d'.online ≡ online_after es d.online
ran_online finished = refl
ran_online (goes_on (disk.done h o) r) = ran_online r
ran_online (stops (disk.outside h)) = refl
ran_online (stops (disk.offline h o)) = refl
ran_online (stops (disk.lost m h o)) = refl

performed_online :
    {A : Type 0} {plan : Result (Plan A) Fault} {d d' : Disk} {a : Result A Fault} {es : List Event} → Performed plan d a es d' →
    d'.online ≡ online_after es d.online
performed_online (refused e) = refl
performed_online (done e run) = ran_online run
performed_online (interrupted e run) = ran_online run

opened_online :
    {A : Type 0} {early : Option Fault} {plan : Result (Plan A) Fault} {d d' : Disk} {a : Result A Fault} {es : List Event} →
    PerformedOnline early plan d a es d' → d'.online ≡ online_after es d.online
opened_online (refused_early e) = refl
opened_online (stayed_offline e) = refl
opened_online (went_on e call) = performed_online call

did_online :
    {X : Type 0} {kind : Kind X} {d d' : Disk} {page page' : List ℕ} {q : Request X} {a : Reply} {es : List Event} →
    Did kind d page q a es d' page' → d'.online ≡ online_after es d.online
did_online (store_did call) = performed_online call
did_online (take_did call) = performed_online call
did_online (report_refused e) = refl
did_online (report_did e) = refl
did_online (open_did call) = opened_online call

pub call_online :
    {X Y : Type 0} {own : Kind X} {other : Kind Y} {d d' : Disk} {page page' : List ℕ} {c : Call X Y} {a : Reply} {es : List Event} →
    DidCall own other d page c a es d' page' → d'.online ≡ online_after es d.online
call_online (for_own did) = did_online did
call_online (for_other did) = did_online did

-- ---- the header

-- the writes that the header on a disk owes
abbrev pub owed_at : Disk → ℕ
owed_at d = owed (header_of (entry_at d 1))

-- a write to the header's block, by what the new header owes, or to another block; and what the header owes then, by the event
abbrev left_by : Option ℕ → Event → ℕ → ℕ
left_by None e n = n
left_by (Some new) write_done n = new
left_by (Some new) (write_lost remains.Old) n = n
left_by (Some new) (write_lost remains.New) n = new
left_by (Some new) (write_lost remains.Unreadable) n = 1
left_by (Some new) online_done n = n
left_by (Some new) online_refused n = n

abbrev pub left : List Event → List (Option ℕ) → ℕ → ℕ
left [] ss n = n
left (e ∷ es) [] n = n
left (e ∷ es) (s ∷ ss) n = left es ss (left_by s e n)

-- writes of such a shape
pub data Shape : List (Option ℕ) → List Write → Type 0 where
  ends : Shape [] []
  beside : {w : Write} {ss : List (Option ℕ)} {ws : List Write} → 1 ≢ w.block → Shape ss ws → Shape (None ∷ ss) (w ∷ ws)
  headed :
      {bytes : List ℕ} {n : ℕ} {ss : List (Option ℕ)} {ws : List Write} → owed (header_of (Some bytes)) ≡ n → Shape ss ws →
      Shape (Some n ∷ ss) (write_at 1 bytes ∷ ws)

pub ran_left :
    {ws : List Write} {d d' : Disk} {a : Result (Unit {0}) Fault} {es : List Event} {ss : List (Option ℕ)} → Ran ws d a es d' → Shape ss ws →
    owed_at d' ≡ left es ss (owed_at d)
ran_left finished ends = refl
ran_left (goes_on {es = es} h r) (beside {ss = ss} ne s) = ran_left r s ∙ ap (λ e. left es ss (owed (header_of e))) (wrote_other h 1 ne)
ran_left (stops (disk.outside h)) (beside ne s) = refl
ran_left (stops (disk.offline h o)) (beside ne s) = refl
ran_left (stops (disk.lost m h o)) (beside ne s) = ap (λ e. owed (header_of e)) (wrote_other (disk.lost m h o) 1 ne)
ran_left (goes_on {d = d} {es = es} (disk.done h o) r) (headed {ss = ss} e s) =
    ran_left r s ∙ ap (left es ss) (ap (λ x. owed (header_of x)) (entry_at_put d 1 _ h) ∙ e)
ran_left (stops (disk.outside h)) (headed e s) = refl
ran_left (stops (disk.offline h o)) (headed e s) = refl
ran_left (stops {d = d} (disk.lost remains.Old h o)) (headed e s) = ap (λ x. owed (header_of (entry_at x 1))) (put_same d 1)
ran_left (stops {d = d} (disk.lost remains.New h o)) (headed e s) = ap (λ x. owed (header_of x)) (entry_at_put d 1 _ h) ∙ e
ran_left (stops {d = d} (disk.lost remains.Unreadable h o)) (headed e s) =
    ap (λ x. owed (header_of x)) (entry_at_put d 1 _ h) ∙ ap owed unreadable_header

-- the shape of a commit, and of the writes that Open owes: the last frees the header
abbrev pub ten : List (Option ℕ)
ten = None ∷ None ∷ None ∷ None ∷ Some 5 ∷ None ∷ None ∷ None ∷ None ∷ Some 0 ∷ []

abbrev freeing : ℕ → List (Option ℕ)
freeing zero = Some 0 ∷ []
freeing (suc n) = None ∷ freeing n

abbrev pub owed_shape : ℕ → List (Option ℕ)
owed_shape zero = []
owed_shape (suc n) = freeing n

frees : owed (header_of (Some free_bytes)) ≡ 0
frees = ap owed headers_read_back.free

apart : (t : ℕ) → Laid t → 1 ≢ t
apart t l e = laid_apart t 1 l (omega arith) (omega arith) (sym e)

pub commit_shape :
    (bytes : ℕ → List ℕ) (new : List ℕ) {ts : List ℕ} → Four ts → owed (header_of (Some new)) ≡ 5 →
    Shape ten (commit_writes 2 new (map (λ t. write_at t (bytes t)) ts))
commit_shape bytes new (four t₀ t₁ t₂ t₃ l₀ l₁ l₂ l₃) e =
    beside (λ z. omega arith) (beside (λ z. omega arith) (beside (λ z. omega arith) (beside (λ z. omega arith)
    (headed e
    (beside (apart t₀ l₀) (beside (apart t₁ l₁) (beside (apart t₂ l₂) (beside (apart t₃ l₃)
    (headed frees ends)))))))))

pub replay_shape : (d : Disk) {ts : List ℕ} → Four ts → Shape (owed_shape 5) (replay_writes (pending_changes d 2 ts))
replay_shape d (four t₀ t₁ t₂ t₃ l₀ l₁ l₂ l₃) =
    beside (apart t₀ l₀) (beside (apart t₁ l₁) (beside (apart t₂ l₂) (beside (apart t₃ l₃) (headed frees ends))))

pub free_shape : Shape (owed_shape 1) (write_at 1 free_bytes ∷ [])
free_shape = headed frees ends
