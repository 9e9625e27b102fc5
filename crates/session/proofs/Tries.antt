-- What a call tries, and that a failure plan then decides its events.
-- Assumes nothing.
use Rattle.std.proofs.Common.{◌≡◌, ℕ, zero, suc, ◌<◌, Bool, List, [], ◌∷◌, ◌++◌, replicate, Some, None, Option, sym, refl, ap, ◌∙◌, subst, arith}
use Rattle.std.proofs.lemmas.Bool.{both_ways}
use Rattle.fault.specs.declared.Fault.{Fault}
use Rattle.device.specs.Disk.{Disk, Event, write_done, write_lost, online_done, online_refused}
use Rattle.device.specs.declared.Remains.{Remains}
use Rattle.pairing.specs.Reservoir.{Reservoir}
use Rattle.session.specs.Calls.{Kind, Store, Take, Report, Open, Call, Own, Other, Reply}
use Rattle.session.specs.Failures.{Plan, ByPlan}
use Rattle.session.specs.Failures as planned
use Rattle.session.specs.Refused.{Status, status_of, refusal}
use Rattle.session.specs.Steps.{Asked, all_done, one_lost, Outcome, refused, refused_other, store_done, store_lost, take_done, take_lost, report_done, open_done, open_refused, open_lost, other_open, other_offline}
use Rattle.session.proofs.HeaderLeft.{owed_at}
use Rattle.session.proofs.PlannedRuns.{some_none, some_same}

-- ---- n writes, up to the first that is lost

pub data Asks : ℕ → List Event → Type 0 where
  all : Asks 0 []
  done : {n : ℕ} {es : List Event} → Asks n es → Asks (suc n) (write_done ∷ es)
  lost : {n : ℕ} (m : Remains) → Asks (suc n) (write_lost m ∷ [])

asks_all : (n : ℕ) → Asks n (replicate n write_done)
asks_all zero = all
asks_all (suc n) = done (asks_all n)

asks_lost : (k n : ℕ) (m : Remains) → k < n → Asks n (replicate k write_done ++ (write_lost m ∷ []))
asks_lost k zero m h = absurd (omega arith)
asks_lost zero (suc n) m h = lost m
asks_lost (suc k) (suc n) m h = done (asks_lost k n m (omega arith))

asks : {n : ℕ} {d : Disk} {es : List Event} {b : Bool} → Asked n d es b → Asks n es
asks {n} all_done = asks_all n
asks {n} (one_lost k m h o) = asks_lost k n m h

-- ---- what is tried

pub data Query : Type 0 where
  nothing : Query
  writes : ℕ → Query
  opens : ℕ → Query

pub data Tries : Query → List Event → Type 0 where
  still : Tries nothing []
  wrote : {n : ℕ} {es : List Event} → Asks n es → Tries (writes n) es
  came : {n : ℕ} {es : List Event} → Asks n es → Tries (opens n) (online_done ∷ es)
  stayed : {n : ℕ} → Tries (opens n) (online_refused ∷ [])

abbrev pub unless_refused : Option Fault → Query
unless_refused None = writes 10
unless_refused (Some f) = nothing

-- by the status of the device, the writes that its header owes, and the reservoir
abbrev pub query : {X Y : Type 0} → Status → ℕ → Reservoir X → Call X Y → Query
query s n r (Own (Store number item words)) = unless_refused (refusal s r 0 (Store number item words))
query s n r (Own (Take number)) = unless_refused (refusal s r 0 (Take number))
query s n r (Own Report) = nothing
query s n r (Own Open) = opens n
query s n r (Other (Store number item words)) = nothing
query s n r (Other (Take number)) = nothing
query s n r (Other Report) = nothing
query s n r (Other Open) = opens 0

refused_still : {o : Option Fault} {f : Fault} → o ≡ Some f → Tries (unless_refused o) []
refused_still e = subst (λ o. Tries (unless_refused o) []) (sym e) still

free_wrote : {o : Option Fault} {es : List Event} → o ≡ None → Asks 10 es → Tries (unless_refused o) es
free_wrote {es = es} e a = subst (λ o. Tries (unless_refused o) es) (sym e) (wrote a)

pub tries :
    {X Y : Type 0} (own : Kind X) {d d' : Disk} {page : List ℕ} {r : Reservoir X} {page' : List ℕ} {a : Reply} {es : List Event} (c : Call X Y) →
    Outcome own d page r c a es d' page' → Tries (query (status_of d) (owed_at d) r c) es
tries own (Own (Store number item words)) (refused e) = refused_still e
tries own (Own (Store number item words)) (store_done e is asked) = free_wrote e (asks asked)
tries own (Own (Store number item words)) (store_lost e asked) = free_wrote e (asks asked)
tries own (Own (Take number)) (refused e) = refused_still e
tries own (Own (Take number)) (take_done e asked) = free_wrote e (asks asked)
tries own (Own (Take number)) (take_lost e asked) = free_wrote e (asks asked)
tries own (Own Report) (refused e) = still
tries own (Own Report) (report_done e) = still
tries own (Own Open) (refused e) = absurd (some_none (sym e))
tries own (Own Open) (open_done asked rests on) = came (asks asked)
tries own (Own Open) (open_refused off) = stayed
tries own (Own Open) (open_lost asked) = came (asks asked)
tries own (Other (Store number item words)) (refused_other e) = still
tries own (Other (Take number)) (refused_other e) = still
tries own (Other Report) (refused_other e) = still
tries own (Other Open) (refused_other e) = absurd (some_none (sym e))
tries own (Other Open) (other_open on) = came all
tries own (Other Open) (other_offline off) = stayed

-- ---- the plan decides

module _ {plan : Plan} where
  asks_alike :
      {n : ℕ} {es fs : List Event} → Asks n es → Asks n fs → {w o : ℕ} → ByPlan plan w o es → ByPlan plan w o fs →
      es ≡ fs
  asks_alike all all p q = refl
  asks_alike (done a) (done b) (planned.done e p) (planned.done f q) = ap (λ l. write_done ∷ l) (asks_alike a b p q)
  asks_alike (done a) (lost m) (planned.done e p) (planned.lost f q) = absurd (some_none (sym f ∙ e))
  asks_alike (lost m) (done b) (planned.lost e p) (planned.done f q) = absurd (some_none (sym e ∙ f))
  asks_alike (lost m) (lost l) (planned.lost e p) (planned.lost f q) = ap (λ m. write_lost m ∷ []) (some_same (sym e ∙ f))

  pub tries_alike :
      {t : Query} {es fs : List Event} → Tries t es → Tries t fs → {w o : ℕ} → ByPlan plan w o es → ByPlan plan w o fs →
      es ≡ fs
  tries_alike still still p q = refl
  tries_alike (wrote a) (wrote b) p q = asks_alike a b p q
  tries_alike (came a) (came b) (planned.online e p) (planned.online f q) = ap (λ l. online_done ∷ l) (asks_alike a b p q)
  tries_alike (came a) stayed (planned.online e p) (planned.offline f q) = absurd (both_ways _ e f)
  tries_alike stayed (came b) (planned.offline e p) (planned.online f q) = absurd (both_ways _ f e)
  tries_alike stayed stayed p q = refl
