-- What a call finds on a disk where a register stands: by the status of the device.
-- Assumes nothing.
use Rattle.std.proofs.Common.{◌≡◌, ℕ, ◌≤◌, Bool, true, false, cond, not, ltb, List, Some, None, Ok, Err, Option, Result, sym, refl, ap, ◌∙◌, arith}
use Rattle.std.proofs.lemmas.Bool.{cond-false, le-ltb}
use Rattle.fault.specs.Refusals.{offline, not_free}
use Rattle.fault.specs.declared.Fault.{Fault}
use Rattle.device.specs.Disk.{Disk, blocks, entry_at, turned}
use Rattle.pairing.specs.Reservoir.{Reservoir}
use Rattle.journal.specs.Header.{header_of, free_or_refused}
use Rattle.journal.specs.declared.headers.Header.{Header}
use Rattle.journal.specs.declared.headers.Header.TheVariants as header
use Rattle.layout.specs.Laws.{ReadsBack}
use Rattle.layout.specs.Reading.{decode}
use Rattle.layout.proofs.LayoutLaws.{reads_back}
use Rattle.plans.specs.Plans.{and_then, refused_if, at_rest, too_small}
use Rattle.plans.specs.Recovery.{Rests, Stands, resting, torn, pending, Recovers}
use Rattle.plans.proofs.Recovering.{recovers}
use Rattle.session.specs.Calls.{Kind}
use Rattle.session.specs.Refused.{Status, down, busy, ready, header_status, status_of}
use Rattle.session.specs.Runs.{Keeps, KindLaws}

-- ---- answers

pub some_none : {A : Type 0} {a : A} → ◌≡◌ {A = Option A} (Some a) None → ⊥
some_none h = let z : ◌≡◌ {A = ℕ} 0 1 = cc in omega arith

pub err_same : {A : Type 0} {f g : Fault} → ◌≡◌ {A = Result A Fault} (Err f) (Err g) → f ≡ g
err_same h = cc

-- 1 at block 1, 4, or what is found at rest
abbrev pub rested_by : {A : Type 0} → Status → Result A Fault → Result A Fault
rested_by down x = Err (offline 1)
rested_by busy x = Err not_free
rested_by ready x = x

pub then_rested : {A B : Type 0} (s : Status) (x : Result A Fault) (f : A → Result B Fault) → and_then (rested_by s x) f ≡ rested_by s (and_then x f)
then_rested down x f = refl
then_rested busy x f = refl
then_rested ready x f = refl

-- ---- what is found at rest

by_header :
    {A : Type 0} (o : Bool) (h : Header) (x : Result A Fault) → (h ≡ header.Other → ⊥) →
    refused_if (not o) (offline 1) (and_then (free_or_refused h) (λ _. x)) ≡ rested_by (cond o (header_status h) down) x
by_header false h x n = refl
by_header true header.Free x n = refl
by_header true header.Unreadable x n = refl
by_header true (header.Pending p) x n = refl
by_header true header.Unlawful x n = refl
by_header true header.Other x n = absurd (n refl)

pub rest_by :
    {X : Type 0} (code : ℕ) (reading : List ℕ → Option X) (d : Disk) → 78 ≤ blocks d → (header_of (entry_at d 1) ≡ header.Other → ⊥) →
    at_rest code reading d ≡ rested_by (status_of d) (decode code reading (entry_at d))
unfolding at_rest
rest_by code reading d large n =
    cond-false (ltb (blocks d) 78) _ _ (le-ltb (blocks d) 78 large) ∙ by_header d.online (header_of (entry_at d 1)) (decode code reading (entry_at d)) n

pub not_small : (d : Disk) → 78 ≤ blocks d → too_small d ≡ None
not_small d large = cond-false (ltb (blocks d) 78) _ _ (le-ltb (blocks d) 78 large)

-- ---- where a register stands

abbrev pub StandsOn : {X : Type 0} → Kind X → Disk → Reservoir X → Type 0
StandsOn kind d r = Stands kind.code kind.form kind.reading d r

abbrev pub RestsOn : {X : Type 0} → Kind X → Disk → Reservoir X → Type 0
RestsOn kind d r = Rests kind.code kind.form kind.reading d r

online_by : (o : Bool) (s : Status) → cond o s down ≡ ready → (o ≡ true) × (s ≡ ready)
online_by true s e = (refl, e)
online_by false s e = absurd (let z : ◌≡◌ {A = ℕ} 0 1 = cc in omega arith)

module _ {X : Type 0} (kind : Kind X) {d : Disk} {r : Reservoir X} where
  pub stands_header : StandsOn kind d r → header_of (entry_at d 1) ≡ header.Other → ⊥
  stands_header (resting s) k = let e = s.free in let z : ◌≡◌ {A = ℕ} 0 1 = cc in omega arith
  stands_header (torn u h) k = let z : ◌≡◌ {A = ℕ} 0 1 = cc in omega arith
  stands_header (pending p u i h a) k = let z : ◌≡◌ {A = ℕ} 0 1 = cc in omega arith

  pub stands_turned : (o : Bool) → StandsOn kind d r → StandsOn kind (turned d o) r
  stands_turned o (resting s) = resting (record { free = s.free; holds = s.holds })
  stands_turned o (torn u h) = torn u h
  stands_turned o (pending p u i h a) = pending p u i h a

  -- ready only at rest, and online
  ready_by : StandsOn kind d r → header_status (header_of (entry_at d 1)) ≡ ready → RestsOn kind d r
  ready_by (resting s) e = s
  ready_by (torn u h) e = absurd (let k = sym (ap header_status u) ∙ e in let z : ◌≡◌ {A = ℕ} 0 1 = cc in omega arith)
  ready_by (pending p u i h a) e = absurd (let k = sym (ap header_status u) ∙ e in let z : ◌≡◌ {A = ℕ} 0 1 = cc in omega arith)

  pub ready_rests : StandsOn kind d r → status_of d ≡ ready → RestsOn kind d r × (d.online ≡ true)
  ready_rests s e =
      let both = online_by d.online (header_status (header_of (entry_at d 1))) e in
      (ready_by s both.1, both.0)

-- ---- the laws of the crates below

module _ {X : Type 0} (kind : Kind X) (laws : KindLaws kind) where
  pub back : ReadsBack kind.code kind.form kind.reading
  back = reads_back kind.code kind.form kind.reading laws.known laws.sized laws.bounded laws.round laws.exact

  pub recovery : Recovers kind.code kind.form kind.reading
  recovery = recovers kind.code kind.form kind.reading back laws.sized laws.bounded

  -- the reservoir that stands, where the device is ready
  found_by : {d : Disk} {r : Reservoir X} → Keeps kind d r → (s : Status) → status_of d ≡ s →
      rested_by s (decode kind.code kind.reading (entry_at d)) ≡ rested_by s (Ok r)
  found_by k down e = refl
  found_by k busy e = refl
  found_by {d} {r} k ready e = back (entry_at d) r k.storable (ready_rests kind k.stands e).0.holds

  pub at_rest_lem : {d : Disk} {r : Reservoir X} → Keeps kind d r → at_rest kind.code kind.reading d ≡ rested_by (status_of d) (Ok r)
  at_rest_lem {d} k =
      rest_by kind.code kind.reading d k.large (stands_header kind k.stands) ∙ found_by k (status_of d) refl
