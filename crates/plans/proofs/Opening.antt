-- What Open finds where a register stands, and what it leaves.
-- Assumes nothing.
use Rattle.std.proofs.Common.{◌≡◌, ℕ, true, List, [], ◌∷◌, Some, None, Ok, Err, Option, Result, sym, refl, ap, ◌∙◌, subst}
use Rattle.std.proofs.lemmas.Bool.{cond-true}
use Rattle.fault.specs.declared.Fault.{Fault}
use Rattle.device.specs.Disk.{Disk, entry_at, Event}
use Rattle.pairing.specs.Reservoir.{Reservoir}
use Rattle.journal.specs.Header.{free_bytes, header_of}
use Rattle.journal.specs.Writes.{Ran, finished, write_at, replay_writes}
use Rattle.journal.specs.declared.headers.Header.TheVariants as header
use Rattle.journal.specs.declared.headers.Pending.{Pending}
use Rattle.layout.specs.Laws.{Storable, ReadsBack}
use Rattle.layout.specs.Reading.{decode, block_fault, first_of, unless_fault}
use Rattle.plans.specs.Calls.{Performed, refused, done, interrupted}
use Rattle.plans.specs.Plans.{Plan, Finding, and_then, agrees, pending_changes, finishing, opened_by, open_plan, found}
use Rattle.plans.specs.Recovery.{Rests, Stands, resting, torn, pending}
use Rattle.plans.specs.Views.{viewed}
use Rattle.plans.proofs.Standing.{err_ok, header_four, freed, replays}

-- ---- a call whose plan is known

pub ok_same : {A : Type 0} {a b : A} → ◌≡◌ {A = Result A Fault} (Ok a) (Ok b) → a ≡ b
ok_same h = cc

-- it runs the plan's writes, and answers the plan's answer where they are done
pub record Follows {A : Type 0} (q : Plan A) (d : Disk) (a : Result A Fault) (es : List Event) (d' : Disk) : Type 0 where
  pub result : Result (Unit {0}) Fault
  pub ran : Ran q.writes d result es d'
  pub answers : (x : A) → a ≡ Ok x → (result ≡ Ok tt) × (x ≡ q.answer)

pub follows :
    {A : Type 0} {plan : Result (Plan A) Fault} {q : Plan A} {d d' : Disk} {a : Result A Fault} {es : List Event} → plan ≡ Ok q →
    Performed plan d a es d' → Follows q d a es d'
follows h (refused e) = absurd (err_ok (sym e ∙ h))
follows {d = d} {d' = d'} {es = es} h (done e run) =
    let is = ok_same (sym e ∙ h) in
    record {
      result = Ok tt;
      ran = subst (λ p. Ran p.writes d (Ok tt) es d') is run;
      answers = λ x k. (refl, sym (ok_same k) ∙ ap (λ p. p.answer) is);
    }
follows {d = d} {d' = d'} {es = es} h (interrupted {f = f} e run) = record {
  result = Err f;
  ran = subst (λ p. Ran p.writes d (Err f) es d') (ok_same (sym e ∙ h)) run;
  answers = λ x k. absurd (err_ok k);
}

none_ran : {d d' : Disk} {u : Result (Unit {0}) Fault} {es : List Event} → Ran [] d u es d' → d ≡ d'
none_ran finished = refl

module _ {X : Type 0} (code : ℕ) (form : X → List ℕ) (reading : List ℕ → Option X) (back : ReadsBack code form reading) where
  -- what Open plans where r stands
  record Opening (d : Disk) (r : Reservoir X) : Type 0 where
    plan : Plan (Finding X)
    is : open_plan code reading d ≡ Ok plan
    finds : plan.answer.reservoir ≡ r
    leaves : {d' : Disk} {u : Result (Unit {0}) Fault} {es : List Event} → Ran plan.writes d u es d' →
        Stands code form reading d' r × (u ≡ Ok tt → Rests code form reading d' r)

  pub free_plan :
      (d : Disk) (r : Reservoir X) → header_of (entry_at d 1) ≡ header.Free → decode code reading (entry_at d) ≡ Ok r →
      open_plan code reading d ≡ Ok (record { answer = record { reservoir = r; finished = None }; writes = [] })
  unfolding open_plan
  free_plan d r h e =
      ap (opened_by code reading d) h
      ∙ ap (λ x. and_then x (λ r. Ok (record { answer = record { reservoir = r; finished = None }; writes = [] }))) e

  pub torn_plan :
      (d : Disk) (r : Reservoir X) → header_of (entry_at d 1) ≡ header.Unreadable → decode code reading (entry_at d) ≡ Ok r →
      open_plan code reading d ≡ Ok (record { answer = record { reservoir = r; finished = None }; writes = write_at 1 free_bytes ∷ [] })
  unfolding open_plan
  torn_plan d r h e =
      ap (opened_by code reading d) h
      ∙ ap (λ x. and_then x (λ r. Ok (record { answer = record { reservoir = r; finished = None }; writes = write_at 1 free_bytes ∷ [] }))) e

  pub pending_plan :
      (d : Disk) (p : Pending) (r : Reservoir X) → header_of (entry_at d 1) ≡ header.Pending p → first_of (block_fault (entry_at d)) 2 4 ≡ None →
      decode code reading (viewed d 2 p.blocks) ≡ Ok r → agrees p r ≡ true →
      open_plan code reading d
      ≡ Ok (record { answer = record { reservoir = r; finished = Some p }; writes = replay_writes (pending_changes d 2 p.blocks) })
  unfolding open_plan
  pending_plan d p r h images e agree =
      ap (opened_by code reading d) h
      ∙ ap (λ x. and_then (unless_fault x (tt {0})) (λ _. and_then (decode code reading (viewed d 2 p.blocks)) (λ r. finishing d p r))) images
      ∙ ap (λ x. and_then x (λ r. finishing d p r)) e
      ∙ cond-true (agrees p r) _ _ agree

  opening : (d : Disk) (r : Reservoir X) → Storable r → Stands code form reading d r → Opening d r
  opening d r ok (resting s) = record {
    plan = record { answer = record { reservoir = r; finished = None }; writes = [] };
    is = free_plan d r s.free (back (entry_at d) r ok s.holds);
    finds = refl;
    leaves = λ run. let q = subst (λ x. Rests code form reading x r) (none_ran run) s in (resting q, λ e. q);
  }
  opening d r ok (torn u h) = record {
    plan = record { answer = record { reservoir = r; finished = None }; writes = write_at 1 free_bytes ∷ [] };
    is = torn_plan d r u (back (entry_at d) r ok h);
    finds = refl;
    leaves = λ run. freed code form reading (torn u h) h run;
  }
  opening d r ok (pending p u i h a) = record {
    plan = record { answer = record { reservoir = r; finished = Some p }; writes = replay_writes (pending_changes d 2 p.blocks) };
    is = pending_plan d p r u i (back (viewed d 2 p.blocks) r ok h) a;
    finds = refl;
    leaves = λ run. replays code form reading (header_four (entry_at d 1) p u) (record { header = u; images = i; holds = h; agree = a }) run;
  }

  pub finds : (d : Disk) (r : Reservoir X) → Storable r → Stands code form reading d r → found code reading d ≡ Ok r
  unfolding found
  finds d r ok s =
      let o = opening d r ok s in
      ap (λ x. and_then x (λ plan. Ok plan.answer.reservoir)) o.is ∙ ap Ok o.finds

  pub opens :
      (d d' : Disk) (r : Reservoir X) (a : Result (Finding X) Fault) (es : List Event) → Storable r → Stands code form reading d r →
      Performed (open_plan code reading d) d a es d' →
      Stands code form reading d' r × ((f : Finding X) → a ≡ Ok f → (f.reservoir ≡ r) × Rests code form reading d' r)
  opens d d' r a es ok s call =
      let o = opening d r ok s in
      let k = follows o.is call in
      let after = o.leaves k.ran in
      (after.0, λ f e. (ap (λ x. x.reservoir) (k.answers f e).1 ∙ o.finds, after.1 (k.answers f e).0))
