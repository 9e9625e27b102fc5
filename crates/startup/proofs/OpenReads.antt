-- Lemmas on what Open reads, and on the plan that it makes of it.
-- Assumes nothing.
use Rattle.std.proofs.Common.{◌≡◌, ℕ, ◌+◌, ◌<◌, Bool, true, false, cond, List, [], ◌∷◌, Some, None, Ok, Err, Option, Result, sym, refl, ap, ◌∙◌, subst, arith}
use Rattle.std.specs.Result.{result_map_both}
use Rattle.fault.specs.Refusals.{not_register}
use Rattle.fault.specs.declared.Damage.TheVariants as damage
use Rattle.fault.specs.declared.Fault.{Fault}
use Rattle.device.specs.Disk.{Disk, blocks, entry_at, turned}
use Rattle.pairing.specs.Reservoir.{Reservoir}
use Rattle.pairing.specs.Steps.{counts_of}
use Rattle.pairing.specs.declared.counts.Counts.{Counts}
use Rattle.journal.specs.Header.{header_of}
use Rattle.journal.specs.Writes.{write_at, Runs, finished, replay_writes}
use Rattle.journal.proofs.Writes.{runs}
use Rattle.journal.specs.declared.Write.{Write}
use Rattle.journal.specs.declared.headers.Header.{Header}
use Rattle.journal.specs.declared.headers.Header.TheVariants as header
use Rattle.journal.specs.declared.headers.Pending.{Pending}
use Rattle.layout.specs.Reading.{decode, unless_fault, block_fault, first_of, bytes_of}
use Rattle.plans.specs.Plans.{Plan, and_then, answering, agrees, pending_changes, finished_call, finishing, open_answer, opened_by, open_plan}
use Rattle.plans.specs.Views.{viewed}
use Rattle.plans.specs.declared.Finished.{Finished}
use Rattle.plans.specs.declared.Opened.{Opened}
use Rattle.plans.proofs.Standing.{header_four}
use Rattle.plans.proofs.Viewing.{place_four}
use Rattle.reader.specs.Reads.{Steady, HeaderRead}
use Rattle.reader.proofs.Rests.{no_fault}
use Rattle.startup.specs.Opens.{writes_of, plan_of, planned, agrees_with, Found, FoundBy}
use Rattle.startup.specs.Starts.{came, Started, tried, Ready}
use Rattle.reader.proofs.AtRest.{large}
use Rattle.startup.proofs.Beginning.{header_is}
use Rattle.startup.specs.declared.opening.Finding.{Finding}
use Rattle.startup.specs.declared.opening.Task.{Task}
use Rattle.startup.specs.declared.opening.Task.TheVariants as task

-- with nothing to write
pub nothing_written : (t : Task) (d : Disk) → t ≡ task.Nothing → Runs (writes_of t) d (Ok tt) d
nothing_written t d e = subst (λ t. Runs (writes_of t) d (Ok tt) d) (sym e) (runs finished)

-- ---- a pending call

-- the view of its after-images can be read
pub pending_steady : (d : Disk) (p : Pending) → Ready d → header_of (entry_at d 1) ≡ header.Pending p → Steady d 2 p.blocks
pending_steady d p s h = record {
  online = s.online;
  inside = λ b l. place_four (header_four (entry_at d 1) p h) (λ k. k < blocks d) b (λ k low high. omega (arith, s.inside)) (λ e. omega (arith, s.inside));
}

module _ {X : Type 0} (code : ℕ) (reading : List ℕ → Option X) (d : Disk) (p : Pending) where
  abbrev pub Plans : Result (Plan Opened) Fault → Type 0
  Plans r = r ≡ answering open_answer (opened_by code reading d (header.Pending p))

  -- what is planned for what the view holds
  abbrev pub view_plan : Result (Reservoir X) Fault → Result (Plan Opened) Fault
  view_plan whole = answering open_answer (and_then whole (λ r. finishing d p r))

  view_lost : (whole : Result (Reservoir X) Fault) (x : Fault) → Err x ≡ result_map_both counts_of (λ f. f) whole → Err x ≡ view_plan whole
  view_lost (Ok r) x h = absurd (let z : ◌≡◌ {A = ℕ} 0 1 = cc in omega arith)
  view_lost (Err y) x h = let e : x ≡ y = cc in ap Err e

  view_apart :
      (whole : Result (Reservoir X) Fault) (n : Counts) → Ok n ≡ result_map_both counts_of (λ f. f) whole → agrees_with p n ≡ false →
      Err (not_register 1 damage.Disagreement) ≡ view_plan whole
  view_apart (Ok r) n h a =
      let e : counts_of r ≡ n = cc in
      ap (λ t. answering open_answer (cond t
      (Ok (record { answer = record { reservoir = r; finished = Some p }; writes = replay_writes (pending_changes d 2 p.blocks) }))
      (Err (not_register 1 damage.Disagreement)))) (sym (ap (agrees_with p) e ∙ a))
  view_apart (Err y) n h a = absurd (let z : ◌≡◌ {A = ℕ} 0 1 = cc in omega arith)

  view_agrees :
      (whole : Result (Reservoir X) Fault) (n : Counts) (cs : List Write) (f : Finished) → Ok n ≡ result_map_both counts_of (λ f. f) whole →
      agrees_with p n ≡ true → cs ≡ pending_changes d 2 p.blocks → f ≡ finished_call p.call p.number →
      Ok (plan_of (record { task = task.Replay cs; opened = record { counts = n; finished = Some f } })) ≡ view_plan whole
  view_agrees (Ok r) n cs f h a c is =
      let e : n ≡ counts_of r = cc in
      (λ t. Ok (record { answer = record { counts = e t; finished = Some (is t) }; writes = replay_writes (c t) }))
      ∙ ap (λ t. answering open_answer (cond t
      (Ok (record { answer = record { reservoir = r; finished = Some p }; writes = replay_writes (pending_changes d 2 p.blocks) }))
      (Err (not_register 1 damage.Disagreement)))) (sym (ap (agrees_with p) (sym e) ∙ a))
  view_agrees (Err y) n cs f h a c is = absurd (let z : ◌≡◌ {A = ℕ} 0 1 = cc in omega arith)

  module _ (cs : List Write) (got : Ok cs ≡ unless_fault (first_of (block_fault (entry_at d)) 2 4) (pending_changes d 2 p.blocks)) where
    abbrev view : Result (Reservoir X) Fault
    view = decode code reading (viewed d 2 p.blocks)

    images : (first_of (block_fault (entry_at d)) 2 4 ≡ None) × (cs ≡ pending_changes d 2 p.blocks)
    images = no_fault _ _ _ got

    -- the after-images are readable, so the view decides
    by_view : {r : Result (Plan Opened) Fault} → r ≡ view_plan view → Plans r
    by_view e = e ∙ ap (λ x. answering open_answer (and_then (unless_fault x (tt {0})) (λ _. and_then view (λ r. finishing d p r)))) (sym images.0)

    pub counts_lost : {r : Result Finding Fault} {x : Fault} → r ≡ Err x → Err x ≡ result_map_both counts_of (λ f. f) view → Plans (planned r)
    counts_lost {r} {x} is h = ap planned is ∙ by_view (view_lost view x h)

    pub apart : {n : Counts} {f : Fault} → f ≡ not_register 1 damage.Disagreement → Ok n ≡ result_map_both counts_of (λ f. f) view → agrees_with p n ≡ false → Plans (Err f)
    apart {n} is h a = ap Err is ∙ by_view (view_apart view n h a)

    pub agree :
        {n : Counts} {f : Finished} → Ok n ≡ result_map_both counts_of (λ f. f) view → agrees_with p n ≡ true → f ≡ finished_call p.call p.number →
        Plans (planned (Ok (record { task = task.Replay cs; opened = record { counts = n; finished = Some f } })))
    agree {n} {f} h a is = by_view (view_agrees view n cs f h a images.1 is)

-- ---- the plan

changes_turned : (d : Disk) (o : Bool) (first : ℕ) (ts : List ℕ) → pending_changes (turned d o) first ts ≡ pending_changes d first ts
changes_turned d o first [] = refl
changes_turned d o first (t ∷ ts) = ap (λ ws. write_at t (bytes_of (entry_at d first)) ∷ ws) (changes_turned d o (first + 1) ts)

module _ {X : Type 0} (code : ℕ) (reading : List ℕ → Option X) where
  -- it is the same whether the device is online or not
  opened_turned : (d : Disk) (o : Bool) (h : Header) → opened_by code reading (turned d o) h ≡ opened_by code reading d h
  opened_turned d o header.Free = refl
  opened_turned d o header.Unreadable = refl
  opened_turned d o (header.Pending p) =
      ap (λ cs. and_then (unless_fault (first_of (block_fault (entry_at d)) 2 4) (tt {0})) (λ _.
      and_then (decode code reading (viewed d 2 p.blocks)) (λ r. cond (agrees p r)
      (Ok (record { answer = record { reservoir = r; finished = Some p }; writes = replay_writes cs }))
      (Err (not_register 1 damage.Disagreement))))) (changes_turned d o 2 p.blocks)
  opened_turned d o header.Unlawful = refl
  opened_turned d o header.Other = refl

  plan_turned : (d : Disk) (o : Bool) → open_plan code reading (turned d o) ≡ open_plan code reading d
  unfolding open_plan
  plan_turned d o = opened_turned d o (header_of (entry_at d 1))

  -- as the header says
  pub found_by : (d : Disk) (h : Header) (r : Result Finding Fault) → HeaderRead d (Ok h) → FoundBy code reading d h r → Found code reading d r
  unfolding open_plan
  found_by d h r got by s =
      let is = header_is d h s got in
      by s is ∙ ap (λ h. answering open_answer (opened_by code reading d h)) (sym is)

  -- found once the device came online
  pub found_online :
      {d d₁ : Disk} (r : Result Finding Fault) → Started d (Ok tt) d₁ → Found code reading d₁ r →
      answering open_answer (open_plan code reading d) ≡ planned r
  found_online {d} r (tried small came) h =
      ap (answering open_answer) (sym (plan_turned d true))
      ∙ sym (h (record { online = refl; inside = large d (sym (ap (λ o. unless_fault o tt) small)) }))
