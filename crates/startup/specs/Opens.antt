-- What the code of Open reads of a disk, and what it then has to write.
-- Assumes nothing.
use Rattle.std.specs.Prelude.{◌≡◌, ℕ, ◌+◌, ◌<◌, Bool, ◌&&◌, List, [], ◌∷◌, None, Option, Result, ◌==◌}
use Rattle.std.specs.Result.{result_map_both}
use Rattle.items.specs.declared.kind.Kind as trait_of
use Rattle.fault.specs.declared.Fault.{Fault}
use Rattle.device.specs.Disk.{Disk, entry_at}
use Rattle.pairing.specs.Steps.{counts_of}
use Rattle.pairing.specs.declared.counts.Counts.{Counts}
use Rattle.journal.specs.Header.{free_bytes, header_of}
use Rattle.journal.specs.Writes.{write_at, replay_writes}
use Rattle.journal.specs.declared.Write.{Write}
use Rattle.journal.specs.declared.headers.Header.{Header}
use Rattle.journal.specs.declared.headers.Pending.{Pending}
use Rattle.layout.specs.Reading.{decode, bytes_of, block_fault, first_of, unless_fault}
use Rattle.plans.specs.Plans.{Plan, answering, used_by, pending_changes, open_answer, opened_by, open_plan}
use Rattle.plans.specs.Views.{viewed}
use Rattle.plans.specs.declared.Opened.{Opened}
use Rattle.reader.specs.Reads.{Steady}
use Rattle.startup.specs.Starts.{Ready}
use Rattle.startup.specs.declared.opening.Finding.{Finding}
use Rattle.startup.specs.declared.opening.Task.{Task}
use Rattle.startup.specs.declared.opening.Task.TheVariants as task

-- said of the items of a type, as its trait reads them
abbrev pub of_kind : {X : Type 0} {A : Type 1} → (ℕ → (List ℕ → Option X) → A) → trait_of.Ghosts X → A
of_kind f k = f k.code k.reading

-- ---- what is to be done

-- the writes of a task
abbrev pub writes_of : Task → List Write
writes_of task.Nothing = []
writes_of task.Free = write_at 1 free_bytes ∷ []
writes_of (task.Replay changes) = replay_writes changes

-- a finding as a plan
abbrev pub plan_of : Finding → Plan Opened
plan_of f = record { answer = f.opened; writes = writes_of f.task }

abbrev pub planned : Result Finding Fault → Result (Plan Opened) Fault
planned r = result_map_both plan_of (λ f. f) r

-- the disk was read as Open plans it
abbrev pub Found : {X : Type 0} → ℕ → (List ℕ → Option X) → Disk → Result Finding Fault → Type 0
Found code reading d r = Ready d → planned r ≡ answering open_answer (open_plan code reading d)

-- the same, by what the header says
abbrev pub FoundBy : {X : Type 0} → ℕ → (List ℕ → Option X) → Disk → Header → Result Finding Fault → Type 0
FoundBy code reading d h r = Ready d → header_of (entry_at d 1) ≡ h → planned r ≡ answering open_answer (opened_by code reading d h)

-- ---- what is read

-- the counts of the register in a view
abbrev pub CountsRead : {X : Type 0} → ℕ → (List ℕ → Option X) → Disk → ℕ → List ℕ → Result Counts Fault → Type 0
CountsRead code reading d first targets r =
    Steady d first targets → r ≡ result_map_both counts_of (λ f. f) (decode code reading (viewed d first targets))

-- with nothing pending, the task is given
abbrev pub resting_plan : Task → Counts → Plan Opened
resting_plan t n = record { answer = record { counts = n; finished = None }; writes = writes_of t }

abbrev pub RestRead : {X : Type 0} → ℕ → (List ℕ → Option X) → Disk → Task → Result Finding Fault → Type 0
RestRead code reading d t r =
    Ready d → planned r ≡ result_map_both (λ x. resting_plan t (counts_of x)) (λ f. f) (decode code reading (entry_at d))

-- an after-image, as the change of its target
abbrev pub ImageRead : Disk → ℕ → ℕ → Result Write Fault → Type 0
ImageRead d b target r =
    Ready d → b < 78 → r ≡ unless_fault (block_fault (entry_at d) b) (write_at target (bytes_of (entry_at d b)))

-- the pending changes: four after-images, from block 2 on
abbrev pub ChangesRead : Disk → List ℕ → Result (List Write) Fault → Type 0
ChangesRead d targets r = Ready d → r ≡ unless_fault (first_of (block_fault (entry_at d)) 2 4) (pending_changes d 2 targets)

-- the header agrees with the counts that it is about
abbrev pub agrees_with : Pending → Counts → Bool
agrees_with p n = p.calls == n.calls && p.words + used_by p.call == n.words
