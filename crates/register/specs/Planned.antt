-- What a call has prepared from what it read: its answer, and the blocks that it is about to commit.
-- Assumes nothing.
use Rattle.std.specs.Prelude.{◌≡◌, List, Ok, Err, Result}
use Rattle.fault.specs.declared.Fault.{Fault}
use Rattle.journal.specs.Header.{pending_bytes}
use Rattle.journal.specs.Writes.{commit_writes}
use Rattle.journal.specs.declared.Write.{Write}
use Rattle.plans.specs.Plans.{Plan}
use Rattle.register.specs.declared.commits.Commit.{Commit}

-- the writes of a commit
abbrev pub writes_of : Commit → List Write
writes_of c = commit_writes 2 (pending_bytes c.header) c.changes

-- prepared as planned: the plan's answer and writes, or its refusal
abbrev pub PlannedAs : {A : Type 0} → Result (Plan A) Fault → Result (A × Commit) Fault → Type 0
PlannedAs plan (Ok p) = plan ≡ Ok (record { answer = p.0; writes = writes_of p.1 })
PlannedAs plan (Err f) = plan ≡ Err f
