-- The requests and the calls of the code as those of a session, and what a request does.
-- Assumes nothing.
use Rattle.std.specs.Prelude.{◌≡◌, ℕ, List, ◌++◌, length, drop, Option}
use Rattle.device.specs.Disk.{Disk, Event}
use Rattle.pairing.specs.Reservoir.{Reservoir}
use Rattle.session.specs.Calls as session
use Rattle.session.specs.Calls.{Kind, Reply, Did, DidCall}
use Rattle.session.specs.Steps.{Steps}
use Rattle.session.specs.declared.calls.Request.{Request}
use Rattle.session.specs.declared.calls.Request.TheVariants as request
use Rattle.session.specs.declared.calls.Call.{Call}
use Rattle.session.specs.declared.calls.Call.TheVariants as call

-- by the words of each source
abbrev pub asked_request : {X S : Type 0} → (S → ℕ → Option ℕ) → Request X S → session.Request X
asked_request words (request.Store number item source) = session.Store number item (words source)
asked_request words (request.Take number) = session.Take number
asked_request words request.Report = session.Report
asked_request words request.Open = session.Open

abbrev pub asked : {X Y S : Type 0} → (S → ℕ → Option ℕ) → Call X Y S → session.Call X Y
asked words (call.Own q) = session.Own (asked_request words q)
asked words (call.Other q) = session.Other (asked_request words q)

-- with the events that there were
pub record Does {X : Type 0} (kind : Kind X) (d : Disk) (page : List ℕ) (q : session.Request X) (a : Reply) (d' : Disk) (page' : List ℕ) : Type 0 where
  pub events : List Event
  pub did : Did kind d page q a events d' page'

pub record DoesCall {X Y : Type 0} (own : Kind X) (other : Kind Y) (d : Disk) (page : List ℕ) (c : session.Call X Y) (a : Reply) (d' : Disk) (page' : List ℕ) : Type 0 where
  pub events : List Event
  pub did : DidCall own other d page c a events d' page'

-- all calls were made, from the reservoir r on; the answers stand at the front of the table
pub record Ended {X Y : Type 0} (own : Kind X) (other : Kind Y) (d : Disk) (page : List ℕ) (r : Reservoir X) (calls : List (session.Call X Y)) (table : List Reply)
    (d' : Disk) (page' : List ℕ) (table' : List Reply) : Type 0 where
  pub reservoir : Reservoir X
  pub replies : List Reply
  pub events : List (List Event)
  pub steps : Steps own other d page r calls replies events d' page' reservoir
  pub tabled : table' ≡ replies ++ drop (length calls) table
