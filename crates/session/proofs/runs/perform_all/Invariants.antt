use Rattle.std.proofs.Common.{◌≡◌, map}
use Rattle.pairing.specs.Reservoir.{Reservoir}
use Rattle.session.specs.Asked.{asked}
use Rattle.session.specs.Calls.{kind_of}
use Rattle.session.specs.Runs.{Keeps}
use Rattle.session.proofs.Walks.{Walked}
use Rattle.session.proofs.runs.perform_all.Given as goal

-- the calls before were made, and their answers are in their places
abbrev pub invariant-loop-i : goal.invariant-loop-i
invariant-loop-i g l =
    let own = kind_of g.K.Kind in
    let other = kind_of g.J.Kind in
    let d = g.D.Device.meaning l.initial.device in
    (own.code ≡ other.code → ⊥) → (r : Reservoir g.row.K.Denot) → Keeps own d r →
    Walked own other d l.initial.page r (map (asked g.S.Source.words) l.calls) l.initial.replies l.i (g.D.Device.meaning l.device) l.page
    l.replies
