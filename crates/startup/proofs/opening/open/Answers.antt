use Rattle.std.proofs.Common.{Ok, Err, refl}
use Rattle.journal.proofs.Writes.{exit_is}
use Rattle.startup.specs.Opens.{plan_of}
use Rattle.startup.proofs.Starts.{performs_refused, performs_on, stops, breaks_off, finishes}
use Rattle.startup.proofs.OpenReads.{found_online}
use Rattle.startup.proofs.opening.open.Goals as goal

pub returns-in_err-start : goal.returns-in_err-start
returns-in_err-start g c = performs_refused refl (exit_is c.from_residual.ensures.1) c.in_err-start.ensures

pub returns-in_err-finding : goal.returns-in_err-finding
returns-in_err-finding g c =
    let started = c.in_ok-start.ensures in
    performs_on refl started
    (stops (exit_is c.from_residual-in_err-finding.ensures.1)
    (found_online g.K.Kind.code g.K.Kind.reading (Err _) started c.in_err-finding.ensures))

pub returns-in_err-perform : goal.returns-in_err-perform
returns-in_err-perform g c =
    let started = c.in_ok-start.ensures in
    performs_on refl started
    (breaks_off {p = plan_of c.in_ok-finding.finding} (exit_is c.from_residual-in_err-perform.ensures.1)
    (found_online g.K.Kind.code g.K.Kind.reading (Ok c.in_ok-finding.finding) started c.in_ok-finding.ensures)
    c.in_err-perform.ensures)

pub returns : goal.returns
returns g c =
    let started = c.in_ok-start.ensures in
    performs_on refl started
    (finishes
    (found_online g.K.Kind.code g.K.Kind.reading (Ok c.in_ok-finding.finding) started c.in_ok-finding.ensures)
    c.in_ok-perform.ensures)
