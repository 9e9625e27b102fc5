use Rattle.std.proofs.Common.{sym, ◌∙◌}
use Rattle.journal.proofs.Writes.{exit_is}
use Rattle.startup.proofs.OpenReads.{pending_steady, counts_lost, apart, agree}
use Rattle.startup.proofs.opening.find_pending.Goals as goal

pub returns-in_err-counts : goal.returns-in_err-counts
returns-in_err-counts g c = λ s h.
    let d = g.D.Device.meaning c.args.device.now in
    let p = c.args.pending in
    counts_lost g.K.Kind.code g.K.Kind.reading d p c.in_ok-changes.changes (c.in_ok-changes.ensures s)
    (exit_is c.from_residual-in_err-counts.ensures.1) (c.in_err-counts.ensures (pending_steady d p s h))

pub returns-then-not-agrees : goal.returns-then-not-agrees
returns-then-not-agrees g c = λ s h.
    let d = g.D.Device.meaning c.args.device.now in
    let p = c.args.pending in
    apart g.K.Kind.code g.K.Kind.reading d p c.in_ok-changes.changes (c.in_ok-changes.ensures s)
    c.not_register.ensures (c.in_ok-counts.ensures (pending_steady d p s h))
    (sym c.agrees.ensures ∙ c.if-not-agrees.true)

pub returns : goal.returns
returns g c = λ s h.
    let d = g.D.Device.meaning c.args.device.now in
    let p = c.args.pending in
    agree g.K.Kind.code g.K.Kind.reading d p c.in_ok-changes.changes (c.in_ok-changes.ensures s)
    (c.in_ok-counts.ensures (pending_steady d p s h))
    (sym c.agrees.ensures ∙ c.if-not-agrees.false) c.from.ensures
