use Rattle.std.proofs.Common.{sym, ap, ◌∙◌, Some}
use Rattle.journal.proofs.Writes.{exit_is}
use Rattle.layout.specs.Layout.{head_of}
use Rattle.startup.proofs.Starts.{performs_early, performs_refused, performs_on}
use Rattle.startup.proofs.MakeWrites.{refusal_within, refusal_outside, performs_make}
use Rattle.startup.proofs.making.make.Goals as goal

pub returns-in_err-counters : goal.returns-in_err-counters
returns-in_err-counters g c =
    let no = c.in_err-counters.ensures in
    performs_early (refusal_outside c.args.capacity (g.D.Device.meaning c.args.device.now) no.0 ∙ ap Some (sym no.1))
    (exit_is c.from_residual.ensures.1)

pub returns-in_err-start : goal.returns-in_err-start
returns-in_err-start g c =
    performs_refused (refusal_within c.args.capacity (g.D.Device.meaning c.args.device.now) c.in_ok-counters.ensures.0)
    (exit_is c.from_residual-in_err-start.ensures.1) c.in_err-start.ensures

pub returns : goal.returns
returns g c =
    performs_on (refusal_within c.args.capacity (g.D.Device.meaning c.args.device.now) c.in_ok-counters.ensures.0) c.in_ok-start.ensures
    (performs_make g.K.Kind.code c.args.capacity
    (c.head_bytes.ensures
    ∙ ap (λ x. head_of x c.in_ok-counters.counters.counts) c.kind_code.ensures
    ∙ ap (head_of g.K.Kind.code) c.in_ok-counters.ensures.1)
    c.write_register.ensures)
