use Rattle.std.proofs.Common.{◌≡◌, ◌≤◌, length, Err, sym, refl, ap, ◌∙◌, subst, arith, rules}
use Rattle.plans.specs.Views.{viewed}
use Rattle.reader.specs.Reads.{Gathered}
use Rattle.layout.proofs.SlotLaws.{slots_exact}
use Rattle.layout.specs.Reading.{first_of, slots_fault, spelled}
use Rattle.reader.proofs.Wholes.{few_sampled, first_lost, head_lost, head_read, stock_lost, stock_is, count_lost, slots_lost, all_read, read_exit, finds}
use Rattle.reader.proofs.through.read_through.Goals as goal

pub returns-in_err-bytes : goal.returns-in_err-bytes
returns-in_err-bytes g c = λ s.
    let view = viewed (g.D.Device.meaning c.args.view.now.device.now) c.args.view.now.first c.args.view.now.targets.now in
    read_exit _ _ _ c.from_residual.ensures.1 (first_lost g.K.Kind.code g.K.Kind.reading view _ (c.in_err-bytes.ensures s (omega arith)))

pub returns-in_err-counters : goal.returns-in_err-counters
returns-in_err-counters g c = λ s.
    let view = viewed (g.D.Device.meaning c.args.view.now.device.now) c.args.view.now.first c.args.view.now.targets.now in
    let got = c.in_ok-bytes.ensures s (omega arith) in
    read_exit _ _ _ c.from_residual-in_err-counters.ensures.1
    (head_lost g.K.Kind.code g.K.Kind.reading view _ _ c.kind_code.ensures got _ c.in_err-counters.ensures)

pub returns-in_err-stock : goal.returns-in_err-stock
returns-in_err-stock g c = λ s.
    let view = viewed (g.D.Device.meaning c.args.view.now.device.now) c.args.view.now.first c.args.view.now.targets.now in
    let got = c.in_ok-bytes.ensures s (omega arith) in
    let h = head_read g.K.Kind.code g.K.Kind.reading view _ _ c.kind_code.ensures got _ c.in_ok-counters.ensures in
    read_exit _ _ _ c.from_residual-in_err-stock.ensures.1
    (stock_lost g.K.Kind.code g.K.Kind.reading view _ _ h (c.in_err-stock.ensures s))

pub returns-then-count-from : goal.returns-then-count-from
returns-then-count-from g c = λ s.
    let view = viewed (g.D.Device.meaning c.args.view.now.device.now) c.args.view.now.first c.args.view.now.targets.now in
    let got = c.in_ok-bytes.ensures s (omega arith) in
    let h = head_read g.K.Kind.code g.K.Kind.reading view _ _ c.kind_code.ensures got _ c.in_ok-counters.ensures in
    count_lost
    g.K.Kind.code
    g.K.Kind.reading
    view
    _
    h
    _
    (c.in_ok-stock.ensures s)
    (λ q. c.if-count-from.true (c.count.ensures ∙ q ∙ sym (c.from.ensures ∙ ap (λ n. n.size) c.get-counts.ensures)))
    ∙ ap Err (sym c.not_register.ensures)

pub returns-in_err-sampled : goal.returns-in_err-sampled
returns-in_err-sampled g c = λ s.
    let view = viewed (g.D.Device.meaning c.args.view.now.device.now) c.args.view.now.first c.args.view.now.targets.now in
    let got = c.in_ok-bytes.ensures s (omega arith) in
    let h = head_read g.K.Kind.code g.K.Kind.reading view _ _ c.kind_code.ensures got _ c.in_ok-counters.ensures in
    let few : c.get-counts.result.sampled ≤ 512 = few_sampled _ c.in_ok-counters.counters c.get-counts.ensures in
    let stock = stock_is g.K.Kind.code g.K.Kind.reading view _ h _ (c.in_ok-stock.ensures s) in
    read_exit
    _
    _
    _
    c.from_residual-in_err-sampled.ensures.1
    (slots_lost
    g.K.Kind.code
    g.K.Kind.reading
    view
    _
    h
    _
    (c.in_ok-stock.ensures s)
    (sym c.count.ensures ∙ c.if-count-from.false ∙ c.from.ensures ∙ ap (λ n. n.size) c.get-counts.ensures)
    _
    (ap (λ n. first_of (slots_fault g.K.Kind.reading view n.sampled) 0 64) (sym c.get-counts.ensures) ∙ c.in_err-sampled.ensures s few stock))

pub returns : goal.returns
returns g c =
    let long : length c.in_ok-sampled.sampled.numbers ≡ 512 = search rules in
    λ s.
    let view = viewed (g.D.Device.meaning c.args.view.now.device.now) c.args.view.now.first c.args.view.now.targets.now in
    let got = c.in_ok-bytes.ensures s (omega arith) in
    let h = head_read g.K.Kind.code g.K.Kind.reading view _ _ c.kind_code.ensures got _ c.in_ok-counters.ensures in
    let few : c.get-counts.result.sampled ≤ 512 = few_sampled _ c.in_ok-counters.counters c.get-counts.ensures in
    let stock = stock_is g.K.Kind.code g.K.Kind.reading view _ h _ (c.in_ok-stock.ensures s) in
    let slots = c.in_ok-sampled.ensures s few stock in
    let none = ap (λ n. first_of (slots_fault g.K.Kind.reading view n.sampled) 0 64) (sym c.get-counts.ensures) ∙ slots.0 in
    let small : c.in_ok-counters.counters.counts.sampled ≤ 512 = few_sampled c.in_ok-counters.counters.counts c.in_ok-counters.counters refl in (
      spelled g.K.Kind.reading view,
      all_read
          g.K.Kind.code
          g.K.Kind.reading
          view
          _
          h
          _
          (c.in_ok-stock.ensures s)
          (sym c.count.ensures ∙ c.if-count-from.false ∙ c.from.ensures ∙ ap (λ n. n.size) c.get-counts.ensures)
          none,
      finds
          g.K.Kind.form
          g.K.Kind.reading
          view
          _
          small
          h.is
          stock
          long
          (slots_exact g.K.Kind.form g.K.Kind.reading g.met.K.Kind.sized g.met.K.Kind.exact view _ small none)
          (subst (λ n. Gathered view n.sampled 512 c.in_ok-sampled.sampled) c.get-counts.ensures slots.1),
    )
