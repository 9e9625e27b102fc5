use Rattle.std.proofs.Common.{◌≡◌, ◌<◌, ◌≤◌, IfOk, sym, ap, ◌∙◌, subst, arith}
use Rattle.fault.specs.Refusals.{no_draw}
use Rattle.std.specs.Option.{ok_or}
use Rattle.words.specs.Draws.{addressable, draw_of}
use Rattle.words.proofs.Results.{draw_near, made_within}
use Rattle.words.proofs.draws.draw.Goals as goal

pub returns : goal.returns
returns g c =
    let words = g.S.Source.words c.args.source.now in
    let width = c.args.width.value in
    let place = c.args.place in
    let value : c.ok_or.result ≡ ok_or (draw_of (addressable words) width place) no_draw = simp (c.ok_or.ensures.value, c.look.ensures) in
    record {
      value = value;
      lawful = λ near. value ∙ ap (λ o. ok_or o no_draw) (draw_near words width place (omega arith));
      within = subst (λ r. IfOk r (λ d. (d.value < width) × (d.used ≤ 64))) (sym value) (made_within (addressable words) width place no_draw (omega arith));
    }
