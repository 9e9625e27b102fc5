use Rattle.std.proofs.Common.{◌+◌, ◌≤◌, ◌++◌, length, ap, ◌∙◌, arith, length-take-le}
use Rattle.items.specs.PaddedLaws.{stands_more, padded_more}
use Rattle.items.proofs.forms.Form.put.Goals as goal

fits : (c : goal.After-self-1) → c.self.inside.at + length c.args.bytes.now ≤ 60
fits c =
    let form = c.self.inside in
    let long = length-take-le form.at form.bytes (omega (arith, c.self.invariant.0, c.self.invariant.1)) in
    omega (arith, long, ap length c.self.view_is, c.requires)

pub invariant_of-self : goal.invariant_of-self
invariant_of-self c = padded_more 60 _ _ _ _ c.self.invariant (fits c) c.put.ensures

pub returns : goal.returns
returns c =
    stands_more 60 _ _ _ _ c.self.invariant (fits c) c.put.ensures ∙ ap (λ l. l ++ c.args.bytes.now) c.self.view_is
