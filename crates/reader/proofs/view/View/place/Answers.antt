use Rattle.std.proofs.Common.{Some, None, sym, refl, subst, rules}
use Rattle.std.specs.Slice.Iter.{iter_steps_back, iter_rest}
use Rattle.reader.proofs.LastPlaces.{LastOwn, none_own, last_own, last_found, from_back}
use Rattle.reader.proofs.view.View.place.Goals as goal

pub returns-in-Some : goal.returns-in-Some
returns-in-Some g c =
    let s = c.iter.result in
    let b = c.args.block in
    let own : LastOwn (iter_rest s) b c.rposition.result =
    last_found (iter_rest s) b {steps = iter_steps_back} {v = λ y. y.now} {s = s} _ c.rposition.result c.rposition.ensures.ran
    (from_back (iter_rest s) s refl) (λ x t q h. search rules) c.rposition.ensures.bound in
    last_own b b c.args.self.now.first c.args.self.now.targets.now c.in-Some.i _ c.image.ensures.first c.image.ensures.later
    (subst (λ ts. LastOwn ts b (Some c.in-Some.i)) c.iter.ensures.rest (subst (LastOwn (iter_rest s) b) c.in-Some.is own))

pub returns-in-None : goal.returns-in-None
returns-in-None g c =
    let s = c.iter.result in
    let b = c.args.block in
    let own : LastOwn (iter_rest s) b c.rposition.result =
    last_found (iter_rest s) b {steps = iter_steps_back} {v = λ y. y.now} {s = s} _ c.rposition.result c.rposition.ensures.ran
    (from_back (iter_rest s) s refl) (λ x t q h. search rules) c.rposition.ensures.bound in
    sym
    (none_own b b c.args.self.now.first c.args.self.now.targets.now
    (subst (λ ts. LastOwn ts b None) c.iter.ensures.rest (subst (LastOwn (iter_rest s) b) c.in-None.is own)))
