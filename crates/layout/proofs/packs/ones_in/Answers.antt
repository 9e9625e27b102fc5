use Rattle.std.proofs.Common.{◌*◌, ◌≤◌, length, sum_by, arith, rules, tests}
use lib.Count.{ones}
use Rattle.std.proofs.lemmas.Nat.{ones-le}
use Rattle.std.proofs.lemmas.List.{get_or_default}
use Rattle.std.proofs.lemmas.Iterator.{YieldsList-from_slice, YieldsList-from_map}
use Rattle.std.proofs.lemmas.Iterator.Consumers.{sum_by_from_yields_List, fits_by_from_yields_list}
use Rattle.std.proofs.lemmas.List.Sums.{sum_by-le}
use Rattle.layout.specs.Reading.{ones_in}
use Rattle.layout.proofs.packs.ones_in.Goals as goal

pub sum-requires-clause-fits : goal.sum-requires-clause-fits
sum-requires-clause-fits c =
    let xs = c.args.bytes.now in
    let most : sum_by ones xs ≤ length xs * 8 = sum_by-le ones 8 xs (λ k d h. ones-le 8 _ (omega (arith, get_or_default xs k d 0 h, c.fits-bytes k))) in
    fits_by_from_yields_list ones xs c.map.result _
    (YieldsList-from_map _ ones (YieldsList-from_slice xs cc) c.map.ensures.closure (λ x r q k. search (rules, tests)))
    (omega (arith, most, c.told-bytes))

pub returns : goal.returns
unfolding ones_in
returns c =
    let xs = c.args.bytes.now in
    sum_by_from_yields_List ones xs c.map.result c.sum.result c.sum.ensures.ran
    (YieldsList-from_map _ ones (YieldsList-from_slice xs cc) c.map.ensures.closure (λ x r q k. search (rules, tests)))
