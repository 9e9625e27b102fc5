use Rattle.std.proofs.Common.{◌≡◌, Ok, IsErrAnd, MatchResult, of_calls}
use Rattle.fault.specs.Refusals.{offline}
use Rattle.journal.proofs.Writes.{runs_answered}
use Rattle.journal.proofs.runs.write_one.Goals as goal

pub returns : goal.returns
returns g c =
    let h : MatchResult c.write.result (λ x. c.map_err.result ≡ Ok x) (λ _. IsErrAnd c.map_err.result (λ f. f ≡ offline c.args.write.now.block)) = search of_calls in
    runs_answered {w = c.args.write.now} _ c.write.ensures h
