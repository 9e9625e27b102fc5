use Rattle.std.proofs.Common.{◌≡◌, Ok, MatchResult, IsErrAnd, rules}
use Rattle.fault.specs.Refusals.{offline}
use Rattle.startup.proofs.Beginning.{came_or_stayed}
use Rattle.startup.proofs.start.bring_online.Goals as goal

pub returns : goal.returns
returns g c =
    let told : MatchResult c.bring_online.result (λ u. c.map_err.result ≡ Ok u) (λ x. IsErrAnd c.map_err.result (λ f. f ≡ offline 0)) =
    search rules in
    came_or_stayed _ _ c.bring_online.ensures told
