use Rattle.journal.proofs.HeaderLaws.{headers_are_exact}
use Rattle.journal.proofs.laws.headers_are_exact.Goals as goal

pub returns : goal.returns
returns c = headers_are_exact
