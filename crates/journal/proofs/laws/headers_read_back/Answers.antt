use Rattle.journal.proofs.HeaderLaws.{headers_read_back}
use Rattle.journal.proofs.laws.headers_read_back.Goals as goal

pub returns : goal.returns
returns c = headers_read_back
