use Rattle.journal.specs.Header.{free_bytes}
use Rattle.journal.proofs.headers.free_header.Goals as goal

pub returns : goal.returns
unfolding free_bytes
returns c = c.put.ensures
