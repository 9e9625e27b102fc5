use Rattle.std.proofs.Common.{rules}
use Rattle.journal.specs.Header.{header_of}
use Rattle.journal.proofs.headers.Header.read.Goals as goal

pub returns-in-Some : goal.returns-in-Some
unfolding header_of
returns-in-Some c = search rules

pub returns-in-None : goal.returns-in-None
unfolding header_of
returns-in-None c = search rules
