use Rattle.pairing.proofs.Apart.{distinct_slots}
use Rattle.pairing.proofs.laws.slots_are_distinct.Goals as goal

pub returns : goal.returns
returns g c = distinct_slots _
