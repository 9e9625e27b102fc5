use Rattle.journal.proofs.Puts.{images_in_place}
use Rattle.journal.proofs.laws.images_in_place.Goals as goal

pub returns : goal.returns
returns c = images_in_place
