use Rattle.std.proofs.Common.{refl}
use Rattle.words.proofs.Examples.{examples}
use Rattle.pairing.proofs.Examples.{worked}
use Rattle.fairness.proofs.Examples.{example_holds}
use Rattle.session.proofs.laws.examples_hold.Goals as goal

pub returns : goal.returns
returns g c = record {
  draws = examples;
  run = worked _;
  lists = example_holds;
  labels = record { right_digit = refl; wrong_digit = refl; leap_year = refl; other_year = refl };
}
