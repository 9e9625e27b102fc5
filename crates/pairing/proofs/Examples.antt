-- The worked example. Assumes nothing.
use Rattle.std.proofs.Common.{refl, arith}
use Rattle.words.proofs.Limits.{small_is_drawn}
use Rattle.words.proofs.Looks.{draw_sure}
use Rattle.pairing.specs.Reservoir.{store, taken}
use Rattle.pairing.specs.Example.{Worked}

pub worked : (X : Type 0) → Worked X
unfolding store taken
worked X = record {
  first = λ words. draw_sure words 1 0 refl;
  second = λ words a. draw_sure words 1 0 refl;
  third = λ words a b is. small_is_drawn words 3 0 2 (omega arith) (omega arith) is (omega arith);
  fourth = λ words a b c is. small_is_drawn words 4 1 0 (omega arith) (omega arith) is (omega arith);
  slots = λ a b c d. refl;
  size = λ a b c d. refl;
  c1 = λ a b c d. refl;
  c2 = λ a b c d. refl;
  calls = λ a b c d. refl;
  words = λ a b c d. refl;
}
