-- The worked examples, in one list.
-- Assumes nothing.
use Rattle.items.specs.Examples as items
use Rattle.words.specs.Laws as words
use Rattle.pairing.specs.Example.{Worked}
use Rattle.fairness.specs.Laws as fairness

pub record Examples (X : Type 0) : Type 0 where
  -- two draws at width 3
  pub draws : words.Examples
  -- capacity 2 and the words 2 and 0: Store 10, 11, 12, 13, Take 11, Take 10
  pub run : Worked X
  -- its weights, and its 12 draw lists
  pub lists : fairness.Example X
  -- two codes and two days
  pub labels : items.Examples
