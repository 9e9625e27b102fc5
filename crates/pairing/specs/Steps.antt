-- How the calls move a reservoir's numbers, and when they can be made.
-- Assumes nothing.
use Rattle.std.specs.Prelude.{ℕ, ◌+◌, ◌-◌, ◌<◌, ◌≤◌, length, Some, None, Option}
use Rattle.words.specs.declared.draws.Drawn.{Drawn}
use Rattle.pairing.specs.declared.Effect.{Effect}
use Rattle.pairing.specs.declared.Effect.TheVariants.{Enters, Replaces, StaysOut}
use Rattle.pairing.specs.declared.counts.Counts.{Counts}
use Rattle.pairing.specs.Reservoir.{Reservoir, width_of, effect_of, c1_after, c2_after}

-- the numbers of a reservoir
abbrev pub counts_of : {X : Type 0} → Reservoir X → Counts
counts_of r = record {
  capacity = r.capacity;
  size = r.size;
  sampled = length r.slots;
  c1 = r.c1;
  c2 = r.c2;
  calls = r.calls;
  words = r.words;
}

abbrev pub width_at : Counts → ℕ
width_at n = width_of n.capacity n.size n.c1 n.c2

abbrev pub effect_at : Counts → ℕ → Effect
effect_at n draw = effect_of n.capacity n.size n.c1 n.c2 draw

-- the slot that a store fills, of k that are taken
abbrev pub filled_of : Effect → ℕ → Option ℕ
filled_of Enters k = Some k
filled_of (Replaces i) k = Some i
filled_of StaysOut k = None

abbrev pub filled_at : Counts → ℕ → Option ℕ
filled_at n draw = filled_of (effect_at n draw) n.sampled

-- how many slots are taken after a store
abbrev pub sampled_after : ℕ → Effect → ℕ
sampled_after k Enters = k + 1
sampled_after k (Replaces i) = k
sampled_after k StaysOut = k

-- the numbers after a store, after a take of a pack in the sample, and after a take of one out of it
abbrev pub after_store : Counts → Drawn → Counts
after_store n drawn = record {
  capacity = n.capacity;
  size = n.size + 1;
  sampled = sampled_after n.sampled (effect_at n drawn.value);
  c1 = c1_after n.c1 (effect_at n drawn.value);
  c2 = c2_after n.c2 (effect_at n drawn.value);
  calls = n.calls + 1;
  words = n.words + drawn.used;
}

abbrev pub after_take_in : Counts → Counts
after_take_in n = record {
  capacity = n.capacity;
  size = n.size - 1;
  sampled = n.sampled - 1;
  c1 = n.c1 + 1;
  c2 = n.c2;
  calls = n.calls + 1;
  words = n.words;
}

abbrev pub after_take_out : Counts → Counts
after_take_out n = record {
  capacity = n.capacity;
  size = n.size - 1;
  sampled = n.sampled;
  c1 = n.c1;
  c2 = n.c2 + 1;
  calls = n.calls + 1;
  words = n.words;
}

-- a call can be made: calls are numbered up to 4,294,967,295
abbrev pub CanCall : Counts → Type 0
CanCall n = n.calls < 4294967295

-- a store needs a number below 32,768 for its pack, a draw below the width, and at most 64 words
abbrev pub CanStore : Counts → Drawn → Type 0
CanStore n drawn = CanCall n × (width_at n ≤ 32768) × (drawn.value < width_at n) × (drawn.used ≤ 64)

-- a take in the sample needs a pack there, and one out of the sample a pack that is not in it
abbrev pub CanTakeIn : Counts → Type 0
CanTakeIn n = CanCall n × (0 < n.sampled)

abbrev pub CanTakeOut : Counts → Type 0
CanTakeOut n = CanCall n × (n.sampled < n.size)
