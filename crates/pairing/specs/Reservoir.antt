-- The reservoir and its two steps, as published: random pairing by Gemulla, Lehner and Haas (2006), and Vitter's Algorithm R (1985)
-- while there is no deletion to compensate.
-- Assumes nothing.
use Rattle.std.specs.Prelude.{ℕ, ◌+◌, ◌-◌, Bool, false, cond, not, ◌&&◌, ◌||◌, List, [], ◌∷◌, ◌++◌, length, take, Some, None, Option, ◌==◌, nat_lt, slice_index_or, slice_set}
use Rattle.std.specs.Option.{option_map}
use Rattle.pairing.specs.declared.Effect.{Effect}
use Rattle.pairing.specs.declared.Effect.TheVariants.{Enters, Replaces, StaysOut}

-- a place of the sample: a pack number and its item
pub record Slot (X : Type 0) : Type 0 where
  pub number : ℕ
  pub item : X

pub record Reservoir (X : Type 0) : Type 0 where
  -- at most so many packs are sampled (M)
  pub capacity : ℕ
  -- the pack numbers in stock, and how many they are (N)
  pub stock : ℕ → Bool
  pub size : ℕ
  -- the sample, its slots counted from 0
  pub slots : List (Slot X)
  -- the deletions not yet compensated: of packs in the sample, and of packs out of it
  pub c1 : ℕ
  pub c2 : ℕ
  -- the calls committed (q), and the words that they used (w)
  pub calls : ℕ
  pub words : ℕ

abbrev pub empty : {X : Type 0} → ℕ → Reservoir X
empty m = record { capacity = m; stock = λ p. false; size = 0; slots = []; c1 = 0; c2 = 0; calls = 0; words = 0 }

-- the set with p, and without it
abbrev pub with : (ℕ → Bool) → ℕ → ℕ → Bool
with s p n = n == p || s n

abbrev pub without : (ℕ → Bool) → ℕ → ℕ → Bool
without s p n = not (n == p) && s n

-- ---- the rule of a store, over the counters

-- among how many values a store draws: the deletions to compensate; else 1 while the sample fills; else one more than the stock
abbrev pub width_of : (capacity size c1 c2 : ℕ) → ℕ
width_of m n c1 c2 = cond (nat_lt 0 (c1 + c2)) (c1 + c2) (cond (nat_lt n m) 1 (n + 1))

-- what a draw does
abbrev pub effect_of : (capacity size c1 c2 draw : ℕ) → Effect
effect_of m n c1 c2 d =
    cond (nat_lt 0 (c1 + c2)) (cond (nat_lt d c1) Enters StaysOut) (cond (nat_lt n m) Enters (cond (nat_lt d m) (Replaces d) StaysOut))

abbrev pub width : {X : Type 0} → Reservoir X → ℕ
width r = width_of r.capacity r.size r.c1 r.c2

abbrev pub effect : {X : Type 0} → Reservoir X → ℕ → Effect
effect r d = effect_of r.capacity r.size r.c1 r.c2 d

-- the sample after a store of the slot x
abbrev pub placed : {X : Type 0} → Effect → List (Slot X) → Slot X → List (Slot X)
placed Enters slots x = slots ++ x ∷ []
placed (Replaces i) slots x = slice_set slots i x
placed StaysOut slots x = slots

-- the slot that a store fills
abbrev pub filled_by : {X : Type 0} → Effect → List (Slot X) → Option ℕ
filled_by Enters slots = Some (length slots)
filled_by (Replaces i) slots = Some i
filled_by StaysOut slots = None

-- the counters after a store: a compensated deletion is one less (with none to compensate both counters are 0, and 0 - 1 is 0)
abbrev pub c1_after : ℕ → Effect → ℕ
c1_after c1 Enters = c1 - 1
c1_after c1 (Replaces i) = c1
c1_after c1 StaysOut = c1

abbrev pub c2_after : ℕ → Effect → ℕ
c2_after c2 Enters = c2
c2_after c2 (Replaces i) = c2
c2_after c2 StaysOut = c2 - 1

-- Store of a pack, with the draw and the words that it used
unfoldable pub store : {X : Type 0} → Reservoir X → ℕ → X → ℕ → ℕ → Reservoir X
store r number item draw used = record {
  capacity = r.capacity;
  stock = with r.stock number;
  size = r.size + 1;
  slots = placed (effect r draw) r.slots (record { number = number; item = item });
  c1 = c1_after r.c1 (effect r draw);
  c2 = c2_after r.c2 (effect r draw);
  calls = r.calls + 1;
  words = r.words + used;
}

-- ---- the rule of a take

-- the slot of a number
abbrev pub slot_of : {X : Type 0} → List (Slot X) → ℕ → Option ℕ
slot_of [] p = None
slot_of (x ∷ xs) p = cond (x.number == p) (Some 0) (option_map (λ i. 1 + i) (slot_of xs p))

-- the sample without slot i: the last slot moves into it
abbrev pub freed : {X : Type 0} → List (Slot X) → ℕ → List (Slot X)
freed [] i = []
freed (x ∷ xs) i = take (length xs) (slice_set (x ∷ xs) i (slice_index_or (x ∷ xs) (length xs) x))

abbrev pub slots_after : {X : Type 0} → List (Slot X) → Option ℕ → List (Slot X)
slots_after slots (Some i) = freed slots i
slots_after slots None = slots

abbrev pub one_more_if : {A : Type 0} → Option A → ℕ → ℕ
one_more_if (Some i) n = n + 1
one_more_if None n = n

abbrev pub one_more_unless : {A : Type 0} → Option A → ℕ → ℕ
one_more_unless (Some i) n = n
one_more_unless None n = n + 1

-- Take of a pack
unfoldable pub taken : {X : Type 0} → Reservoir X → ℕ → Reservoir X
taken r number = record {
  capacity = r.capacity;
  stock = without r.stock number;
  size = r.size - 1;
  slots = slots_after r.slots (slot_of r.slots number);
  c1 = one_more_if (slot_of r.slots number) r.c1;
  c2 = one_more_unless (slot_of r.slots number) r.c2;
  calls = r.calls + 1;
  words = r.words;
}
