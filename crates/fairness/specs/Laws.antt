-- The counting law: under how many draw lists each group of packs is the sample.
-- Assumes nothing.
use Rattle.std.specs.Prelude.{◌≡◌, ℕ, zero, suc, ◌+◌, ◌-◌, ◌*◌, ◌≤◌, min, Bool, true, false, cond, not, ◌&&◌, ◌||◌, List, [], ◌∷◌, length, ◌==◌, nat_lt}
use Rattle.std.specs.Bool.{beq}
use Rattle.pairing.specs.Reservoir.{Slot, Reservoir, empty, with, width, width_of}
use Rattle.pairing.specs.Rules.{bit, count_below}
use Rattle.fairness.specs.Histories.{Call, Store, Take, Possible, stock_after, size_after, due_after, widths, draw_lists, count, same, run, admits}

-- ---- found: the group is the sample

-- whether a pack is in a slot
abbrev pub holds : {X : Type 0} → List (Slot X) → ℕ → Bool
holds [] q = false
holds (x ∷ xs) q = x.number == q || holds xs q

-- whether all numbers below n pass a test (pack numbers are below 32,768)
unfoldable pub every : (ℕ → Bool) → ℕ → Bool
every test zero = true
every test (suc n) = test n && every test n

-- whether each pack in stock is in a slot exactly when the group has it
abbrev pub found : {X : Type 0} → (ℕ → Bool) → Reservoir X → Bool
found group r = every (λ q. not (r.stock q) || beq (holds r.slots q) (group q)) 32768

-- ---- weights

-- the number of ways to choose k things out of n, by Pascal's rule
unfoldable pub choose : ℕ → ℕ → ℕ
choose n zero = 1
choose zero (suc k) = 0
choose (suc n) (suc k) = choose n k + choose n (suc k)

-- the weight of a group of s packs: in how many ways T - s things can be chosen out of D; 0 when s is above T
abbrev pub weight : (t d s : ℕ) → ℕ
weight t d s = cond (nat_lt t s) 0 (choose d (t - s))

-- what a store multiplies the count of each group by
abbrev pub factor : (m n d : ℕ) → ℕ
factor m n d = cond (nat_lt 0 d) d (cond (nat_lt n m) 1 (n + 1 - m))

-- the product over the stores, values before each (K)
abbrev pub product : {X : Type 0} → (m n d : ℕ) → List (Call X) → ℕ
product m n d [] = 1
product m n d (Store p x ∷ h) = factor m n d * product m (n + 1) (d - 1) h
product m n d (Take p ∷ h) = product m (n - 1) (d + 1) h

-- ---- a history from the empty reservoir on

abbrev pub none : ℕ → Bool
none p = false

-- its draw lists
abbrev pub draws : {X : Type 0} → ℕ → List (Call X) → List (List ℕ)
draws m h = draw_lists (widths m 0 0 h)

-- under how many of them the group is the sample at the end
abbrev pub times : {X : Type 0} → ℕ → List (Call X) → (ℕ → Bool) → ℕ
times m h group = count (λ ds. found group (run (empty m) h ds)) (draws m h)

-- the weight at the end of a group of s packs in stock: T is the smaller of M and N + D
abbrev pub weight_at : {X : Type 0} → ℕ → List (Call X) → ℕ → ℕ
weight_at m h s = weight (min m (size_after 0 h + due_after 0 h)) (due_after 0 h) s

-- the group's weight at the end, by how many packs in stock it has
abbrev pub weight_of : {X : Type 0} → ℕ → List (Call X) → (ℕ → Bool) → ℕ
weight_of m h group = weight_at m h (count_below (λ q. stock_after none h q && group q) 32768)

-- ---- the laws

-- every group is found under K times its weight many draw lists
abbrev pub Counting : Type 0 → Type 0
Counting X = (m : ℕ) (h : List (Call X)) → Possible none h → (group : ℕ → Bool) → times m h group ≡ product m 0 0 h * weight_of m h group

-- K is at least 1, so two groups are found equally often exactly when their weights are equal
abbrev pub Fair : Type 0 → Type 0
Fair X =
    (m : ℕ) (h : List (Call X)) → Possible none h →
    (1 ≤ product m 0 0 h)
    × ((a b : ℕ → Bool) → times m h a ≡ times m h b → weight_of m h a ≡ weight_of m h b)
    × ((a b : ℕ → Bool) → weight_of m h a ≡ weight_of m h b → times m h a ≡ times m h b)

-- each admissible draw list is enumerated once, and no other
abbrev pub Enumerated : Type 0 → Type 0
Enumerated X =
    (m : ℕ) (h : List (Call X)) → Possible none h → (ds : List ℕ) → count (same ds) (draws m h) ≡ bit (admits (empty m) h ds)

-- the stock, N, D and the width of a next store are those of the history; so which calls are possible next does not hang on the draws
pub record Settled {X : Type 0} (m : ℕ) (h : List (Call X)) (r : Reservoir X) : Type 0 where
  pub stock : (p : ℕ) → r.stock p ≡ stock_after none h p
  pub size : r.size ≡ size_after 0 h
  pub due : r.c1 + r.c2 ≡ due_after 0 h
  pub width : width r ≡ width_of m (size_after 0 h) (due_after 0 h) 0
  -- N counts the stock
  pub counted : r.size ≡ count_below r.stock 32768
  -- T is k + c1
  pub filled : length r.slots + r.c1 ≡ min m (size_after 0 h + due_after 0 h)

-- whatever is drawn; and so at each point of a longer history, as its calls so far are one
abbrev pub OnlyTheSampleIsDrawn : Type 0 → Type 0
OnlyTheSampleIsDrawn X =
    (m : ℕ) (h : List (Call X)) → Possible none h → (ds : List ℕ) → admits (empty m) h ds ≡ true → Settled m h (run (empty m) h ds)

-- found says that the packs in the slots are the packs in stock that the group has
abbrev pub FoundIsSameSet : Type 0 → Type 0
FoundIsSameSet X =
    (m : ℕ) (h : List (Call X)) → Possible none h → (ds : List ℕ) → admits (empty m) h ds ≡ true → (group : ℕ → Bool) →
    (found group (run (empty m) h ds) ≡ true → (q : ℕ) → holds (run (empty m) h ds).slots q ≡ (stock_after none h q && group q))
    × (((q : ℕ) → holds (run (empty m) h ds).slots q ≡ (stock_after none h q && group q)) → found group (run (empty m) h ds) ≡ true)

-- ---- a worked example, with capacity 2

abbrev pub example : {X : Type 0} → X → List (Call X)
example x = Store 10 x ∷ Store 11 x ∷ Store 12 x ∷ Store 13 x ∷ Take 11 ∷ Take 10 ∷ []

-- the draws 0, 0, 2 and 0
abbrev pub example_end : {X : Type 0} → X → Reservoir X
example_end x = run (empty 2) (example x) (0 ∷ 0 ∷ 2 ∷ 0 ∷ [])

-- they leave 13 in slot 0; sizes 0, 1, 2 weigh 1, 2, 1; of the 12 draw lists 2 leave the sample empty, 4 leave 12, 4 leave 13, 2 leave both
abbrev pub Example : Type 0 → Type 0
Example X =
    (x : X) →
    ((example_end x).slots ≡ record { number = 13; item = x } ∷ [])
    × ((example_end x).size ≡ 2) × ((example_end x).c1 ≡ 1) × ((example_end x).c2 ≡ 1)
    × (weight_at 2 (example x) 0 ≡ 1) × (weight_at 2 (example x) 1 ≡ 2) × (weight_at 2 (example x) 2 ≡ 1)
    × (length (draws 2 (example x)) ≡ 12)
    × (times 2 (example x) none ≡ 2)
    × (times 2 (example x) (with none 12) ≡ 4)
    × (times 2 (example x) (with none 13) ≡ 4)
    × (times 2 (example x) (with (with none 12) 13) ≡ 2)
