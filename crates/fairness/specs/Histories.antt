-- Histories of a reservoir, the draws of their stores, and what a history leaves whatever is drawn.
-- Assumes nothing.
use Rattle.std.specs.Prelude.{◌≡◌, ℕ, zero, suc, ◌+◌, ◌-◌, ◌<◌, Bool, true, false, ◌&&◌, List, [], ◌∷◌, ◌++◌, map, ◌==◌, nat_lt}
use Rattle.pairing.specs.Reservoir.{Reservoir, store, taken, with, without, width, width_of}
use Rattle.pairing.specs.Rules.{bit}

-- a pack is stored with its item, or taken
pub data Call (X : Type 0) : Type 0 where
  Store : ℕ → X → Call X
  Take : ℕ → Call X

-- ---- what a history leaves, whatever is drawn: calls stand in the order of time

-- each call is possible when it comes, from the stock on
abbrev pub Possible : {X : Type 0} → (ℕ → Bool) → List (Call X) → Type 0
Possible stock [] = Unit {0}
Possible stock (Store p x ∷ h) = (p < 32768) × (stock p ≡ false) × Possible (with stock p) h
Possible stock (Take p ∷ h) = (stock p ≡ true) × Possible (without stock p) h

-- the stock
abbrev pub stock_after : {X : Type 0} → (ℕ → Bool) → List (Call X) → ℕ → Bool
stock_after stock [] = stock
stock_after stock (Store p x ∷ h) = stock_after (with stock p) h
stock_after stock (Take p ∷ h) = stock_after (without stock p) h

-- how many packs are in stock (N)
abbrev pub size_after : {X : Type 0} → ℕ → List (Call X) → ℕ
size_after n [] = n
size_after n (Store p x ∷ h) = size_after (n + 1) h
size_after n (Take p ∷ h) = size_after (n - 1) h

-- how many deletions are not yet compensated (D = c1 + c2): a store compensates one, if there is one
abbrev pub due_after : {X : Type 0} → ℕ → List (Call X) → ℕ
due_after d [] = d
due_after d (Store p x ∷ h) = due_after (d - 1) h
due_after d (Take p ∷ h) = due_after (d + 1) h

-- among how many values each store draws, from capacity m, N and D on: the width hangs on D = c1 + c2 alone
abbrev pub widths : {X : Type 0} → (m n d : ℕ) → List (Call X) → List ℕ
widths m n d [] = []
widths m n d (Store p x ∷ h) = width_of m n d 0 ∷ widths m (n + 1) (d - 1) h
widths m n d (Take p ∷ h) = widths m (n - 1) (d + 1) h

-- ---- draw lists

-- the numbers below n
abbrev pub below : ℕ → List ℕ
below zero = []
below (suc n) = n ∷ below n

-- f of each element, one behind the other
abbrev pub each : {A B : Type 0} → (A → List B) → List A → List B
each f [] = []
each f (x ∷ xs) = f x ++ each f xs

-- all lists of draws with the i-th below the i-th width
abbrev pub draw_lists : List ℕ → List (List ℕ)
draw_lists [] = [] ∷ []
draw_lists (w ∷ ws) = each (λ d. map (λ ds. d ∷ ds) (draw_lists ws)) (below w)

-- how many elements pass a test
abbrev pub count : {A : Type 0} → (A → Bool) → List A → ℕ
count test [] = 0
count test (x ∷ xs) = bit (test x) + count test xs

abbrev pub same : List ℕ → List ℕ → Bool
same [] [] = true
same [] (y ∷ ys) = false
same (x ∷ xs) [] = false
same (x ∷ xs) (y ∷ ys) = x == y && same xs ys

-- ---- the run: each store takes the next draw (the words used do not matter to the sample: 0). A list that is too short ends it: none
-- that is counted is

abbrev pub run : {X : Type 0} → Reservoir X → List (Call X) → List ℕ → Reservoir X
run r [] ds = r
run r (Store p x ∷ h) [] = r
run r (Store p x ∷ h) (d ∷ ds) = run (store r p x d 0) h ds
run r (Take p ∷ h) ds = run (taken r p) h ds

-- the list has a draw for each store, each below the width that the reservoir has when it comes
abbrev pub admits : {X : Type 0} → Reservoir X → List (Call X) → List ℕ → Bool
admits r [] [] = true
admits r [] (d ∷ ds) = false
admits r (Store p x ∷ h) [] = false
admits r (Store p x ∷ h) (d ∷ ds) = nat_lt d (width r) && admits (store r p x d 0) h ds
admits r (Take p ∷ h) ds = admits (taken r p) h ds
