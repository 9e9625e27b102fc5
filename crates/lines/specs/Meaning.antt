-- What a line says: its fields, and the transaction that they make; or the refusal.
-- Assumes nothing.
use Rattle.std.specs.Prelude.{ℕ, zero, suc, ◌+◌, Bool, cond, ◌&&◌, ◌||◌, List, [], ◌∷◌, length, take, drop, Ok, Err, Result, ◌==◌, nat_le, slice_index, slice_index_or}
use Rattle.fault.specs.declared.Fault.{Fault}
use Rattle.fault.specs.Refusals.{number_too_large, not_transaction}
use Rattle.items.specs.Labels.{label}
use Rattle.lines.specs.declared.Field.{Field}
use Rattle.lines.specs.declared.Field.TheVariants.{Number, Code, Batch, Expiry}
use Rattle.lines.specs.declared.Transaction.{Transaction}
use Rattle.lines.specs.declared.Transaction.TheVariants.{Store, Take}
use Rattle.lines.specs.Grammar.{fits, least, most, optional, value, present}

-- the first refusal, or what goes on from the value
abbrev pub then : {X Y : Type 0} → Result X Fault → (X → Result Y Fault) → Result Y Fault
then (Ok x) k = k x
then (Err e) k = Err e

-- refusal 13 at a byte of the line
abbrev pub misfit : {X : Type 0} → ℕ → Result X Fault
misfit at = Err (not_transaction at)

-- ---- fields; s is the rest of the line from its byte `at` on

-- how many bytes at the front of s fit f, up to n
abbrev pub run : Field → ℕ → List ℕ → ℕ
run f zero s = 0
run f (suc n) [] = 0
run f (suc n) (b ∷ s) = cond (fits f b) (suc (run f n s)) 0

-- whether - stands for the field f at the front of s
abbrev pub dash : Field → List ℕ → Bool
dash f s = optional f && slice_index s 0 == 45

-- where the field f at the front of s ends
abbrev pub front : Field → ℕ → List ℕ → Result ℕ Fault
front f at s =
    cond (dash f s) (Ok 1) (cond (nat_le (least f) (run f (most f) s)) (Ok (run f (most f) s)) (misfit (at + run f (most f) s)))

-- the field x with what is behind the space at the front of s, and where that begins
abbrev pub behind : List ℕ → ℕ → List ℕ → Result (List ℕ × ℕ × List ℕ) Fault
behind x at [] = misfit at
behind x at (b ∷ s) = cond (b == 32) (Ok (x, at + 1, s)) (misfit at)

-- the field f at the front of s, with what is behind the space after it
abbrev pub spaced : Field → ℕ → List ℕ → Result (List ℕ × ℕ × List ℕ) Fault
spaced f at s = then (front f at s) (λ n. behind (take n s) (at + n) (drop n s))

-- the field f that is all of s
abbrev pub last : Field → ℕ → List ℕ → Result (List ℕ) Fault
last f at s = then (front f at s) (λ n. cond (n == length s) (Ok s) (misfit (at + n)))

-- the fields of s: f, and then gs
abbrev pub cut : Field → List Field → ℕ → List ℕ → Result (List (List ℕ)) Fault
cut f [] at s = then (last f at s) (λ x. Ok (x ∷ []))
cut f (g ∷ gs) at s = then (spaced f at s) (λ x. then (cut g gs x.1 x.2) (λ xs. Ok (x.0 ∷ xs)))

-- ---- the transaction that they make

-- the pack number that digits write
abbrev pub numbered : List ℕ → Result ℕ Fault
numbered xs = cond (nat_le (value xs) 32767) (Ok (value xs)) (Err number_too_large)

abbrev pub take_of : List ℕ → Result Transaction Fault
take_of number = then (numbered number) (λ n. Ok (Take n))

abbrev pub store_of : List ℕ → List ℕ → List ℕ → List ℕ → Result Transaction Fault
store_of number code batch expiry =
    then (numbered number) (λ n. then (label code (present batch) (present expiry)) (λ l. Ok (Store n l)))

-- behind `T `
abbrev pub taken : List ℕ → Result Transaction Fault
taken s = then (cut Number [] 2 s) (λ xs. take_of (slice_index_or xs 0 []))

-- behind `S `
abbrev pub stored : List ℕ → Result Transaction Fault
stored s =
    then (cut Number (Code ∷ Batch ∷ Expiry ∷ []) 2 s) (λ xs. store_of (slice_index_or xs 0 []) (slice_index_or xs 1 []) (slice_index_or xs 2 []) (slice_index_or xs 3 []))

-- behind the letter c
abbrev pub lettered : ℕ → List ℕ → Result Transaction Fault
lettered c [] = misfit 1
lettered c (b ∷ s) = cond (b == 32) (cond (c == 83) (stored s) (taken s)) (misfit 1)

unfoldable pub meaning : List ℕ → Result Transaction Fault
meaning [] = misfit 0
meaning (c ∷ s) = cond (c == 83 || c == 84) (lettered c s) (misfit 0)
