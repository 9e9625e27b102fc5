-- What a line answers, by its shape: exactly when which transaction, and exactly when which refusal.
-- Assumes nothing.
use Rattle.std.specs.Prelude.{◌≡◌, ℕ, ◌<◌, ◌≤◌, ◌⊎◌, ◌↔◌, List, Ok, Err, Result}
use Rattle.fault.specs.declared.Fault.{Fault}
use Rattle.fault.specs.Refusals.{number_too_large, unlawful, not_transaction}
use Rattle.items.specs.Labels.{label}
use Rattle.lines.specs.declared.Transaction.{Transaction}
use Rattle.lines.specs.declared.Transaction.TheVariants.{Store, Take}
use Rattle.lines.specs.Grammar.{Takes, Stores, Shaped, Misfit, value, present}

-- s says t
abbrev pub Says : List ℕ → Transaction → Type 0
Says s (Take n) = (number : List ℕ) × Takes s number × (value number ≡ n) × (n ≤ 32767)
Says s (Store n l) =
    (number : List ℕ) × (code : List ℕ) × (batch : List ℕ) × (expiry : List ℕ)
    × Stores s number code batch expiry × (value number ≡ n) × (n ≤ 32767) × (label code (present batch) (present expiry) ≡ Ok l)

-- s is a transaction by its shape, with a number above 32,767
abbrev pub TooLarge : List ℕ → Type 0
TooLarge s =
    (number : List ℕ) × (32767 < value number)
    × (Takes s number ⊎ ((code : List ℕ) × (batch : List ℕ) × (expiry : List ℕ) × Stores s number code batch expiry))

-- s is a store by its shape, with a good number and a label whose section k is unlawful
abbrev pub Unlawful : List ℕ → ℕ → Type 0
Unlawful s k =
    (number : List ℕ) × (code : List ℕ) × (batch : List ℕ) × (expiry : List ℕ)
    × Stores s number code batch expiry × (value number ≤ 32767) × (label code (present batch) (present expiry) ≡ Err (unlawful k))

-- r is refusal 13 exactly where s misfits, and each line that has not the shape misfits somewhere
unfoldable pub MisfitLaw : List ℕ → Result Transaction Fault → Type 0
MisfitLaw s r = ((p : ℕ) → (r ≡ Err (not_transaction p)) ↔ Misfit s p) × ((Shaped s → ⊥) → (p : ℕ) × Misfit s p)

-- r is a transaction exactly where s says it, refusal 5 exactly for a number too large, and 8 exactly for an unlawful label
unfoldable pub ShapedLaw : List ℕ → Result Transaction Fault → Type 0
ShapedLaw s r =
    ((t : Transaction) → (r ≡ Ok t) ↔ Says s t)
    × ((r ≡ Err number_too_large) ↔ TooLarge s) × ((k : ℕ) → (r ≡ Err (unlawful k)) ↔ Unlawful s k)
