-- The comparison of two registers.
-- Assumes nothing.
use Rattle.std.specs.Prelude.{◌≡◌, ℕ, Bool, Ok, Err, Decides, Result, nat_lt}
use Rattle.fault.specs.declared.Fault.{Fault}
use Rattle.pairing.specs.Reservoir.{Reservoir}
use Rattle.pairing.specs.Rules.{occurs}
use Rattle.layout.specs.Reading.{in_set}
use Rattle.reader.specs.declared.Found.{Found}
use Rattle.register.specs.declared.comparing.SideFault.{SideFault}
use Rattle.register.specs.declared.comparing.SideFault.TheVariants.{Left, Right}

-- equal stock, and equal sets of sampled numbers
abbrev pub SamePacks : {X : Type 0} → Reservoir X → Reservoir X → Type 0
SamePacks a b = (p : ℕ) → (a.stock p ≡ b.stock p) × (nat_lt 0 (occurs p a.slots) ≡ nat_lt 0 (occurs p b.slots))

-- the answer of a comparison, where the left register reads as l and the right one as r
pub data Compared {X : Type 0} (l r : Result (Reservoir X) Fault) : Result Bool SideFault → Type 0 where
  -- the left is refused, whatever the right is
  refused_left : {f : Fault} → l ≡ Err f → Compared l r (Err (Left f))
  refused_right : {a : Reservoir X} {f : Fault} → l ≡ Ok a → r ≡ Err f → Compared l r (Err (Right f))
  -- both are registers
  compared : {a b : Reservoir X} {t : Bool} → l ≡ Ok a → r ≡ Ok b → Decides t (SamePacks a b) → Compared l r (Ok t)

-- the same for what was read of them: equal stock, and equal sets of numbers in stock that are not sampled
abbrev pub SameFound : Found → Found → Type 0
SameFound f g =
    ((p : ℕ) → in_set f.stock.bytes p ≡ in_set g.stock.bytes p)
    × ((p : ℕ) → in_set f.sampled.unsampled.bytes p ≡ in_set g.sampled.unsampled.bytes p)
