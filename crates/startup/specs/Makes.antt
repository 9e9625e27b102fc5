-- The parts of a Make.
-- Assumes nothing.
use Rattle.std.specs.Prelude.{◌≡◌, ℕ, List, [], ◌∷◌, ◌++◌, map, Result, MatchResult}
use Rattle.std.specs.List.{range_with_len}
use Rattle.fault.specs.Refusals.{bad_capacity}
use Rattle.fault.specs.declared.Fault.{Fault}
use Rattle.pairing.specs.Ranges.{Limits, no_counts}
use Rattle.pairing.specs.declared.counters.Counters.{Counters}
use Rattle.journal.specs.Header.{free_bytes}
use Rattle.journal.specs.Writes.{write_at}
use Rattle.journal.specs.declared.Write.{Write}
use Rattle.plans.specs.Plans.{zero_block}

-- the counters of an empty register, or the refusal of its capacity
abbrev pub Empty : ℕ → Result Counters Fault → Type 0
Empty m r = MatchResult r (λ c. Limits (no_counts m) × (c.counts ≡ no_counts m)) (λ f. (Limits (no_counts m) → ⊥) × (f ≡ bad_capacity))

-- ---- the writes

-- the head as zeros, and a free header
abbrev pub first_two : List Write
first_two = zero_block 0 ∷ (write_at 1 free_bytes ∷ [])

-- zeros into n blocks from b on
unfoldable pub zero_writes : ℕ → ℕ → List Write
zero_writes b n = map zero_block (range_with_len b n)

-- all of them, the last with this head
unfoldable pub writes_with : List ℕ → List Write
writes_with head = first_two ++ (zero_writes 6 72 ++ (write_at 0 head ∷ []))
