-- What the intake of a scan answers, and what it leaves in the table and in the buffer.
-- Assumes nothing.
use Rattle.std.specs.Prelude.{ℕ, Bool, cond, ◌||◌, List, ◌++◌, length, drop, Ok, Err, Result, nat_lt}
use Rattle.fault.specs.declared.Fault.{Fault}
use Rattle.fault.specs.Refusals.{too_short}
use Rattle.intake.specs.Field.{zeros}
use Rattle.intake.specs.Lines.{Entry, entries}

-- the table has fewer entries than there are lines to fill
abbrev pub overfull : List ℕ → List Entry → Bool
overfull input table = nat_lt (length table) (length (entries input))

-- the buffer has no room for the field, or the table is overfull
abbrev pub refused : List ℕ → List ℕ → List Entry → Bool
refused input buffer table = nat_lt (length buffer) 100 || overfull input table

abbrev pub answer : Bool → List ℕ → Result ℕ Fault
answer refuses input = cond refuses (Err too_short) (Ok (length (entries input)))

-- the entries of the lines, and behind them what the table had there
abbrev pub filled : Bool → List ℕ → List Entry → List Entry
filled refuses input table = cond refuses table (entries input ++ drop (length (entries input)) table)

-- the field, the first 100 bytes, is zeros; a buffer with no room for it is as it was
abbrev pub wiped : List ℕ → List ℕ
wiped buffer = cond (nat_lt (length buffer) 100) buffer (zeros ++ drop 100 buffer)
