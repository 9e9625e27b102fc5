-- What the parts of a store work out: its draw, the counters after it, and the bytes of the block of its slot.
-- Assumes nothing.
use Rattle.std.specs.Prelude.{◌≡◌, ℕ, ◌<◌, false, List, Some, None, Ok, Option, Result}
use Rattle.std.specs.Option.{ok_or}
use Rattle.fault.specs.Refusals.{no_draw}
use Rattle.fault.specs.declared.Fault.{Fault}
use Rattle.words.specs.Draws.{draw_of}
use Rattle.words.specs.declared.draws.Drawn.{Drawn}
use Rattle.pairing.specs.Reservoir.{Reservoir, width}
use Rattle.pairing.specs.Steps.{width_at, after_store}
use Rattle.pairing.specs.declared.counts.Counts.{Counts}
use Rattle.layout.specs.Layout.{with_slot}
use Rattle.plans.specs.Plans.{Plan, StoreAnswer, and_then, storing}

-- a block with new bytes in the slot, if there is one
abbrev pub slotted : List ℕ → Option ℕ → List ℕ → List ℕ
slotted block None new = block
slotted block (Some i) new = with_slot block i new

-- the draw of a store at these numbers
abbrev pub draw_at : (ℕ → Option ℕ) → Counts → Result Drawn Fault
draw_at words n = ok_or (draw_of words (width_at n) n.words) no_draw

-- a store draws, and its numbers go on from n
pub record Stepped (words : ℕ → Option ℕ) (n before after : Counts) (width : ℕ) (drawn : Drawn) : Type 0 where
  pub from : before ≡ n
  pub wide : width ≡ width_at n
  pub draws : draw_at words n ≡ Ok drawn
  pub to : after ≡ after_store n drawn

-- a store of the number can be made
pub record Accepts {X : Type 0} (r : Reservoir X) (number : ℕ) : Type 0 where
  pub low : number < 32768
  pub outside : r.stock number ≡ false
  pub early : r.calls < 4294967295

-- the rest of the plan, once a store can be made
abbrev pub drawn_plan : {X : Type 0} → ℕ → (X → List ℕ) → Reservoir X → ℕ → X → (ℕ → Option ℕ) → Result (Plan StoreAnswer) Fault
drawn_plan code form r number item words =
    and_then (ok_or (draw_of words (width r) r.words) no_draw) (λ drawn. Ok (storing code form r number item drawn))
