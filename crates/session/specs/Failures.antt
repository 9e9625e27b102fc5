-- Failure plans: which writes and which attempts to bring the device online fail, chosen without regard to any byte.
-- Assumes nothing.
use Rattle.std.specs.Prelude.{◌≡◌, ℕ, ◌+◌, Bool, true, false, List, [], ◌∷◌, Some, None, Option}
use Rattle.device.specs.Disk.{Event, write_done, write_lost, online_done, online_refused}
use Rattle.device.specs.declared.Remains.{Remains}

pub record Plan : Type 0 where
  -- how the n-th write leaves its block, where it is lost
  pub lost : ℕ → Option Remains
  -- whether the n-th attempt to bring the device online is refused
  pub refused : ℕ → Bool

-- these events are the plan's, after w writes and o attempts
pub data ByPlan (plan : Plan) : (w o : ℕ) → List Event → Type 0 where
  end : {w o : ℕ} → ByPlan plan w o []
  done : {w o : ℕ} {es : List Event} → plan.lost (w + 1) ≡ None → ByPlan plan (w + 1) o es → ByPlan plan w o (write_done ∷ es)
  lost : {w o : ℕ} {m : Remains} {es : List Event} → plan.lost (w + 1) ≡ Some m → ByPlan plan (w + 1) o es → ByPlan plan w o (write_lost m ∷ es)
  online : {w o : ℕ} {es : List Event} → plan.refused (o + 1) ≡ false → ByPlan plan w (o + 1) es → ByPlan plan w o (online_done ∷ es)
  offline : {w o : ℕ} {es : List Event} → plan.refused (o + 1) ≡ true → ByPlan plan w (o + 1) es → ByPlan plan w o (online_refused ∷ es)
