use Rattle.std.proofs.Common.{◌≡◌, ℕ, ◌^◌, ◌<◌, Ok, Err, Some, None, OkIff, SomeIff, Result, sym, ◌∙◌, subst, arith}
use Rattle.std.specs.Result.{result_ok}
use Rattle.layout.specs.Reading.{counts_in}
use Rattle.layout.proofs.HeadSteps.{counts_are, calls_in}
use Rattle.layout.proofs.head.counts_in.Goals as goal

none_of : {E : Type 0} (r : Result ℕ E) (P : Type 0) (v : ℕ) → OkIff r P v → None ≡ result_ok r → P → ⊥
none_of (Ok x) P v h is = cc
none_of (Err e) P v h is = h

some_of : {E : Type 0} (r : Result ℕ E) (P : Type 0) (v x : ℕ) → OkIff r P v → Some x ≡ result_ok r → P × (x ≡ v)
some_of (Ok y) P v x h is = (h.0, cc)
some_of (Err e) P v x h is = cc

pub returns-in_err-calls : goal.returns-in_err-calls
returns-in_err-calls c =
    subst (λ o. SomeIff o ((counts_in c.args.bytes.now).calls < 2 ^ 32) (counts_in c.args.bytes.now)) (sym c.from_residual.ensures)
    (λ h. none_of c.try_from.result _ _ c.try_from.ensures c.in_err-calls.ensures.value
    (subst (λ k. k < 2 ^ 32) (calls_in c.args.bytes.now ∙ sym c.u64_at.ensures) h))

pub returns : goal.returns
returns c =
    let fits = some_of c.try_from.result _ _ _ c.try_from.ensures c.in_ok-calls.ensures.value in
    let is = counts_are c.args.bytes.now _ _ _ _ _ _ _ c.u16_at.ensures c.u16_at-2.ensures c.u16_at-3.ensures c.u16_at-4.ensures c.u16_at-5.ensures (fits.1 ∙ c.u64_at.ensures) c.u64_at-2.ensures in
    (subst (λ n. n.calls < 2 ^ 32) is (omega (arith, fits.0)), is)
