use Rattle.std.proofs.Common.{◌≡◌, Ok, Err, Result, Option, Some, None, SomeIff, ◌^◌, ◌<◌, IsErrAnd, sym, ap, ◌∙◌, subst}
use Rattle.std.specs.Option.{ok_or}
use Rattle.std.specs.Result.{result_map_both}
use Rattle.fault.specs.declared.Fault.{Fault}
use Rattle.pairing.specs.declared.counts.Counts.{Counts}
use Rattle.layout.specs.Reading.{counts_in, counts_fault, unless_fault}
use Rattle.layout.proofs.HeadSteps.{kind_is, head_mark, head_kind, head_range, head_sum, head_other, head_read, calls_fit}
use Rattle.layout.proofs.head.read_head.Goals as goal

err_is : {A : Type 0} (f : A → Counts) (r : Result A Fault) (e : Fault) → IsErrAnd r (λ y. y ≡ e) → result_map_both f (λ x. x) r ≡ Err e
err_is f (Ok x) e h = absurd h
err_is f (Err y) e h = ap Err h

some_is : (o : Option Counts) (P : Type 0) (v x : Counts) → SomeIff o P v → o ≡ Some x → x ≡ v
some_is (Some y) P v x h is = cc
some_is None P v x h is = cc

pub returns-then-not-is_marked : goal.returns-then-not-is_marked
returns-then-not-is_marked c =
    head_mark c.args.code c.args.bytes.now _ c.not_register.ensures (sym c.if-not-is_marked.ensures)

pub returns-then-not-is_kind : goal.returns-then-not-is_kind
returns-then-not-is_kind c =
    let xs = c.args.bytes.now in
    head_kind c.args.code xs (sym c.if-not-is_marked.ensures) _ (kind_is xs) _ c.not_register-then-not-is_kind.ensures
    (sym c.if-not-is_kind.ensures)

pub returns-in_err-counts : goal.returns-in_err-counts
returns-in_err-counts c =
    let xs = c.args.bytes.now in
    let none = c.in_err-counts.ensures.ok_part in
    err_is (λ n. n.counts) c.from_residual.result c.in_err-counts.field-0.0 c.from_residual.ensures.1
    ∙ c.in_err-counts.ensures.value
    ∙ ap (λ o. ok_or o c.not_register-2.result) none
    ∙ head_range c.args.code xs (sym c.if-not-is_marked.ensures) _ (kind_is xs) (sym c.if-not-is_kind.ensures)
    _ c.not_register-2.ensures (λ h. subst (λ o. SomeIff o ((counts_in xs).calls < 2 ^ 32) (counts_in xs)) none c.counts_in.ensures (calls_fit (counts_in xs) h))

pub returns-in_err-counters : goal.returns-in_err-counters
returns-in_err-counters c =
    let xs = c.args.bytes.now in
    err_is (λ n. n.counts) c.from_residual-in_err-counters.result c.in_err-counters.field-0.0 c.from_residual-in_err-counters.ensures.1
    ∙ head_sum c.args.code xs (sym c.if-not-is_marked.ensures) _ (kind_is xs) (sym c.if-not-is_kind.ensures)
    _ (c.in_err-counters.ensures ∙ ap (λ n. unless_fault (counts_fault n) n) (some_is c.counts_in.result _ _ _ c.counts_in.ensures c.in_ok-counts.ensures.ok_part))

pub returns-then-kind-code : goal.returns-then-kind-code
returns-then-kind-code c =
    let xs = c.args.bytes.now in
    head_other c.args.code xs (sym c.if-not-is_marked.ensures) _ (kind_is xs) (sym c.if-not-is_kind.ensures)
    _ (c.in_ok-counters.ensures ∙ ap (λ n. unless_fault (counts_fault n) n) (some_is c.counts_in.result _ _ _ c.counts_in.ensures c.in_ok-counts.ensures.ok_part)) _ c.not_register-then-kind-code.ensures c.if-kind-code.true

pub returns : goal.returns
returns c =
    let xs = c.args.bytes.now in
    head_read c.args.code xs (sym c.if-not-is_marked.ensures) _ (kind_is xs) (sym c.if-not-is_kind.ensures)
    _ (c.in_ok-counters.ensures ∙ ap (λ n. unless_fault (counts_fault n) n) (some_is c.counts_in.result _ _ _ c.counts_in.ensures c.in_ok-counts.ensures.ok_part)) c.if-kind-code.false
