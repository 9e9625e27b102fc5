use Rattle.std.proofs.Common.{◌≡◌, ◌<◌, ◌≤◌, sym, ◌∙◌, arith}
use Rattle.words.specs.Draws.{limit}
use Rattle.words.proofs.Looks.{draw_sure, draw_wide, turn_end, turn_none, turn_low, turn_high}
use Rattle.words.proofs.draws.look.Goals as goal

pub returns-then-get-eq1 : goal.returns-then-get-eq1
returns-then-get-eq1 g c = sym (draw_sure _ _ _ (omega arith))

pub loop-used-init : goal.loop-used-init
loop-used-init g c = sym (draw_wide _ _ _ (omega arith))

pub returns-in_err-word : goal.returns-in_err-word
returns-in_err-word g c =
    c.from_residual.ensures ∙ turn_none _ _ _ _ c.loop-used.invariant (omega arith) c.in_err-word.ensures

pub returns-then-from-limit : goal.returns-then-from-limit
returns-then-from-limit g c =
    let low : c.in_ok-word.word < limit c.args.width.value = omega arith in
    let by : c.from-then-from-limit.result ≡ c.args.width.value = omega arith in
    simp by (turn_low _ _ _ _ c.loop-used.invariant (omega arith) _ c.in_ok-word.ensures low)

pub loop-used-preserved : goal.loop-used-preserved
loop-used-preserved g c =
    let high : limit c.args.width.value ≤ c.in_ok-word.word = omega arith in
    turn_high _ _ _ _ c.loop-used.invariant (omega arith) _ c.in_ok-word.ensures high

pub returns : goal.returns
returns g c = turn_end _ _ _ _ c.loop-used.invariant (omega arith)
