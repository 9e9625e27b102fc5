use Rattle.std.proofs.Common.{◌≡◌, ◌≤◌, length, get_or, Err, ap, ◌∙◌, arith, rules, ltb-false, ltb-true}
use Rattle.lines.specs.Meaning.{meaning}
use Rattle.lines.proofs.Meanings.{misfit_law, shaped_law}
use Rattle.lines.proofs.Splits.{lettered}
use Rattle.lines.proofs.Transaction.parse.Goals as goal

pub returns-in-83 : goal.returns-in-83
unfolding meaning
returns-in-83 c =
    let s = c.args.line.now in
    let some : 2 ≤ length s = omega (arith, ltb-true, ltb-false) in
    let letter : get_or s 0 0 ≡ 83 = omega arith in
    let space : get_or s 1 0 ≡ 32 = omega arith in
    let is : c.store.result ≡ meaning s = c.store.ensures ∙ ap meaning (lettered 83 s some letter space) in
    record { value = is; misfit = misfit_law s _ is; shaped = shaped_law s _ is }

pub returns-in-84 : goal.returns-in-84
unfolding meaning
returns-in-84 c =
    let s = c.args.line.now in
    let some : 2 ≤ length s = omega (arith, ltb-true, ltb-false) in
    let letter : get_or s 0 0 ≡ 84 = omega arith in
    let space : get_or s 1 0 ≡ 32 = omega arith in
    let is : c.take.result ≡ meaning s = c.take.ensures ∙ ap meaning (lettered 84 s some letter space) in
    record { value = is; misfit = misfit_law s _ is; shaped = shaped_law s _ is }

pub returns-in-83-2 : goal.returns-in-83-2
unfolding meaning
returns-in-83-2 c =
    let s = c.args.line.now in
    let is : Err c.misfit.result ≡ meaning s = search rules in
    record { value = is; misfit = misfit_law s _ is; shaped = shaped_law s _ is }

pub returns-in_default : goal.returns-in_default
unfolding meaning
returns-in_default c =
    let s = c.args.line.now in
    let is : Err c.misfit-in_default.result ≡ meaning s = search rules in
    record { value = is; misfit = misfit_law s _ is; shaped = shaped_law s _ is }
