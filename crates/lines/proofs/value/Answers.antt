use Rattle.std.proofs.Common.{◌≡◌, ◌+◌, ◌-◌, ◌*◌, ◌^◌, ◌<◌, ◌≤◌, length, Some, refl, arith, rules, length-append, sym, subst}
use Rattle.std.proofs.lemmas.Fn.{serves_by}
use Rattle.std.proofs.lemmas.Iterator.{YieldsList-from_slice}
use Rattle.std.proofs.lemmas.Iterator.Consumers.{YieldsList-turn}
use Rattle.lines.proofs.Values.{digit_at, power_more, power_at_most}
use Rattle.lines.proofs.value.Goals as goal

-- Whatever the bytes are, the sum stays below 23 for each unit of the power of ten.
pub fold-requires-clause-callable : goal.fold-requires-clause-callable
fold-requires-clause-callable c =
    serves_by _ (λ xs q. q.1 + 23 ≤ 23 * 10 ^ length xs)
    (λ xs q x v j r.
    let is : v.1 ≡ 10 * q.1 + (x.now - 48) = search rules in
    let byte : x.now < 256 = search rules in
    simp length-append (omega (arith, power_more (length xs))))
    _ _ _ _
    (omega arith)
    (λ xs t q x u y e j.
    let place = YieldsList-turn (YieldsList-from_slice c.args.digits.now cc) xs t y (Some x) u x refl e in
    let digit = digit_at c.args.digits.now c.requires (length xs) x.now place.0 in
    let low : 48 ≤ x.now = subst (λ b. 48 ≤ b) (sym place.1) digit.0 in
    let high : x.now ≤ 57 = subst (λ b. b ≤ 57) (sym place.1) digit.1 in
    let small : q.1 ≤ 230000 = omega (arith, power_at_most (length xs) digit.2) in
    search rules)
