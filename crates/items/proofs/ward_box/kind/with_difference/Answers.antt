use Rattle.std.proofs.Common.{◌-◌, ◌≤◌, length, get_or, take, drop, ◌∙◌, arith, length-drop, take_all, ltb-false}
use Rattle.items.specs.BoxFormLaws.{difference_read}
use Rattle.items.proofs.ward_box.kind.with_difference.Goals as goal

pub returns : goal.returns
returns c =
    let r = c.args.bytes.now in
    let some : 2 ≤ length r = omega (arith, ltb-false) in
    let low : get_or r 0 0 ≤ 255 = omega (arith, c.type_inv.bytes 0) in
    let high : get_or r 1 0 ≤ 255 = omega (arith, c.type_inv.bytes 1) in
    c.end.ensures
    ∙ difference_read c.args.ward.now r (take (length r - 2) (drop 2 r)) c.from_le_bytes.result some low high c.from_le_bytes.ensures (take_all _ _ (simp length-drop (omega arith)))
