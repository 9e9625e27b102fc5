-- A turn counts one line more where a confirm finds the field filled.
use Rattle.std.proofs.Common.{◌≡◌, ℕ, ◌+◌, ◌≤◌, cond, [], length, get_or, drop, sym, ap, ◌∙◌, arith}
use Rattle.std.proofs.lemmas.List.{at_drop_more, at_drop_all}
use Rattle.intake.proofs.Scans.{lines_count, counted, count_lines, count_more, count_none, counted_most}
use Rattle.intake.proofs.count_lines.Goals as goal
use Rattle.intake.proofs.count_lines.Goals.{then-ends_line, else-ends_line}

byte : goal.After-is_added-filling → ℕ
byte c = get_or c.args.input.now c.loop-byte.byte-index 0

counts : (c : goal.After-is_added-filling) → c.if-ends_line.lines ≡ c.loop-byte.lines + counted c.loop-byte.filling (byte c)
unfolding byte
counts c =
    let ends : ◌≡◌ {A = ℕ} (cond c.ends_line.result 1 0) (counted c.loop-byte.filling (byte c)) = ap (λ t. cond t 1 0) c.ends_line.ensures in
    elim c.if-ends_line.branch [
      | then-ends_line w ↦
          let one : ◌≡◌ {A = ℕ} (cond c.ends_line.result 1 0) 1 = ap (λ t. cond t 1 0) w.if-ends_line.true in
          omega (arith, one, ends, w.lines-is)
      | else-ends_line w ↦
          let none : ◌≡◌ {A = ℕ} (cond c.ends_line.result 1 0) 0 = ap (λ t. cond t 1 0) w.if-ends_line.false in
          omega (arith, none, ends, w.lines-is)
    ]

pub loop-byte-preserved : goal.loop-byte-preserved
unfolding byte
loop-byte-preserved c =
    let most : counted c.loop-byte.filling (byte c) ≤ 1 = counted_most c.loop-byte.filling (byte c) in
    let more = counts c in
    let rest : lines_count c.loop-byte.filling (drop c.loop-byte.byte-index c.args.input.now)
    ≡ counted c.loop-byte.filling (byte c) + lines_count c.is_added-filling.result (drop (c.loop-byte.byte-index + 1) c.args.input.now)
    = at_drop_more (lines_count c.loop-byte.filling) c.args.input.now c.loop-byte.byte-index 0 c.loop-byte-test.true
    ∙ count_more c.loop-byte.filling (byte c) (drop (c.loop-byte.byte-index + 1) c.args.input.now)
    ∙ ap (λ f. counted c.loop-byte.filling (byte c) + lines_count f (drop (c.loop-byte.byte-index + 1) c.args.input.now)) (sym c.is_added-filling.ensures) in
    (omega (arith, more, most), omega (arith, more, rest, c.loop-byte.invariant.1))

pub returns : goal.returns
returns c =
    let end : length c.args.input.now ≤ c.loop-byte.byte-index = omega arith in
    let none : lines_count c.loop-byte.filling (drop c.loop-byte.byte-index c.args.input.now) ≡ 0 = at_drop_all (lines_count c.loop-byte.filling) c.args.input.now c.loop-byte.byte-index end ∙ count_none c.loop-byte.filling in
    let all = count_lines [] c.args.input.now in
    omega (arith, none, all, c.loop-byte.invariant.1)
