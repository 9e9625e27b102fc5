use Rattle.std.proofs.Common.{◌≡◌, length, refl, ap, ◌∙◌, arith, rules}
use Rattle.std.specs.Result.{result_map_both}
use Rattle.reader.proofs.Rests.{exit_is}
use Rattle.reader.proofs.StockScans.{stock_none, stock_more, stock_stops, stock_all}
use Rattle.reader.proofs.through.read_stock.Goals as goal

pub loop-j-init : goal.loop-j-init
loop-j-init g c =
    let long : length c.empty-stock.result.bytes ≡ 4096 = search rules in
    λ s. stock_none _ _ long

pub loop-j-preserved : goal.loop-j-preserved
loop-j-preserved g c =
    let size : length c.in_ok-bytes.field-0 ≡ 512 = search rules in
    λ s.
    stock_more
    _
    c.loop-j.j
    _
    _
    _
    _
    (omega arith)
    refl
    size
    (c.loop-j.invariant s)
    (c.in_ok-bytes.ensures s (omega arith))
    c.put_block.ensures

pub returns-in_err-bytes : goal.returns-in_err-bytes
returns-in_err-bytes g c = λ s.
    ap (result_map_both _ _) (exit_is c.from_residual.ensures.1)
    ∙ stock_stops _ c.loop-j.j _ _ _ (omega arith) refl (c.loop-j.invariant s) (c.in_err-bytes.ensures s (omega arith))

pub returns : goal.returns
returns g c = λ s. stock_all _ c.loop-j.j _ (omega arith) (c.loop-j.invariant s)
