use Rattle.layout.proofs.LayoutLaws.{reads_exactly}
use Rattle.register.specs.declared.comparing.SideFault.TheVariants.{Left, Right}
use Rattle.register.specs.Same.{compared}
use Rattle.register.proofs.Compares.{rest_lawful, decides_packs, side_read, side_refused, refused_left_lem, refused_right_lem}
use Rattle.register.proofs.comparing.same.Goals as goal

pub returns-in_err-left : goal.returns-in_err-left
returns-in_err-left g c =
    refused_left_lem c.from_residual.ensures.1
    (side_refused Left _ _ _ c.read_at_rest.ensures c.map_err.ensures.cases _ c.in_err-left.was)

pub returns-in_err-right : goal.returns-in_err-right
returns-in_err-right g c =
    let left = side_read Left _ _ _ c.read_at_rest.ensures c.map_err.ensures.cases _ c.in_ok-left.was in
    refused_right_lem c.from_residual-in_err-right.ensures.1 left.1
    (side_refused Right _ _ _ c.read_at_rest-2.ensures c.map_err-2.ensures.cases _ c.in_err-right.was)

pub returns : goal.returns
returns g c =
    let k = g.K.Kind in
    let law = g.met.K.Kind in
    let exact = reads_exactly k.code k.form k.reading law.known law.sized law.bounded law.round law.exact in
    let left = side_read Left _ _ _ c.read_at_rest.ensures c.map_err.ensures.cases _ c.in_ok-left.was in
    let right = side_read Right _ _ _ c.read_at_rest-2.ensures c.map_err-2.ensures.cases _ c.in_ok-right.was in
    compared left.1 right.1
    (decides_packs c.in_ok-left.left c.in_ok-right.right left.2 right.2
    (rest_lawful k.code k.reading (g.A.Device.meaning c.args.left.now) k.form exact left.1)
    (rest_lawful k.code k.reading (g.B.Device.meaning c.args.right.now) k.form exact right.1)
    c.same_packs.result c.same_packs.ensures)
