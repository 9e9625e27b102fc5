use Rattle.std.proofs.Common.{Ok, sym, subst}
use Rattle.device.specs.MirrorDisk.{Copied, copied, nothing}
use Rattle.device.proofs.mirrors.copy.Goals as goal

pub returns-in-Some : goal.returns-in-Some
returns-in-Some g c =
    let d = g.D.Device.meaning c.args.device.now in
    let d' = g.D.Device.meaning c.write.new.self in
    subst (λ e. Copied d c.args.block e c.write.result d') (sym c.in-Some.is) (copied c.write.ensures)

pub returns-in-None : goal.returns-in-None
returns-in-None g c =
    let d = g.D.Device.meaning c.args.device.now in
    subst (λ e. Copied d c.args.block e (Ok tt) d) (sym c.in-None.is) nothing
