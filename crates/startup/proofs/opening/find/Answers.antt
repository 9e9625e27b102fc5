use Rattle.startup.proofs.Beginning.{header_there}
use Rattle.startup.proofs.OpenReads.{found_by}
use Rattle.startup.proofs.opening.find.Goals as goal

pub returns-in_err-header : goal.returns-in_err-header
returns-in_err-header g c = λ s. absurd (header_there (g.D.Device.meaning c.args.device.now) _ s c.in_err-header.ensures)

pub returns : goal.returns
returns g c =
    found_by g.K.Kind.code g.K.Kind.reading (g.D.Device.meaning c.args.device.now) c.in_ok-header.header c.find_by.result
    c.in_ok-header.ensures c.find_by.ensures
