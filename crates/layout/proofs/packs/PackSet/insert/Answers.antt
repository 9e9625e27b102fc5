use Rattle.std.proofs.Common.{◌<◌, length, rules}
use Rattle.layout.proofs.SetLaws.{put_in}
use Rattle.layout.proofs.packs.PackSet.insert.Goals as goal

pub returns-then-number-lt32768-clause-added : goal.returns-then-number-lt32768-clause-added
returns-then-number-lt32768-clause-added c = λ h p.
    let within : c.from.result < length c.args.self.now.bytes = search rules in
    put_in c.args.self.now.bytes c.args.number c.from.result c.from.ensures within p
