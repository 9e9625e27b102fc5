use Rattle.std.proofs.Common.{◌/◌, ◌<◌, ◌≤◌, length, rules}
use Rattle.layout.proofs.SetLaws.{taken_out, without_past}
use Rattle.layout.proofs.packs.PackSet.remove.Goals as goal

pub returns-then-number-lt32768 : goal.returns-then-number-lt32768
returns-then-number-lt32768 c =
    let within : c.from.result < length c.args.self.now.bytes = search rules in
    taken_out c.args.self.now.bytes c.args.number c.from.result c.from.ensures within

pub returns-else-number-lt32768 : goal.returns-else-number-lt32768
returns-else-number-lt32768 c =
    let past : length c.args.self.now.bytes ≤ c.args.number / 8 = search rules in
    without_past c.args.self.now.bytes c.args.number past
