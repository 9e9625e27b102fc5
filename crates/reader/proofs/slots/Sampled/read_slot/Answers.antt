use Rattle.std.proofs.Common.{◌≡◌, length, arith, rules}
use Rattle.reader.proofs.SlotScans.{used_read}
use Rattle.reader.proofs.slots.Sampled.read_slot.Goals as goal

pub returns : goal.returns
returns g c =
    let l : length c.args.self.now.numbers ≡ 512 = search rules in
    λ view there gathered.
    used_read
    g.K.Kind.reading
    view
    c.args.k
    c.args.block
    c.args.slot
    _
    c.in_ok-number.number
    c.remove.new.self.bytes
    c.args.self.now
    c.from.result
    (omega arith)
    (omega arith)
    c.from.ensures
    c.in_ok-number.ensures
    c.remove.ensures
    there
    gathered
