use Rattle.lines.specs.declared.Field.TheVariants.{Number}
use Rattle.lines.proofs.Fields.{spaced_written}
use Rattle.lines.proofs.store.Goals as goal

pub pack_number-requires : goal.pack_number-requires
pack_number-requires c = spaced_written Number 2 c.args.text.now _ _ _ c.in_ok-number.ensures.value
