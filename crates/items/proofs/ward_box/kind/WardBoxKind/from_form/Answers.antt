use Rattle.std.proofs.Common.{sym, ◌∙◌}
use Rattle.items.specs.BoxForms.{after_ward}
use Rattle.items.specs.BoxFormLaws.{reading_none, reading_some}
use Rattle.items.proofs.ward_box.kind.WardBoxKind.from_form.Goals as goal

pub returns-then-bytes-ne60 : goal.returns-then-bytes-ne60
returns-then-bytes-ne60 c = reading_none c.args.bytes.now c.if-bytes-ne60.true

pub returns : goal.returns
returns c =
    c.after_ward.ensures
    ∙ (λ i. after_ward (c.section.ensures.first i) (c.section.ensures.rest i))
    ∙ sym (reading_some c.args.bytes.now c.if-bytes-ne60.false)
