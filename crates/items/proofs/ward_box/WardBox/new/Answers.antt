use Rattle.std.proofs.Common.{refl, ◌∙◌}
use Rattle.items.specs.Boxes.{of_sections}
use Rattle.items.specs.Lawful.{lawful_box}
use Rattle.items.specs.Texts.{chars}
use Rattle.items.specs.BoxesLemmas.{both_lawful, box_of}
use Rattle.items.proofs.ward_box.WardBox.new.Goals as goal

pub invariant_of-result : goal.invariant_of-result
invariant_of-result c =
    let h = both_lawful c.args.ward.now c.args.difference c.if-not-is_ward.ensures c.if-not-is_difference.ensures in
    record { lawful = (λ i. lawful_box (chars (c.short-ward.ensures i)) c.args.difference) ∙ (of_sections c.args.ward.now c.args.difference h).lawful }

pub returns : goal.returns
returns c =
    let h = both_lawful c.args.ward.now c.args.difference c.if-not-is_ward.ensures c.if-not-is_difference.ensures in
    box_of c.args.ward.now c.args.difference h _ c.short-ward.ensures refl
