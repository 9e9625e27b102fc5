use Rattle.std.proofs.Common.{◌∙◌}
use Rattle.items.specs.Texts.{chars}
use Rattle.items.specs.Labels.{of_sections}
use Rattle.items.specs.Lawful.{lawful_label}
use Rattle.items.specs.LabelsLemmas.{all_lawful, label_of}
use Rattle.items.proofs.label.Label.new.Goals as goal

pub invariant_of-result : goal.invariant_of-result
invariant_of-result c =
    let h = all_lawful c.args.code.now c.args.batch.now c.args.expiry.now c.if-not-is_code.ensures c.if-not-is_batch.ensures c.if-not-is_expiry.ensures in record {
      lawful = (λ i. lawful_label (chars (c.short-code.ensures i)) (chars (c.short-batch.ensures i)) (chars (c.short-expiry.ensures i)))
          ∙ (of_sections c.args.code.now c.args.batch.now c.args.expiry.now h).lawful;
    }

pub returns : goal.returns
returns c =
    let h = all_lawful c.args.code.now c.args.batch.now c.args.expiry.now c.if-not-is_code.ensures c.if-not-is_batch.ensures c.if-not-is_expiry.ensures in
    label_of c.args.code.now c.args.batch.now c.args.expiry.now h _ c.short-code.ensures c.short-batch.ensures c.short-expiry.ensures
