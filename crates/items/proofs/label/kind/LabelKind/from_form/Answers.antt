use Rattle.std.proofs.Common.{◌≡◌, sym, ap, ◌∙◌, ne_eqb}
use Rattle.std.specs.Result.{result_ok}
use Rattle.std.proofs.lemmas.Bool.{and_left, and_right}
use Rattle.octets.specs.Zeros.{every, blank}
use Rattle.items.specs.Forms.{front, behind}
use Rattle.items.specs.Labels.{label}
use Rattle.items.specs.LabelFormLaws.{reading_none, reading_some}
use Rattle.items.proofs.label.kind.LabelKind.from_form.Goals as goal
use Rattle.items.proofs.label.kind.LabelKind.from_form.Goals.{then-bytes-ne60-via-then-bytes-ne60, then-bytes-ne60-via-else-bytes-ne60+then-not-all_zero}

pub returns-then-bytes-ne60 : goal.returns-then-bytes-ne60
returns-then-bytes-ne60 c =
    let s = c.args.bytes.now in
    let rest : c.section-3.result.1.now ≡ behind (behind (behind s)) = c.section-3.ensures.rest ∙ ap behind (c.section-2.ensures.rest ∙ ap behind c.section.ensures.rest) in
    reading_none s (elim c.then-bytes-ne60.branch [
      | then-bytes-ne60-via-then-bytes-ne60 w ↦ and_left _ _ (ne_eqb _ 60 w.if-bytes-ne60.true)
      | then-bytes-ne60-via-else-bytes-ne60+then-not-all_zero w ↦ and_right _ _ (sym (ap (every blank) rest) ∙ sym w.if-not-all_zero.ensures)
    ])

pub returns : goal.returns
returns c =
    let s = c.args.bytes.now in
    let once : c.section.result.1.now ≡ behind s = c.section.ensures.rest in
    let twice : c.section-2.result.1.now ≡ behind (behind s) = c.section-2.ensures.rest ∙ ap behind once in
    let rest : c.section-3.result.1.now ≡ behind (behind (behind s)) = c.section-3.ensures.rest ∙ ap behind twice in
    c.ok.ensures.value
    ∙ ap result_ok c.new.ensures
    ∙ (λ i. result_ok (label (c.section.ensures.first i) ((c.section-2.ensures.first ∙ ap front once) i) ((c.section-3.ensures.first ∙ ap front twice) i)))
    ∙ sym (reading_some s c.if-bytes-ne60.false (sym (ap (every blank) rest) ∙ sym c.if-not-all_zero.ensures))
