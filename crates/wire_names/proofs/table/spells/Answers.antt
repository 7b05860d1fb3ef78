use Rattle.std.proofs.Common.{Ok, ap, sym, ◌∙◌}
use Rattle.wire_names.proofs.FrontLemmas.{alike_same}
use Rattle.wire_names.proofs.GrammarLemmas.{IsLabelAt-part}
use Rattle.wire_names.proofs.TableLemmas.{answers_fault, answers_up, answers_closing, answers_end, answers_other, alike_pointer, alike_label}
use Rattle.wire_names.proofs.table.spells.Goals as goal

pub returns-in-Ok-Closing : goal.returns-in-Ok-Closing
returns-in-Ok-Closing c =
    answers_closing _ _ _ _ _ c.behind_same-others.result.now _ c.first_label.result (alike_same _ _ _ _ _ _ _ _ c.loop-len.invariant.alike c.behind_same-others.ensures.same) (sym c.part_at.ensures ∙ c.in-Ok-Closing.is ∙ ap Ok c.in-Ok-Closing.field-0-is) c.first_label.ensures c.is_none.ensures

pub label_at-requires : goal.label_at-requires
label_at-requires c =
    (IsLabelAt-part c.args.msg.now _ c.in-Ok-Label.len (sym c.part_at.ensures ∙ c.in-Ok-Label.is ∙ ap Ok c.in-Ok-Label.field-0-is)).within

pub returns-in_default-first_label : goal.returns-in_default-first_label
returns-in_default-first_label c =
    answers_end _ _ _ _ _ _ _ (alike_same _ _ _ _ _ _ _ _ c.loop-len.invariant.alike c.behind_same-others.ensures.same) (sym c.part_at.ensures ∙ c.in-Ok-Label.is ∙ ap Ok c.in-Ok-Label.field-0-is) c.in_default-first_label.ensures

pub returns-then-differ : goal.returns-then-differ
returns-then-differ c =
    answers_other _ _ _ _ _ _ _ _ _ _ _ (alike_same _ _ _ _ _ _ _ _ c.loop-len.invariant.alike c.behind_same-others.ensures.same) (sym c.part_at.ensures ∙ c.in-Ok-Label.is ∙ ap Ok c.in-Ok-Label.field-0-is) c.in-Some.ensures.labels c.label_at.ensures c.differ.ensures c.if-differ.true

pub loop-len-preserved-in-Label-1 : goal.loop-len-preserved-in-Label-1
loop-len-preserved-in-Label-1 c = record {
  alike = alike_label _ _ _ _ _ _ _ _ _ _ _ (alike_same _ _ _ _ _ _ _ _ c.loop-len.invariant.alike c.behind_same-others.ensures.same) (sym c.part_at.ensures ∙ c.in-Ok-Label.is ∙ ap Ok c.in-Ok-Label.field-0-is) c.in-Some.ensures.labels c.label_at.ensures c.differ.ensures c.if-differ.false;
  whole = c.in-Some.ensures.whole;
}

pub loop-len-preserved : goal.loop-len-preserved
loop-len-preserved c = record {
  alike = alike_pointer _ _ _ _ _ _ _ (alike_same _ _ _ _ _ _ _ _ c.loop-len.invariant.alike c.behind_same-others.ensures.same) (sym c.part_at.ensures ∙ c.in-Ok-Pointer.is ∙ ap Ok c.in-Ok-Pointer.field-0-is) c.if-target-run.true;
  whole = c.behind_same-others.ensures.whole;
}

pub returns-in_default : goal.returns-in_default
returns-in_default c =
    answers_up _ _ _ _ _ _ _ (alike_same _ _ _ _ _ _ _ _ c.loop-len.invariant.alike c.behind_same-others.ensures.same) (sym c.part_at.ensures ∙ c.in-Ok-Pointer.is ∙ ap Ok c.in-Ok-Pointer.field-0-is) c.if-target-run.false

pub returns-in_default-2 : goal.returns-in_default-2
returns-in_default-2 c = answers_fault _ _ _ _ _ _ _ (alike_same _ _ _ _ _ _ _ _ c.loop-len.invariant.alike c.behind_same-others.ensures.same) (sym c.part_at.ensures ∙ c.in_default.is)
