use Rattle.std.proofs.Common.{sym, ap, Ok, ◌∙◌}
use Rattle.wire_names.proofs.LeadsLemmas.{ends_at_target, ends_at_up, ends_at_label, ends_at_closing, ends_at_fault}
use Rattle.wire_names.proofs.message.end_at.Goals as goal

pub returns-then-target-at : goal.returns-then-target-at
returns-then-target-at c =
    ends_at_target _ _ _ _ (sym c.part_at.ensures ∙ c.in-Ok-Pointer.is ∙ ap Ok c.in-Ok-Pointer.field-0-is) c.if-target-at.true (c.requires.before _ c.if-target-at.true)

pub returns-else-target-at : goal.returns-else-target-at
returns-else-target-at c = ends_at_up _ _ _ (sym c.part_at.ensures ∙ c.in-Ok-Pointer.is ∙ ap Ok c.in-Ok-Pointer.field-0-is) c.if-target-at.false

pub returns-in-Ok-Label : goal.returns-in-Ok-Label
returns-in-Ok-Label c = ends_at_label _ _ _ (sym c.part_at.ensures ∙ c.in-Ok-Label.is ∙ ap Ok c.in-Ok-Label.field-0-is)

pub returns-in-Ok-Closing : goal.returns-in-Ok-Closing
returns-in-Ok-Closing c = ends_at_closing _ _ (sym c.part_at.ensures ∙ c.in-Ok-Closing.is ∙ ap Ok c.in-Ok-Closing.field-0-is)

pub returns-in-Err : goal.returns-in-Err
returns-in-Err c = ends_at_fault _ _ _ (sym c.part_at.ensures ∙ c.in-Err.is)
