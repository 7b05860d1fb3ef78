use Rattle.std.proofs.Common.{Ok, sym, ap, ◌∙◌, arith}
use Rattle.wire_names.proofs.PassLemmas.{Passing-start, Passing-label, size_fault, size_long, run_closing, run_pointer}
use Rattle.wire_names.proofs.pass.run_at.Goals as goal

pub loop-target-init : goal.loop-target-init
loop-target-init c = Passing-start _ _

pub returns-in-Err : goal.returns-in-Err
returns-in-Err c = size_fault _ _ _ _ _ c.loop-target.invariant (sym c.part_at.ensures ∙ c.in-Err.is)

pub returns-in-Ok-Closing : goal.returns-in-Ok-Closing
returns-in-Ok-Closing c = run_closing _ _ _ _ c.loop-target.invariant (sym c.part_at.ensures ∙ c.in-Ok-Closing.is ∙ ap Ok c.in-Ok-Closing.field-0-is)

pub returns-in-Ok-Pointer : goal.returns-in-Ok-Pointer
returns-in-Ok-Pointer c = run_pointer _ _ _ _ _ c.loop-target.invariant (sym c.part_at.ensures ∙ c.in-Ok-Pointer.is ∙ ap Ok c.in-Ok-Pointer.field-0-is)

pub loop-target-preserved : goal.loop-target-preserved
loop-target-preserved c = Passing-label _ _ _ _ _ c.loop-target.invariant (sym c.part_at.ensures ∙ c.in-Ok-Label.is ∙ ap Ok c.in-Ok-Label.field-0-is) (omega arith)

pub returns-then-used-len-gt-MAX_NAME : goal.returns-then-used-len-gt-MAX_NAME
returns-then-used-len-gt-MAX_NAME c =
    size_long _ _ _ _ _ c.loop-target.invariant (sym c.part_at.ensures ∙ c.in-Ok-Label.is ∙ ap Ok c.in-Ok-Label.field-0-is) c.if-used-len-gt-MAX_NAME.true
