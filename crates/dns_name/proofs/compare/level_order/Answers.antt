use Rattle.std.proofs.Common.{ap, ◌∙◌, arith, length}
use Rattle.std.specs.Ordering.{ordering_then}
use Rattle.dns_name.proofs.OrderLemmas.{pass_step}
use Rattle.dns_name.proofs.compare.level_order.Goals as goal

pub loop-label-preserved : goal.loop-label-preserved
loop-label-preserved c =
    let first = c.in-Some-Some.ensures in
    let second = c.in-Some-Some.ensures' in
    let len = ap length first.labels in
    let len_other = ap length second.labels in
    record {
      whole = first.whole;
      whole_other = second.whole;
      level = omega (arith, c.loop-label.invariant.level, len, len_other);
      order = pass_step _ _ _ _ _ _ _ _ first.labels second.labels c.loop-label.invariant.level
          (c.then-order.ensures ∙ ap (λ o. ordering_then o c.loop-label.order) c.label_order.ensures)
          ∙ c.loop-label.invariant.order;
    }
