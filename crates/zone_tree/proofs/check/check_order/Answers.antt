-- Neighbours in order are enough; a pair that isn't shows that the sets don't ascend.
use Rattle.std.proofs.Common.{refl, sym, ◌∙◌, arith}
use Rattle.zone_tree.proofs.CheckLemmas.{not_ascending, ascending_from_adjacent}
use Rattle.zone_tree.proofs.check.check_order.Goals as goal

pub returns-then-not-is_before-clause-fault : goal.returns-then-not-is_before-clause-fault
returns-then-not-is_before-clause-fault c = (
  refl,
  record {
    broken = not_ascending c.args.sets.now c.loop-i.i c.index-sets-i-then-i-gt0.result c.index-sets-i.result (omega arith) (omega arith) c.index-sets-i-then-i-gt0.is c.index-sets-i.is
        (sym c.is_before.ensures ∙ c.if-not-is_before.true);
    first = c.requires.first;
  },
)

pub returns-clause-rising : goal.returns-clause-rising
returns-clause-rising c = ascending_from_adjacent c.args.sets.now c.loop-i.i c.requires.each c.loop-i-test.false c.loop-i.invariant
