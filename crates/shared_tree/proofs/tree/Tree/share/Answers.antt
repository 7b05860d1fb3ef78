use Rattle.shared_tree.specs.Fronts.{front_at}
use Rattle.shared_tree.proofs.tree.Tree.share.Goals as goal

-- the pairs are the same, and stay parted
pub invariant_of-result : goal.invariant_of-result
invariant_of-result g c = record {
  ascends = rw c.in_ok-root.ensures.pairs c.self.invariant.ascends;
  formed = c.in_ok-root.ensures.formed c.self.invariant.formed;
  parted = c.in_ok-root.ensures.parted (front_at g.K.Front.front c.in_ok-base.base) (rw c.in_ok-base.ensures c.self.invariant.parted);
}
