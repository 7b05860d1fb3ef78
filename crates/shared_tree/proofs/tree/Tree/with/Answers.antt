use Rattle.shared_tree.specs.Fronts.{front_at}
use Rattle.shared_tree.specs.Links.{IsTree}
use Rattle.shared_tree.proofs.PairLemmas.{with_ascends}
use Rattle.shared_tree.proofs.tree.Tree.with.Goals as goal

-- the pairs with one in place ascend, and each has its number
pub invariant_of-result : goal.invariant_of-result
invariant_of-result g c =
    let front = front_at g.K.Front.front c.in_ok-base.base in
    let tree : IsTree g.K.Ord.cmp front c.self.inside.root = rw c.in_ok-base.ensures c.self.invariant in
    record {
      ascends = rw (c.in_ok-root.ensures.pairs front tree) (with_ascends g.K.Ord.cmp g.met.K.Ord.total _ _ _ tree.ascends);
      formed = c.in_ok-root.ensures.formed tree.formed;
      parted = c.in_ok-root.ensures.parted front c.in_ok-entry.ensures.front tree;
    }

-- the pair is the entry's
pub returns-clause-pairs : goal.returns-clause-pairs
returns-clause-pairs g c =
    let front = front_at g.K.Front.front c.in_ok-base.base in
    let tree : IsTree g.K.Ord.cmp front c.self.inside.root = rw c.in_ok-base.ensures c.self.invariant in
    rw (← c.self.view_is) (rw c.in_ok-entry.ensures.pair at (c.in_ok-root.ensures.pairs front tree))
