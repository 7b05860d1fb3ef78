use Rattle.shared_tree.proofs.WayLemmas.{first_walked}
use Rattle.shared_tree.proofs.tree.Tree.after.Goals as goal

-- the first of the pairs above
pub returns : goal.returns
returns g c =
    first_walked g.K.Ord.cmp (g.Q.Seek.key c.args.sought.now) c.args.self.now.pairs c.walk_above-above.result c.next.new.self c.next.result c.walk_above-above.ensures c.next.ensures.steps
