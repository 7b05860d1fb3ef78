use Rattle.shared_tree.proofs.LinkLemmas.{empty_root}
use Rattle.shared_tree.proofs.tree.Tree.is_empty.Goals as goal

-- a root has pairs
pub returns : goal.returns
returns g c = rw (← c.self.view_is) (empty_root c.self.inside.root c.is_none.result c.self.invariant.formed c.is_none.ensures)
