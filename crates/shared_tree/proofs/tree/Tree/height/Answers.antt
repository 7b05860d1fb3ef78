use Rattle.std.proofs.Common.{Some}
use Rattle.shared_tree.proofs.LinkLemmas.{is_low}
use Rattle.shared_tree.proofs.tree.Tree.height.Goals as goal

-- the tree is formed
pub returns-in-Some-clause-low : goal.returns-in-Some-clause-low
returns-in-Some-clause-low g c =
    let formed = rw c.in-Some.is at c.self.invariant.formed in
    rw (← c.self.view_is, c.in-Some.is, c.height.ensures formed) (is_low (Some c.in-Some.root) formed)
