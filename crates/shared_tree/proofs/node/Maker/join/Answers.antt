use Rattle.std.proofs.Common.{subst, sym}
use Rattle.shared_tree.specs.declared.node.Node.{Node}
use Rattle.shared_tree.specs.Links.{node_pairs, IsParting}
use Rattle.shared_tree.proofs.LinkLemmas.{node_parted}
use Rattle.shared_tree.proofs.node.Maker.join.Goals as goal

-- the left side is turned
pub returns-then-height-saturating_add-clause-parted : goal.returns-then-height-saturating_add-clause-parted
returns-then-height-saturating_add-clause-parted g c front own left right =
    c.turn_right.ensures.parted front (node_parted front c.deref.ensures (rw c.in-Fork.is at left)) own right

-- the right side is
pub returns-then-height-saturating_add-2-clause-parted : goal.returns-then-height-saturating_add-2-clause-parted
returns-then-height-saturating_add-2-clause-parted g c front own left right =
    c.turn_left.ensures.parted front
    left
    (subst (λ (node : Node g.row.K.Denot g.row.V.Denot). IsParting front c.args.entry (node_pairs node)) (sym c.deref-then-height-saturating_add-2.ensures) (rw c.in-Fork-right.is at own))
    (node_parted front c.deref-then-height-saturating_add-2.ensures (rw c.in-Fork-right.is at right))
