use Rattle.std.proofs.Common.{subst, sym}
use Rattle.shared_tree.specs.declared.node.Node.{Node}
use Rattle.shared_tree.specs.Links.{link_pairs, node_pairs, IsParting}
use Rattle.shared_tree.proofs.LinkLemmas.{entry_parting, parting_less, node_parted}
use Rattle.shared_tree.proofs.node.Maker.turn_left.Goals as goal

-- the inner node comes to the top
pub returns-then-height-clause-parted : goal.returns-then-height-clause-parted
returns-then-height-clause-parted g c front left own node =
    let inner = parting_less front c.args.entry.now c.args.node.now.left (link_pairs c.args.node.now.right) node.1 own in
    c.turn_left_twice.ensures.parted front
    left
    (subst (λ (inner : Node g.row.K.Denot g.row.V.Denot). IsParting front c.args.entry.now (node_pairs inner)) (sym c.deref.ensures) (rw c.in-Fork.is at inner))
    (node_parted front c.deref.ensures (rw c.in-Fork.is at node.1))
    node.0
    node.2

-- the node does
pub returns-clause-parted : goal.returns-clause-parted
returns-clause-parted g c front left own node =
    c.fork.ensures.parted front
    (entry_parting front c.in_ok-share_entry.field-0 c.args.node.now.entry (link_pairs c.args.node.now.right) (link_pairs c.in_ok-share.field-0) c.in_ok-share_entry.ensures.front c.in_ok-share_entry.ensures.pair c.in_ok-share.ensures.pairs node.0)
    (c.in_ok-lower.ensures.parted front (parting_less front c.args.entry.now c.args.node.now.left (link_pairs c.args.node.now.right) node.1 own) left node.1)
    (c.in_ok-share.ensures.parted front node.2)
