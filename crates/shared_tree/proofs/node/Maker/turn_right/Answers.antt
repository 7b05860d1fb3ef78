use Rattle.std.proofs.Common.{◌++◌, subst, sym}
use Rattle.shared_tree.specs.declared.node.Node.{Node}
use Rattle.shared_tree.specs.Links.{link_pairs, node_pairs, IsParting}
use Rattle.shared_tree.proofs.LinkLemmas.{entry_parting, parting_more, node_parted}
use Rattle.shared_tree.proofs.node.Maker.turn_right.Goals as goal

-- the inner node comes to the top
pub returns-then-height-clause-parted : goal.returns-then-height-clause-parted
returns-then-height-clause-parted g c front node own right =
    c.turn_right_twice.ensures.parted front
    (subst (λ (inner : Node g.row.K.Denot g.row.V.Denot). IsParting front c.args.node.now.entry (node_pairs inner)) (sym c.deref.ensures) (rw c.in-Fork.is at node.0))
    node.1
    (node_parted front c.deref.ensures (rw c.in-Fork.is at node.2))
    own
    right

-- the node does
pub returns-clause-parted : goal.returns-clause-parted
returns-clause-parted g c front node own right =
    c.fork.ensures.parted front
    (entry_parting front c.in_ok-share_entry.field-0 c.args.node.now.entry (link_pairs c.args.node.now.right ++ link_pairs c.args.right.now) (link_pairs c.in_ok-lower.lower) c.in_ok-share_entry.ensures.front c.in_ok-share_entry.ensures.pair c.in_ok-lower.ensures.pairs
    (parting_more front c.args.node.now.entry (link_pairs c.args.node.now.right) (link_pairs c.args.right.now) node.0))
    (c.in_ok-share.ensures.parted front node.1)
    (c.in_ok-lower.ensures.parted front own node.2 right)
