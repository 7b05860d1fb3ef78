use Rattle.shared_tree.specs.Links.{link_pairs}
use Rattle.shared_tree.proofs.LinkLemmas.{entry_parting}
use Rattle.shared_tree.proofs.node.Maker.with_left.Goals as goal

-- what is shared stays parted
pub returns-clause-parted : goal.returns-clause-parted
returns-clause-parted g c front left node =
    c.join.ensures.parted front
    (entry_parting front c.in_ok-share_entry.field-0 c.args.node.now.entry (link_pairs c.args.node.now.right) (link_pairs c.in_ok-share.field-0) c.in_ok-share_entry.ensures.front c.in_ok-share_entry.ensures.pair c.in_ok-share.ensures.pairs node.0)
    left
    (c.in_ok-share.ensures.parted front node.2)
