use Rattle.std.proofs.Common.{refl}
use Rattle.shared_tree.specs.Links.{link_pairs}
use Rattle.shared_tree.proofs.LinkLemmas.{entry_parting}
use Rattle.shared_tree.proofs.node.Maker.with_right.Goals as goal

-- what is shared stays parted
pub returns-clause-parted : goal.returns-clause-parted
returns-clause-parted g c front own left right =
    c.join.ensures.parted front
    (entry_parting front c.in_ok-share_entry.field-0 c.args.node.now.entry (link_pairs c.args.right) (link_pairs c.args.right) c.in_ok-share_entry.ensures.front c.in_ok-share_entry.ensures.pair refl own)
    (c.in_ok-share.ensures.parted front left)
    right
