use Rattle.shared_tree.specs.Links.{link_pairs}
use Rattle.shared_tree.proofs.LinkLemmas.{entry_parting}
use Rattle.shared_tree.proofs.node.Maker.fork_shared.Goals as goal

-- what is shared stays parted
pub returns-clause-parted : goal.returns-clause-parted
returns-clause-parted g c front own left right =
    c.fork.ensures.parted front
    (entry_parting front c.in_ok-share_entry.field-0 c.args.entry.now (link_pairs c.args.right.now) (link_pairs c.in_ok-share-2.field-0) c.in_ok-share_entry.ensures.front c.in_ok-share_entry.ensures.pair c.in_ok-share-2.ensures.pairs own)
    (c.in_ok-share.ensures.parted front left)
    (c.in_ok-share-2.ensures.parted front right)
