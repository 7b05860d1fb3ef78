use Rattle.std.proofs.Common.{◌++◌}
use Rattle.shared_tree.specs.Links.{link_pairs}
use Rattle.shared_tree.proofs.LinkLemmas.{entry_parting, parting_more, parting_less}
use Rattle.shared_tree.proofs.node.Maker.turn_left_twice.Goals as goal

-- each entry parts what it parted before, or more
pub returns-clause-parted : goal.returns-clause-parted
returns-clause-parted g c front left own inner upper right =
    c.fork.ensures.parted front
    (entry_parting front c.in_ok-share_entry.field-0 c.args.inner.now.entry (link_pairs c.args.inner.now.right ++ link_pairs c.args.node.now.right) (link_pairs c.in_ok-upper_right.upper_right) c.in_ok-share_entry.ensures.front c.in_ok-share_entry.ensures.pair c.in_ok-upper_right.ensures.pairs
    (parting_more front c.args.inner.now.entry (link_pairs c.args.inner.now.right) (link_pairs c.args.node.now.right) inner.0))
    (c.in_ok-upper_left.ensures.parted front (parting_less front c.args.entry.now c.args.inner.now.left (link_pairs c.args.inner.now.right) inner.1 own) left inner.1)
    (c.in_ok-upper_right.ensures.parted front upper inner.2 right)
