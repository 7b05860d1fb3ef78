use Rattle.shared_tree.proofs.node.share_root.Goals as goal

-- the link that is shared is parted
pub returns-in_ok-link-in-Some-clause-parted : goal.returns-in_ok-link-in-Some-clause-parted
returns-in_ok-link-in-Some-clause-parted g c front root = c.in_ok-link-in-Some.ensures.parted front (rw c.in-Some.is at root)
