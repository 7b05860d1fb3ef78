use Rattle.shared_tree.proofs.node.Maker.with_rest_right.Goals as goal

-- the left side is left
pub returns-in_ok-left-in-None-clause-parted : goal.returns-in_ok-left-in-None-clause-parted
returns-in_ok-left-in-None-clause-parted g c front own left rest = c.in_ok-left-in-None.ensures.parted front left

-- both are
pub returns-in_ok-link-in-Some-clause-parted : goal.returns-in_ok-link-in-Some-clause-parted
returns-in_ok-link-in-Some-clause-parted g c front own left rest = c.in_ok-link-in-Some.ensures.parted front (rw c.in-Some.is at own) left (rw c.in-Some.is at rest)
