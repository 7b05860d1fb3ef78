use Rattle.shared_tree.proofs.node.Maker.with_rest_left.Goals as goal

-- the right side is left
pub returns-in_ok-right-in-None-clause-parted : goal.returns-in_ok-right-in-None-clause-parted
returns-in_ok-right-in-None-clause-parted g c front node rest = c.in_ok-right-in-None.ensures.parted front node.2

-- both are
pub returns-in_ok-link-in-Some-clause-parted : goal.returns-in_ok-link-in-Some-clause-parted
returns-in_ok-link-in-Some-clause-parted g c front node rest = c.in_ok-link-in-Some.ensures.parted front (rw c.in-Some.is at rest) node
