use Rattle.shared_tree.proofs.node.Maker.parted_anew.Goals as goal

-- the left side is left
pub returns-in_ok-left-in-None-clause-parted : goal.returns-in_ok-left-in-None-clause-parted
returns-in_ok-left-in-None-clause-parted g c front left rest = c.in_ok-left-in-None.ensures.parted front left

-- both are
pub returns-in_ok-link-in-Some-clause-parted : goal.returns-in_ok-link-in-Some-clause-parted
returns-in_ok-link-in-Some-clause-parted g c front left rest =
    let right = rw c.in-Some.is at rest in
    c.in_ok-link-in-Some.ensures.parted front (c.in_ok-parting-in-Some.ensures front right) (c.in_ok-share-in-Some.ensures.parted front left) right
