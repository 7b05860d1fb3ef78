use Rattle.shared_tree.proofs.node.Maker.without_root.Goals as goal

-- the pair goes from below the root
pub returns-in-Some-clause-pairs : goal.returns-in-Some-clause-pairs
returns-in-Some-clause-pairs g c front tree = rw c.in-Some.is (c.without.ensures.pairs front (rw c.in-Some.is at tree))

pub returns-in-Some-clause-parted : goal.returns-in-Some-clause-parted
returns-in-Some-clause-parted g c front tree = c.without.ensures.parted front (rw c.in-Some.is at tree)
