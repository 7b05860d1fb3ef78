use Rattle.shared_tree.proofs.node.Maker.with_root.Goals as goal

-- the pair is put below the root
pub returns-in-Some-clause-pairs : goal.returns-in-Some-clause-pairs
returns-in-Some-clause-pairs g c front tree = rw c.in-Some.is (c.with.ensures.pairs front (rw c.in-Some.is at tree))

pub returns-in-Some-clause-parted : goal.returns-in-Some-clause-parted
returns-in-Some-clause-parted g c front own tree = c.with.ensures.parted front own (rw c.in-Some.is at tree)

-- it is the only one
pub returns-in-None-clause-parted : goal.returns-in-None-clause-parted
returns-in-None-clause-parted g c front own tree = c.run_of_one.ensures.parted front own
