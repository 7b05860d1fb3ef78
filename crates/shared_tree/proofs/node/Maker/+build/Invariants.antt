use Rattle.shared_tree.proofs.node.Maker.+build.Given as goal

-- half the pairs are left to build
abbrev pub decreases-build : goal.decreases-build
decreases-build g l = l.count
