use Rattle.std.proofs.Common.{◌<◌, length, arith}
use Rattle.shared_tree.proofs.node.Maker.with_in_run.Goals as goal

-- both runs are parted
pub returns-then-len-gt-MAX_RUN-clause-parted : goal.returns-then-len-gt-MAX_RUN-clause-parted
returns-then-len-gt-MAX_RUN-clause-parted g c front own run = c.halved.ensures.parted front (c.in_ok-entries.ensures.fronted front own run)

-- the one is
pub returns-clause-parted : goal.returns-clause-parted
returns-clause-parted g c front own run =
    let some : 0 < length c.in_ok-entries.entries.items = omega (arith, c.in_ok-entries.ensures.some) in
    c.run.ensures.parted front (some, c.in_ok-entries.ensures.fronted front own run)
