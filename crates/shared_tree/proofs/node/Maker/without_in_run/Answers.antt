use Rattle.std.proofs.Common.{◌<◌, length, arith}
use Rattle.std.proofs.lemmas.Grind.{common_steps}
use Rattle.shared_tree.proofs.node.Maker.without_in_run.Goals as goal

-- the pairs that are left keep their numbers
pub returns-clause-parted : goal.returns-clause-parted
returns-clause-parted g c front own =
    let some : 0 < length c.in_ok-rest.rest.items = grind (arith, common_steps) in
    c.in_ok-link.ensures.parted front (some, c.in_ok-rest.ensures.fronted front own)
