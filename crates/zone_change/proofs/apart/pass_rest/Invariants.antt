use Rattle.std.proofs.Common.{List, ◌++◌, length}
use Rattle.dns_rdata.specs.Record.{Record}
use Rattle.zone_tree.specs.Delta.{DifferOnlyAt}
use Rattle.zone_tree.specs.Sets.{records_in}
use Rattle.zone_change.proofs.apart.pass_rest.Given as goal

-- what was left out at the start is, with what was passed, left out now
abbrev pub invariant-loop-there : goal.invariant-loop-there
invariant-loop-there l = (front other : List Record) → DifferOnlyAt l.initial.owners.items (front ++ records_in l.initial.others) other → DifferOnlyAt l.owners.items (front ++ records_in l.others) other

abbrev pub decreases-loop-there : goal.decreases-loop-there
decreases-loop-there l = length l.others
