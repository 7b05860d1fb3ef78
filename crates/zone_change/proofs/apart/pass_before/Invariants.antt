use Rattle.std.proofs.Common.{List, ◌++◌, length}
use Rattle.std.specs.Option.{option_copied}
use Rattle.dns_rdata.specs.Record.{Record}
use Rattle.zone_tree.specs.Delta.{DifferOnlyAt}
use Rattle.zone_change.specs.Apart.{sets_left, records_left}
use Rattle.zone_change.proofs.apart.pass_before.Given as goal

-- what was left out at the start is, with what was passed, left out now
abbrev pub invariant-loop-left : goal.invariant-loop-left
invariant-loop-left l =
    (front other : List Record) → DifferOnlyAt l.initial.owners.items (front ++ records_left (option_copied l.initial.left) l.initial.others) other → DifferOnlyAt l.owners.items (front ++ records_left (option_copied l.left) l.others) other

abbrev pub decreases-loop-left : goal.decreases-loop-left
decreases-loop-left l = length (sets_left (option_copied l.left) l.others)
