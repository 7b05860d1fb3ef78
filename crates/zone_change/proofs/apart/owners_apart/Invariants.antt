use Rattle.std.proofs.Common.{◌≡◌, ◌++◌, List}
use Rattle.std.specs.Option.{option_copied}
use Rattle.dns_rdata.specs.Record.{Record}
use Rattle.zone_tree.specs.Delta.{DifferOnlyAt}
use Rattle.zone_tree.specs.Sets.{records_in}
use Rattle.zone_change.specs.Apart.{records_left}
use Rattle.zone_change.proofs.apart.owners_apart.Given as goal

-- the records that were passed in the one zone, and those that are left in the other, differ from the other only at the owners
abbrev pub invariant-loop-set : goal.invariant-loop-set
invariant-loop-set l = (front : List Record) × (l.zone ≡ front ++ records_in l.set-iterator) × DifferOnlyAt l.owners.items (front ++ records_left (option_copied l.next) l.others) l.other
