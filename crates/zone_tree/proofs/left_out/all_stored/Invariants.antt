use Rattle.std.proofs.Common.{◌≡◌, map, take}
use Rattle.dns_name.specs.Name.{fold_name}
use Rattle.zone_tree.proofs.left_out.all_stored.Given as goal

abbrev pub invariant-loop-name : goal.invariant-loop-name
invariant-loop-name l = l.owners.items ≡ map fold_name (take l.name-index l.names)
