use Rattle.std.proofs.Common.{◌≡◌, ◌++◌, map, take, drop}
use Rattle.std.specs.Char.{to_ascii_lowercase}
use Rattle.dns_name.proofs.kept.lower_between.Given as goal

abbrev pub invariant-loop-octet : goal.invariant-loop-octet
invariant-loop-octet l = l.octet-items ≡ map to_ascii_lowercase (take l.octet-index l.initial.octet-items) ++ drop l.octet-index l.initial.octet-items
