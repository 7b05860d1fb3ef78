-- The rights of the keys so far, in their order.
use Rattle.std.proofs.Common.{◌≡◌, map, take}
use Rattle.command_line.specs.Keys.{rules_by}
use Rattle.dnsd.proofs.key_rights.rights_of.Given as goal

abbrev pub invariant-loop-index : goal.invariant-loop-index
invariant-loop-index l = map (λ own. own.rules.now) l.rights.items ≡ map (λ key. rules_by key.name l.fn.key_rules) (take l.index l.fn.keys)
