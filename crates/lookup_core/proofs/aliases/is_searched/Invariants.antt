use Rattle.std.proofs.Common.{◌≡◌, false, take}
use Rattle.std.specs.List.{list_any}
use Rattle.dns_name.specs.Name.{is_same}
use Rattle.lookup_core.proofs.aliases.is_searched.Given as goal

-- none of the aliases seen so far was found at the name
abbrev pub invariant-loop-alias : goal.invariant-loop-alias
invariant-loop-alias l = list_any (λ alias. is_same alias.owner l.name) (take l.alias-index l.aliases) ≡ false
