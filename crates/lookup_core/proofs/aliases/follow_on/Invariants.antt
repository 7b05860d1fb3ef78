use Rattle.std.proofs.Common.{◌≡◌, ℕ, ◌+◌, length, map}
use Rattle.dns_name.specs.Name.{fold_name}
use Rattle.lookup_core.specs.declared.aliases.TheConstants.{MOST_ALIASES}
use Rattle.lookup_core.specs.Look.{look}
use Rattle.lookup_core.specs.Shown.{look_shown, HasItsServers}
use Rattle.lookup_core.proofs.AliasLemmas.{IsOnTheWay}
use Rattle.lookup_core.proofs.aliases.follow_on.Given as goal

-- what remains is looked up at the name in hand, where this was found, and as many aliases were followed as there were turns; the names
-- searched are kept in lower case
abbrev pub invariant-loop : goal.invariant-loop
invariant-loop g l = record {
  way : (more : ℕ) → more + l.counter ≡ MOST_ALIASES → IsOnTheWay (g.Z.ZoneRead.records l.zone) l.name l.rtype.0 l.aliases.items more l.searched;
  count : length l.aliases.items ≡ l.counter;
  names : l.names.items ≡ map (λ alias. fold_name alias.owner) l.aliases.items;
  folded : l.folded ≡ fold_name l.searched;
  seen : look_shown l.searched l.found ≡ look (g.Z.ZoneRead.records l.zone) l.searched l.rtype.0;
  servers : HasItsServers (g.Z.ZoneRead.records l.zone) l.searched l.found;
}
