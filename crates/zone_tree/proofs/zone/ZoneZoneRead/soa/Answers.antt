-- The set of the SOA's type at the apex.
use Rattle.std.proofs.Common.{sym, ap, ◌∙◌, length}
use Rattle.std.specs.Option.{option_copied}
use Rattle.zone_tree.specs.Zone.{soa_of}
use Rattle.zone_tree.proofs.ApexLemmas.{apex_sets}
use Rattle.zone_tree.proofs.FiledLemmas.{soa_none, soa_some}
use Rattle.zone_tree.proofs.zone.ZoneZoneRead.soa.Goals as goal

pub unreachable-requires : goal.unreachable-requires
unreachable-requires c =
    soa_none c.self.inside.apex c.self.inside.count c.self.inside.owners.pairs c.self.invariant c.first_sets.result.now (c.first_sets.ensures ∙ apex_sets c.self.inside.apex c.self.inside.count c.self.inside.owners.pairs c.self.invariant) (sym c.set_of_type.ensures ∙ ap option_copied c.in-None.is)

pub returns-clause-set : goal.returns-clause-set
returns-clause-set c =
    soa_some c.self.inside.apex c.self.inside.count c.self.inside.owners.pairs c.self.invariant c.first_sets.result.now (c.first_sets.ensures ∙ apex_sets c.self.inside.apex c.self.inside.count c.self.inside.owners.pairs c.self.invariant) c.in-Some.set.now (sym c.set_of_type.ensures ∙ ap option_copied c.in-Some.is)
    ∙ ap soa_of c.self.view_is

pub returns-clause-one : goal.returns-clause-one
returns-clause-one c = ap length (returns-clause-set c ∙ ap soa_of (sym c.self.view_is)) ∙ c.self.invariant.lawful.rules.one_soa
