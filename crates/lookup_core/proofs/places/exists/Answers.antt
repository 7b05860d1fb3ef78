use Rattle.std.proofs.Common.{sym, ap, ◌∙◌}
use Rattle.dns_name.specs.Name.{is_under}
use Rattle.lookup_core.proofs.ApexLemmas.{exists_above}
use Rattle.lookup_core.proofs.places.exists.Goals as goal

-- the name is the apex, or above it
pub returns-then-is_under : goal.returns-then-is_under
returns-then-is_under g c =
    c.if-is_under.true ∙ sym (exists_above (g.Z.ZoneRead.records c.args.zone.now) c.apex.ensures.lawful c.args.name.now
    (ap (λ apex. is_under apex c.args.name.now) (sym c.apex.ensures.name) ∙ sym c.is_under.ensures ∙ c.if-is_under.true))
