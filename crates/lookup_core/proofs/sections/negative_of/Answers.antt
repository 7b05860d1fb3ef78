use Rattle.std.proofs.Common.{sym, ap, ◌∙◌}
use Rattle.dns_rdata.specs.Record.{owner_of}
use Rattle.lookup_core.proofs.SectionLemmas.{rtype_of-soa_of, negative_soa-shown}
use Rattle.lookup_core.proofs.sections.negative_of.Goals as goal

pub negative_ttl-requires-clause-typed : goal.negative_ttl-requires-clause-typed
negative_ttl-requires-clause-typed g c = rtype_of-soa_of (g.Z.ZoneRead.records c.args.zone.now) c.args.soa.now c.requires.soa c.requires.one

pub returns : goal.returns
returns g c =
    rw (c.spelt.ensures ∙ c.apex.ensures ∙ ap owner_of (sym c.requires.soa))
    (negative_soa-shown (g.Z.ZoneRead.records c.args.zone.now) c.args.soa.now c.from_ref.result.now c.negative_ttl.result.0 c.requires.soa c.from_ref.ensures.value c.requires.one c.negative_ttl.ensures)
