use Rattle.std.proofs.Common.{ap, ◌∙◌, length}
use Rattle.dns_rdata.specs.Record.{rtype_of}
use Rattle.zone_tree.proofs.VersionLemmas.{rtype_of-soa}
use Rattle.zone_tree.proofs.delta.Delta.between.Goals as goal

-- the SOA is the zone's
pub invariant_of-result : goal.invariant_of-result
invariant_of-result c = record {
  typed = ap rtype_of c.in_ok-copy.ensures ∙ rtype_of-soa c.args.before.now c.soa.result.now c.soa.ensures.set c.soa.ensures.one;
  one = ap length c.in_ok-copy.ensures ∙ c.soa.ensures.one;
  taken_out = c.in_ok-left_out_sets.ensures.ascending;
  put_in = c.in_ok-left_out_sets-2.ensures.ascending;
}
