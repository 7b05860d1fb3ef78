use Rattle.std.proofs.Common.{rules}
use Rattle.counters.specs.declared.transport.Transport.TheVariants.{Udp}
use Rattle.counters.specs.declared.address_family.AddressFamily.TheVariants.{V4}
use Rattle.metric_families.specs.Counted.{all_ways, way_sample}
use Rattle.metric_families.proofs.EachLemmas.{one_more}
use Rattle.metric_families.proofs.counted.queries.Goals as goal

pub loop-way-preserved : goal.loop-way-preserved
loop-way-preserved c =
    one_more (λ way. way_sample way.0 way.1 c.args.sum.now.numbers) c.loop-way.family _ _ all_ways c.loop-way.way-index (Udp, V4) c.loop-way-test.true (search rules) c.loop-way.invariant
