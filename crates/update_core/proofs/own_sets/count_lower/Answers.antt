-- The types ascend, so the sets of lower types are a front of them.
use Rattle.std.proofs.Common.{rules}
use Rattle.std.proofs.lemmas.List.Sorted.{IsPartitionPoint-from_clause}
use Rattle.std.specs.Ordering.{nat_cmp, is_lt}
use Rattle.dns_rdata.specs.Record.{rtype_of}
use Rattle.zone_tree.proofs.FromLemmas.{types_parted}
use Rattle.update_core.proofs.own_sets.count_lower.Goals as goal

pub returns-clause-place : goal.returns-clause-place
returns-clause-place c =
    IsPartitionPoint-from_clause (λ set. is_lt (nat_cmp (rtype_of set) c.args.rtype.0)) _ _ c.partition_point.ensures.partitioned (types_parted c.args.sets.now c.requires c.args.rtype.0) (λ a r q k. search rules)
