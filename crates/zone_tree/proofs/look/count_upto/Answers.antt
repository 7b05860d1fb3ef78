-- The owners rise, so the sets that aren't after the name are a front of them.
use Rattle.std.proofs.Common.{rules}
use Rattle.std.proofs.lemmas.List.Sorted.{IsPartitionPoint-from_clause}
use Rattle.std.specs.Ordering.{is_le}
use Rattle.dns_name.specs.Name.{canonical_cmp}
use Rattle.dns_rdata.specs.Record.{owner_of}
use Rattle.zone_tree.proofs.LookLemmas.{parted_upto}
use Rattle.zone_tree.proofs.look.count_upto.Goals as goal

pub returns-clause-place : goal.returns-clause-place
returns-clause-place c =
    IsPartitionPoint-from_clause (λ set. is_le (canonical_cmp (owner_of set) c.args.name.now)) _ _ c.partition_point.ensures.partitioned (parted_upto c.args.sets.now c.requires c.args.name.now) (λ a r q k. search rules)
