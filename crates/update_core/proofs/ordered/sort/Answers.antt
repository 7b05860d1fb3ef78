use Rattle.std.proofs.Common.{ap, rules}
use Rattle.std.specs.Ordering.{is_lt}
use Rattle.std.proofs.lemmas.List.Sorted.{answers_always, ranks_by}
use Rattle.dns_rdata.specs.Raw.{RawRecord}
use Rattle.update_core.specs.Ordered.{sought_cmp}
use Rattle.update_core.proofs.SearchLemmas.{sought_total}
use Rattle.update_core.proofs.ordered.sort.Goals as goal

-- the closure compares records by the order
pub returns-clause-sorted : goal.returns-clause-sorted
returns-clause-sorted c =
    c.sort_unstable_by.ensures.sorted (λ x y. is_lt (sought_cmp x y)) (ranks_by sought_total (λ (r : RawRecord). r)) (answers_always _ _ _ (λ f a r g called. ap is_lt (search rules)))
