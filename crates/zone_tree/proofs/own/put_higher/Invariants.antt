use Rattle.std.proofs.Common.{◌≡◌, ◌++◌, filter, take}
use Rattle.std.specs.Ordering.{nat_cmp, is_gt}
use Rattle.dns_rdata.specs.Record.{rtype_of}
use Rattle.zone_tree.proofs.own.put_higher.Given as goal

abbrev pub invariant-loop-set : goal.invariant-loop-set
invariant-loop-set l = l.to.items ≡ l.initial.to.items ++ filter (λ set. is_gt (nat_cmp (rtype_of set) l.rtype.0)) (take l.set-index l.own)
