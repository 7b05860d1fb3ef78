use Rattle.std.proofs.Common.{◌≡◌, ◌+◌, ◌≤◌, drop, count_by, nat_lt}
use Rattle.counters.proofs.times.below.Given as goal

-- what was counted, with what is left, is all
abbrev pub invariant-loop-bound : goal.invariant-loop-bound
invariant-loop-bound l = record {
  all : l.count + count_by (λ bound. nat_lt bound l.nanoseconds) (drop l.bound-index l.bounds) ≡ count_by (λ bound. nat_lt bound l.nanoseconds) l.bounds;
  few : l.count ≤ l.bound-index;
}
