use Rattle.std.proofs.Common.{◌≡◌, ℕ, ◌<◌, ◌≤◌, get_or}
use Rattle.counters.specs.Sums.{both}
use Rattle.counters.proofs.times.add_each.Given as goal

-- before the place are sums, and from it on what was there
abbrev pub invariant-loop-place : goal.invariant-loop-place
invariant-loop-place l = record {
  before : (k : ℕ) → k < l.place → get_or l.numbers k 0 ≡ both (get_or l.initial.numbers k 0) (get_or l.others k 0);
  after : (k : ℕ) → l.place ≤ k → get_or l.numbers k 0 ≡ get_or l.initial.numbers k 0;
}
