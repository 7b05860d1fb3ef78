use Rattle.std.proofs.Common.{◌-◌, ◌≤◌, length, take, drop}
use Rattle.shared_tree.specs.Links.{run_pairs}
use Rattle.shared_tree.proofs.PairLemmas.{IsBelow, IsAbove}
use Rattle.shared_tree.proofs.look.place_in.Given as goal

-- in front of what is left the keys are lesser, and behind it they are greater
abbrev pub invariant-loop-low : goal.invariant-loop-low
invariant-loop-low g l = record {
  low : l.low ≤ l.high;
  high : l.high ≤ length l.run;
  lesser : IsAbove g.K.Ord.cmp (g.Q.Seek.key l.sought) (take l.low (run_pairs l.run));
  greater : IsBelow g.K.Ord.cmp (g.Q.Seek.key l.sought) (drop l.high (run_pairs l.run));
}

abbrev pub decreases-loop-low : goal.decreases-loop-low
decreases-loop-low g l = l.high - l.low
