use Rattle.std.proofs.Common.{◌≡◌, ℕ, take}
use Rattle.shared_tree.specs.Links.{run_pairs, AreFronted}
use Rattle.shared_tree.specs.Pairs.{pairs_below}
use Rattle.shared_tree.proofs.run.entries_below.Given as goal

-- so far, those of lesser keys
abbrev pub invariant-loop-entry : goal.invariant-loop-entry
invariant-loop-entry g l = record {
  pairs : run_pairs l.below.items ≡ pairs_below g.K.Ord.cmp l.key (run_pairs (take l.entry-index l.run));
  fronted : (front : g.row.K.Denot → ℕ) → AreFronted front l.run → AreFronted front l.below.items;
}
