use Rattle.std.proofs.Common.{◌≡◌, ◌≤◌, ℕ, take, vec_len}
use Rattle.shared_tree.specs.Links.{run_pairs, AreFronted}
use Rattle.shared_tree.specs.Pairs.{pairs_without}
use Rattle.shared_tree.proofs.run.entries_without.Given as goal

-- so far, those of other keys
abbrev pub invariant-loop-entry : goal.invariant-loop-entry
invariant-loop-entry g l = record {
  pairs : run_pairs l.rest.items ≡ pairs_without g.K.Ord.cmp (g.Q.Seek.key l.sought) (run_pairs (take l.entry-index l.run));
  fronted : (front : g.row.K.Denot → ℕ) → AreFronted front l.run → AreFronted front l.rest.items;
  length : vec_len l.rest ≤ l.entry-index;
}
