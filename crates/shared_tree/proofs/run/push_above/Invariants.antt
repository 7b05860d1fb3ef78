use Rattle.std.proofs.Common.{◌≡◌, ◌++◌, ℕ, take}
use Rattle.shared_tree.specs.Links.{run_pairs, AreFronted}
use Rattle.shared_tree.specs.Pairs.{pairs_above}
use Rattle.shared_tree.proofs.run.push_above.Given as goal

-- so far, those of greater keys have come
abbrev pub invariant-loop-entry : goal.invariant-loop-entry
invariant-loop-entry g l = record {
  pairs : run_pairs l.entries.items ≡ run_pairs l.initial.entries.items ++ pairs_above g.K.Ord.cmp l.key (run_pairs (take l.entry-index l.run));
  fronted : (front : g.row.K.Denot → ℕ) → AreFronted front l.run → AreFronted front l.initial.entries.items → AreFronted front l.entries.items;
}
