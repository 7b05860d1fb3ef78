use Rattle.std.proofs.Common.{◌≡◌, length, vec_len}
use Rattle.shared_tree.specs.Fronts.{front_at}
use Rattle.shared_tree.specs.Links.{run_pairs, AreFronted}
use Rattle.shared_tree.proofs.node.Maker.last_entries.Given as goal

-- so far, those that were yielded
abbrev pub invariant-loop-pair : goal.invariant-loop-pair
invariant-loop-pair g l = record {
  pairs : run_pairs l.entries.items ≡ l.yielded;
  length : vec_len l.entries ≡ length l.yielded;
  fronted : AreFronted (front_at g.K.Front.front l.base) l.entries.items;
}
