use Rattle.std.proofs.Common.{◌≡◌, ◌+◌, ◌≤◌, ◌++◌, length}
use Rattle.shared_tree.specs.Links.{link_pairs, link_height, IsFormed, AreOnWay, pairs_on_way}
use Rattle.shared_tree.proofs.walk.go_down.Given as goal

-- what is below the link that is reached, and what the way has, are what there is
abbrev pub invariant-loop-below : goal.invariant-loop-below
invariant-loop-below g l = record {
  on_way : AreOnWay 0 l.way.items;
  formed : IsFormed l.below;
  room : length l.way.items + link_height l.below ≤ 64;
  same : link_pairs l.below ++ pairs_on_way l.way.items ≡ link_pairs l.link ++ pairs_on_way l.initial.way.items;
}

abbrev pub decreases-loop-below : goal.decreases-loop-below
decreases-loop-below g l = link_height l.below
