use Rattle.std.proofs.Common.{◌≡◌, ◌+◌, ◌≤◌, ◌++◌, length}
use Rattle.shared_tree.specs.Links.{link_pairs, link_height, IsFormed, IsParted, AreOnWay, pairs_on_way}
use Rattle.shared_tree.specs.Fronts.{front_at}
use Rattle.shared_tree.specs.Pairs.{IsAscending, pairs_above}
use Rattle.shared_tree.proofs.walk.go_above.Given as goal

-- the pairs of greater keys below the link that is reached, and those that the way has, are what there is
abbrev pub invariant-loop-below : goal.invariant-loop-below
invariant-loop-below g l = record {
  on_way : AreOnWay 0 l.way.items;
  formed : IsFormed l.below;
  room : length l.way.items + link_height l.below ≤ 64;
  parted : IsParted (front_at g.K.Front.front l.base) l.below;
  ascends : IsAscending g.K.Ord.cmp (link_pairs l.below);
  same : pairs_above g.K.Ord.cmp (g.Q.Seek.key l.sought) (link_pairs l.below) ++ pairs_on_way l.way.items ≡ pairs_above g.K.Ord.cmp (g.Q.Seek.key l.sought) (link_pairs l.link) ++ pairs_on_way l.initial.way.items;
}

abbrev pub decreases-loop-below : goal.decreases-loop-below
decreases-loop-below g l = link_height l.below
