use Rattle.std.proofs.Common.{◌≡◌}
use Rattle.std.specs.Option.{option_or, option_copied}
use Rattle.shared_tree.specs.Fronts.{front_at}
use Rattle.shared_tree.specs.Links.{link_pairs, link_height, IsParted}
use Rattle.shared_tree.specs.Pairs.{IsAscending, pair_at, pair_before, pair_after}
use Rattle.shared_tree.proofs.look.around_in.Given as goal

-- the key's pair and those next to it stand below the link that is reached, or else the one behind it was passed last
abbrev pub invariant-loop-below : goal.invariant-loop-below
invariant-loop-below g l = record {
  ascends : IsAscending g.K.Ord.cmp (link_pairs l.below);
  parted : IsParted (front_at g.K.Front.front l.base) l.below;
  at : pair_at g.K.Ord.cmp (g.Q.Seek.key l.sought) (link_pairs l.below) ≡ pair_at g.K.Ord.cmp (g.Q.Seek.key l.sought) (link_pairs l.link);
  before : pair_before g.K.Ord.cmp (g.Q.Seek.key l.sought) (link_pairs l.below) ≡ pair_before g.K.Ord.cmp (g.Q.Seek.key l.sought) (link_pairs l.link);
  behind : option_or (pair_after g.K.Ord.cmp (g.Q.Seek.key l.sought) (link_pairs l.below)) (option_copied l.behind) ≡ pair_after g.K.Ord.cmp (g.Q.Seek.key l.sought) (link_pairs l.link);
}

abbrev pub decreases-loop-below : goal.decreases-loop-below
decreases-loop-below g l = link_height l.below
