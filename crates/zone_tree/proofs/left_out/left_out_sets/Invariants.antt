use Rattle.std.proofs.Common.{◌≡◌, take}
use Rattle.std.specs.List.{AllByRecursion}
use Rattle.zone_tree.specs.Delta.{sets_left_out, sets_of, AreWholeAt}
use Rattle.zone_tree.proofs.left_out.left_out_sets.Given as goal

pub record invariant-loop-owner (l : goal.Live-loop-owner) : Type 0 where
  pub sets : l.sets.items ≡ sets_left_out (sets_of l.zone (take l.owner-index l.owners)) l.other
  pub whole : AllByRecursion (AreWholeAt l.zone) (take l.owner-index l.owners)
