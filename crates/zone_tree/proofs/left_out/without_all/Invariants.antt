use Rattle.std.specs.Prelude.{◌≡◌, ◌<◌, length, drop}
use Rattle.zone_tree.proofs.LackingLemmas.{untold}
use Rattle.zone_tree.proofs.left_out.without_all.Given as goal

-- What is left has records, and without the data still to come it is what is wanted.
pub record invariant-loop-rdata (l : goal.Live-loop-rdata) : Type 0 where
  pub some : 0 < length l.left
  pub is : untold (drop l.rdata-index l.absent) l.left ≡ untold l.absent l.fn.set
