use Rattle.std.proofs.Common.{◌≡◌, ℕ}
use Rattle.shared_tree.specs.Links.{link_pairs, link_height, IsFormed, IsParted}
use Rattle.shared_tree.specs.Pairs.{first_pair}
use Rattle.shared_tree.proofs.look.first_entry.Given as goal

-- the first pair is that of the link that is reached
abbrev pub invariant-loop-below : goal.invariant-loop-below
invariant-loop-below g l = record {
  first : IsFormed l.link → IsFormed l.below × (first_pair (link_pairs l.below) ≡ first_pair (link_pairs l.link));
  parting : (front : g.row.K.Denot → ℕ) → IsParted front l.link → IsParted front l.below × (first_pair (link_pairs l.below) ≡ first_pair (link_pairs l.link));
}

abbrev pub decreases-loop-below : goal.decreases-loop-below
decreases-loop-below g l = link_height l.below
