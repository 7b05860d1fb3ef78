use Rattle.std.proofs.Common.{◌≡◌, ◌↔◌, length}
use Rattle.lookup_core.proofs.aliases.are_same.Given as goal

-- octets are the same where what is left of them is
abbrev pub invariant-loop-eight : goal.invariant-loop-eight
invariant-loop-eight l = record {
  many : length l.rest ≡ length l.there;
  same : (l.octets ≡ l.others) ↔ (l.rest ≡ l.there);
}

abbrev pub decreases-loop-eight : goal.decreases-loop-eight
decreases-loop-eight l = length l.rest
