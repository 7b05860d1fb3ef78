use Rattle.std.proofs.Common.{◌≡◌, ◌↔◌, length}
use Rattle.wire_names.proofs.part.differ.Given as goal

-- labels are the same where what is left of them is
abbrev pub invariant-loop-eight : goal.invariant-loop-eight
invariant-loop-eight l = record {
  many : length l.rest ≡ length l.others;
  same : (l.label ≡ l.other) ↔ (l.rest ≡ l.others);
}

abbrev pub decreases-loop-eight : goal.decreases-loop-eight
decreases-loop-eight l = length l.rest
