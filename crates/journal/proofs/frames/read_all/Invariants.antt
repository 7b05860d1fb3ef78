use Rattle.std.proofs.Common.{◌≤◌, ◌+◌, length, map}
use Rattle.journal.proofs.FramesLemmas.{SoFar}
use Rattle.journal.proofs.frames.read_all.Given as goal

abbrev pub invariant-loop-body : goal.invariant-loop-body
invariant-loop-body l = record {
  read : SoFar l.salt l.octets (map (λ body. body.now) l.bodies.items) l.rest;
  count : l.digested + length l.rest ≤ l.initial.digested + length l.octets;
}

abbrev pub decreases-loop-body : goal.decreases-loop-body
decreases-loop-body l = length l.rest
