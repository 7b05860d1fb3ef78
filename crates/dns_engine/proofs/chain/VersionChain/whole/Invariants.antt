-- The versions so far, with those of the owners that are left, are all.
use Rattle.std.proofs.Common.{◌≡◌, ◌+◌, ◌++◌, length}
use Rattle.dns_engine.specs.Owned.{versions_of}
use Rattle.dns_engine.proofs.chain.VersionChain.whole.Given as goal

abbrev pub invariant-loop-at : goal.invariant-loop-at
invariant-loop-at g l = (l.versions ++ versions_of l.left ≡ versions_of l.initial.left) × (length l.versions ≡ l._at) × (l._at + length l.left ≡ length l.initial.left)
