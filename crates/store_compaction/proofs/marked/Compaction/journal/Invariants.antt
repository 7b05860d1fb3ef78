use Rattle.std.proofs.Common.{◌≡◌, map, take}
use Rattle.journal.specs.Log.{octets_of}
use Rattle.store_compaction.proofs.marked.Compaction.journal.Given as goal

abbrev pub invariant-loop-number : goal.invariant-loop-number
invariant-loop-number l = l.octets.items ≡ octets_of l.head (map (λ body. body.octets.items) (take l.number l.self.bodies.items))
