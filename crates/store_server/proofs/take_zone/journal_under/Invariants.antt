use Rattle.std.proofs.Common.{◌≡◌, map, take}
use Rattle.journal.specs.Log.{octets_of}
use Rattle.store_server.proofs.take_zone.journal_under.Given as goal

-- the head, and the frames so far
abbrev pub invariant-loop-number : goal.invariant-loop-number
invariant-loop-number l = l.octets.items ≡ octets_of l.head (map (λ body. body.now) (take l.number l.body-items))
