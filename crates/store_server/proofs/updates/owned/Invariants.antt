use Rattle.std.proofs.Common.{◌≡◌, map, take}
use Rattle.journal.proofs.StartLemmas.{messages_now}
use Rattle.store_server.proofs.updates.owned.Given as goal

-- those so far
abbrev pub invariant-loop-request : goal.invariant-loop-request
invariant-loop-request l = l.all.items ≡ map messages_now (take l.request-index l.found)
