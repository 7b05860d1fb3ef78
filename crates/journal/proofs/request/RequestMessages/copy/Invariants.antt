use Rattle.std.proofs.Common.{◌≡◌, map, take}
use Rattle.journal.proofs.request.RequestMessages.copy.Given as goal

abbrev pub invariant-loop-message : goal.invariant-loop-message
invariant-loop-message l = map (λ message. message.items) l.more.items ≡ map (λ message. message.items) (take l.message-index l.message-items)
