use Rattle.std.proofs.Common.{◌≡◌, map, take}
use Rattle.journal.proofs.request.RequestMessages.copied.Given as goal

abbrev pub invariant-loop-message : goal.invariant-loop-message
invariant-loop-message l = map (λ message. message.items) l.copies.items ≡ map (λ message. message.now) (take l.message-index l.messages)
