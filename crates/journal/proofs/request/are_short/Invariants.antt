use Rattle.std.proofs.Common.{map, take}
use Rattle.std.specs.Prelude.{All}
use Rattle.journal.specs.Batch.{IsShort}
use Rattle.journal.proofs.request.are_short.Given as goal

abbrev pub invariant-loop-message : goal.invariant-loop-message
invariant-loop-message l = All IsShort (map (λ message. message.items) (take l.message-index l.messages))
