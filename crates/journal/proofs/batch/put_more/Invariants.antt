use Rattle.std.proofs.Common.{◌≡◌, ◌++◌, drop, map}
use Rattle.journal.specs.Batch.{more_octets}
use Rattle.journal.proofs.batch.put_more.Given as goal

-- what was put, with what is left, is all
abbrev pub invariant-loop-message : goal.invariant-loop-message
invariant-loop-message l =
    l.batch.items ++ more_octets (map (λ message. message.items) (drop l.message-index l.more)) ≡ l.initial.batch.items ++ more_octets (map (λ message. message.items) l.more)
