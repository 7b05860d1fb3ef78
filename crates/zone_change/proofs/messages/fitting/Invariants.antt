use Rattle.std.proofs.Common.{◌≡◌, ◌+◌, take}
use Rattle.zone_change.specs.Messages.{octets_in}
use Rattle.zone_change.proofs.messages.fitting.Given as goal

-- the records so far have taken what isn't left of the room
abbrev pub invariant-loop-count : goal.invariant-loop-count
invariant-loop-count l = octets_in l.zone (take l.count l.records) + l.left ≡ l.fn.room
