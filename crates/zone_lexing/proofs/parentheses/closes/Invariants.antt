use Rattle.std.proofs.Common.{◌≡◌, length}
use Rattle.zone_lexing.specs.Items.{items}
use Rattle.zone_lexing.specs.Entries.{closes}
use Rattle.zone_lexing.proofs.parentheses.closes.Given as goal

abbrev pub invariant-loop-token : goal.invariant-loop-token
invariant-loop-token l = closes (items 0 l.rest) ≡ closes (items 0 l.text)

abbrev pub decreases-loop-token : goal.decreases-loop-token
decreases-loop-token l = length l.rest
