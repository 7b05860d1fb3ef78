use Rattle.std.proofs.Common.{◌≡◌, ◌+◌, ◌<◌, ◌^◌, length}
use Rattle.zone_lexing.specs.Items.{items}
use Rattle.zone_lexing.specs.Entries.{nested}
use Rattle.zone_lexing.proofs.parentheses.nested.Given as goal

abbrev pub invariant-loop-token : goal.invariant-loop-token
invariant-loop-token l = (nested (l.above + 1) (items 0 l.rest) ≡ nested (l.fn.lines + 1) (items 0 l.text)) × (l.above + length l.rest < 2 ^ 64)

abbrev pub decreases-loop-token : goal.decreases-loop-token
decreases-loop-token l = length l.rest
