use Rattle.std.proofs.Common.{◌≡◌, ℕ, List, Some}
use Rattle.commands.proofs.InputLemmas.{IsOnTheWayToZone}
use Rattle.commands.proofs.input.read_zone_text.Given as goal

-- what was read and the text at the front of the rest are the text at the front of the whole input
abbrev pub invariant-loop : goal.invariant-loop
invariant-loop g l = (input : List ℕ) → g.R.Read.remaining l.initial.reader ≡ Some input → IsOnTheWayToZone input (g.R.Read.remaining l.reader) l.text.items
