use Rattle.std.proofs.Common.{◌≡◌, ◌+◌, drop, false}
use Rattle.zone_lexing.specs.Items.{run_len}
use Rattle.zone_lexing.proofs.item.run_len.Given as goal

abbrev pub invariant-loop-at : goal.invariant-loop-at
invariant-loop-at l = l.at + run_len l.run l.escaped (drop l.at l.text) ≡ run_len l.run false l.text
