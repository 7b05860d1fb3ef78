use Rattle.std.proofs.Common.{◌≡◌, List, ◌∷◌, ◌++◌, drop}
use Rattle.dns_rdata.specs.Record.{Record}
use Rattle.zone_tree.specs.Sets.{records_in}
use Rattle.transfer_core.proofs.step.pass_sets.Given as goal

-- what is left of the sets from the one that is reached is what is left
abbrev pub invariant-loop-at : goal.invariant-loop-at
invariant-loop-at l = (rest : List Record) → drop l.left (records_in (drop l.at (l.fn.soa ∷ l.fn.sets)) ++ rest) ≡ drop l.fn.sent (records_in (drop l.fn.from (l.fn.soa ∷ l.fn.sets)) ++ rest)
