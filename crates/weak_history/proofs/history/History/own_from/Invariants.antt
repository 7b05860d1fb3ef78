use Rattle.std.proofs.Common.{◌≡◌, drop}
use Rattle.weak_history.specs.History.{numbered_to}
use Rattle.weak_history.proofs.ChainLemmas.{SoFar}
use Rattle.weak_history.proofs.history.History.own_from.Given as goal

-- those in front are owned
abbrev pub invariant-loop-at : goal.invariant-loop-at
invariant-loop-at g l =
    (l.self ≡ l.initial.self) × SoFar (numbered_to l.upto (drop l.first l.initial.self.entries)) (numbered_to l.upto (drop l.at l.initial.self.entries)) l.initial.reader l.reader l.owners
