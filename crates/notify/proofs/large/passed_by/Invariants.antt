use Rattle.std.proofs.Common.{take, All}
use Rattle.dns_rdata.specs.Record.{owner_of, rtype_of}
use Rattle.notify.specs.declared.large.Many.{Many}
use Rattle.notify.specs.Large.{HasPassed}
use Rattle.notify.proofs.large.passed_by.Given as goal

-- none of the owners that are passed has passed the limit
abbrev pub invariant-loop-set : goal.invariant-loop-set
invariant-loop-set l = All (λ set. (many : Many) → HasPassed l.before l.after (owner_of set) (rtype_of set) many → ⊥) (take l.set-index l.added)
