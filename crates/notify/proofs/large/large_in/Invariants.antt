use Rattle.std.proofs.Common.{◌≡◌, List, ◌++◌, All}
use Rattle.dns_rdata.specs.Record.{Record}
use Rattle.zone_tree.specs.Sets.{sets_in}
use Rattle.notify.specs.declared.large.Many.{Many}
use Rattle.notify.specs.Large.{IsLarge}
use Rattle.notify.proofs.large.large_in.Given as goal

-- none of the sets that are passed is large, or their owners
abbrev pub invariant-loop-set : goal.invariant-loop-set
invariant-loop-set l = (passed : List (List Record)) × (sets_in l.fn.zone ≡ passed ++ l.set-iterator) × All (λ set. (many : Many) → IsLarge l.fn.zone set many → ⊥) passed
