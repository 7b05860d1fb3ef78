use Rattle.std.proofs.Common.{◌≡◌, ◌==◌, false, take}
use Rattle.std.specs.List.{list_any}
use Rattle.lookup_core.proofs.additional.has_type.Given as goal

-- none of the sets seen so far has records of the type
abbrev pub invariant-loop-set : goal.invariant-loop-set
invariant-loop-set l = list_any (λ set. list_any (λ r. r.rtype == l.rtype.0) set) (take l.set-index l.sets) ≡ false
