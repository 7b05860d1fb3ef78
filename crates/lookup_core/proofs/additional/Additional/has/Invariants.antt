use Rattle.std.proofs.Common.{◌≡◌, false, take}
use Rattle.std.specs.List.{list_any}
use Rattle.lookup_core.specs.Additional.{is_same_set}
use Rattle.lookup_core.proofs.additional.Additional.has.Given as goal

-- none of the entries seen so far has the set
abbrev pub invariant-loop-shown : goal.invariant-loop-shown
invariant-loop-shown l = list_any (λ shown. list_any (is_same_set l.set) shown.sets.now) (take l.shown-index l.shown-items) ≡ false
