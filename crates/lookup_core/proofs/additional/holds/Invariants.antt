use Rattle.std.proofs.Common.{◌≡◌, false, take}
use Rattle.std.specs.List.{list_any}
use Rattle.lookup_core.specs.Additional.{is_same_set}
use Rattle.lookup_core.proofs.additional.holds.Given as goal

-- none of the sets seen so far is the same
abbrev pub invariant-loop-other : goal.invariant-loop-other
invariant-loop-other l = list_any (is_same_set l.set) (take l.other-index l.sets) ≡ false
