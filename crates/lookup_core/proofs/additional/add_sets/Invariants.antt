use Rattle.std.proofs.Common.{◌≡◌, take}
use Rattle.std.specs.List.{flat_map}
use Rattle.lookup_core.specs.Additional.{hosts_of, wanted_sets}
use Rattle.lookup_core.specs.Shown.{section_shown, with_more}
use Rattle.lookup_core.proofs.additional.add_sets.Given as goal

-- what is wanted of the names in the sets seen so far is added
abbrev pub invariant-loop-set : goal.invariant-loop-set
invariant-loop-set g l =
    l.additional ≡ with_more l.initial.additional (wanted_sets (g.Z.ZoneRead.records l.zone) (section_shown l.answer) (flat_map hosts_of (take l.set-index l.sets)))
