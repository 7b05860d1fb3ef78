use Rattle.std.proofs.Common.{◌≡◌, take}
use Rattle.std.specs.List.{flat_map}
use Rattle.lookup_core.specs.Additional.{hosts_of, wanted_sets}
use Rattle.lookup_core.specs.Shown.{section_shown, with_more}
use Rattle.lookup_core.proofs.additional.add_section.Given as goal

-- what is wanted of the names in the entries seen so far is added
abbrev pub invariant-loop-shown : goal.invariant-loop-shown
invariant-loop-shown g l =
    l.additional
    ≡ with_more l.initial.additional (wanted_sets (g.Z.ZoneRead.records l.zone) (section_shown l.answer) (flat_map (λ shown. hosts_of (flat_map (λ set. set) shown.sets.now)) (take l.shown-index l.section)))
