use Rattle.std.proofs.Common.{◌≡◌, take}
use Rattle.std.specs.List.{flat_map}
use Rattle.lookup_core.specs.Additional.{hosts_in, wanted_sets}
use Rattle.lookup_core.specs.Shown.{section_shown, with_more}
use Rattle.lookup_core.proofs.additional.add_data.Given as goal

-- what is wanted of the names in the data seen so far is added
abbrev pub invariant-loop-rdata : goal.invariant-loop-rdata
invariant-loop-rdata g l =
    l.additional ≡ with_more l.initial.additional (wanted_sets (g.Z.ZoneRead.records l.zone) (section_shown l.answer) (flat_map (λ d. hosts_in d.rtype d.octets) (take l.rdata-index l.all)))
