use Rattle.std.proofs.Common.{◌≡◌, ◌≤◌, length, IfSome}
use Rattle.std.specs.List.{find}
use Rattle.dns_name.specs.Name.{wire_of}
use Rattle.zone_tree.specs.Zone.{exists}
use Rattle.lookup_core.specs.Place.{closest_encloser}
use Rattle.lookup_core.proofs.WalkLemmas.{names_from}
use Rattle.lookup_core.proofs.places.closest_encloser.Given as goal

-- the first of the names to come that exists is the closest encloser; `*` fits in front of each
abbrev pub invariant-loop-at : goal.invariant-loop-at
invariant-loop-at g l = record {
  encloser : closest_encloser (g.Z.ZoneRead.records l.zone) l.name ≡ find (exists (g.Z.ZoneRead.records l.zone)) (names_from l.at);
  has_room : IfSome l.at (λ ancestor. length (wire_of ancestor) ≤ 253);
}

abbrev pub decreases-loop-at : goal.decreases-loop-at
decreases-loop-at g l = length (names_from l.at)
