-- Places in the lists of a transfer, and what is left from there (RFC 5936, 2.2; RFC 1995, 2 and 4).
use Rattle.std.specs.Prelude.{ℕ, List, [], ◌∷◌, ◌++◌, drop, Option, Some, None}
use Rattle.dns_name.specs.Name.{Name}
use Rattle.dns_rdata.specs.Record.{Record}
use Rattle.zone_tree.specs.Zone.{soa_of}
use Rattle.zone_tree.specs.From.{records_from}
use Rattle.zone_tree.specs.Sets.{records_in, sets_in}
use Rattle.zone_tree.specs.Version.{Version, Changes}
use Rattle.transfer_core.specs.Chain.{told_steps, reported}
use Rattle.transfer_core.specs.Lists.{full, beside_soa}
use Rattle.transfer_core.specs.declared.place.Part.{Part}
use Rattle.transfer_core.specs.declared.place.Part.TheVariants.{Old, New}
use Rattle.transfer_core.specs.declared.place.Place.{Place}
use Rattle.transfer_core.specs.declared.place.Place.TheVariants.{ZoneStart, InZone, ChangesStart, InChanges, LastSoa, End}

-- the list of a zone in whole from an owner and a type on: the records from there on but for SOAs, and the SOA that closes it
abbrev pub zone_left : List Record → Name → ℕ → List Record
zone_left zone owner rtype = beside_soa (records_from zone owner rtype) ++ soa_of zone

-- the sets of a part of a version's difference sequence: the old SOA and the deletions, or its own SOA and the additions; of a version
-- that knows of no change its SOA alone (RFC 1995, 4)
abbrev pub sets_of_part : Part → List Record → Option Changes → List (List Record)
sets_of_part Old soa None = soa ∷ []
sets_of_part Old soa (Some c) = c.old_soa ∷ sets_in c.deletions
sets_of_part New soa None = []
sets_of_part New soa (Some c) = soa ∷ sets_in c.additions

-- a difference sequence after so many sets of a part
abbrev pub step_left : Part → ℕ → List Record → Option Changes → List Record
step_left Old sent soa changes = records_in (drop sent (sets_of_part Old soa changes)) ++ records_in (sets_of_part New soa changes)
step_left New sent soa changes = records_in (drop sent (sets_of_part New soa changes))

-- the difference sequences of versions, the first one's after so many sets of a part
abbrev pub steps_from : Part → ℕ → List Version → List Record
steps_from part sent [] = []
steps_from part sent (v ∷ vs) = step_left part sent (soa_of v.zone) v.changes ++ told_steps vs

-- what is left of a transfer at a place, of a zone and the versions that lead to it from the one that the asker holds: all of the zone in
-- whole, or all of what changed; a part of them; the SOA, which closes both, and is all of a list that says that the asker's zone is
-- current; or nothing (RFC 5936, 2.2; RFC 1995, 2 and 4)
abbrev pub left_at : List Record → List Version → Place → List Record
left_at zone versions ZoneStart = full zone
left_at zone versions (InZone at) = drop at.sent (zone_left zone at.owner at.rtype.0)
left_at zone versions ChangesStart = reported (soa_of zone) versions
left_at zone versions (InChanges at) = drop at.step.sent (steps_from at.step.part at.step.set (drop at.version versions) ++ soa_of zone)
left_at zone versions LastSoa = soa_of zone
left_at zone versions End = []
