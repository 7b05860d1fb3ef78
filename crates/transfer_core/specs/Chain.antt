-- Versions after the one that an asker holds, and what they tell of what changed since then (RFC 1995, 4).
use Rattle.std.specs.Prelude.{◌≡◌, ◌≢◌, Bool, true, false, List, [], ◌∷◌, ◌++◌, map, Option, Some, None, unwrap_or}
use Rattle.std.specs.List.{flat_map}
use Rattle.dns_rdata.specs.Record.{Record}
use Rattle.zone_tree.specs.Zone.{soa_of}
use Rattle.zone_tree.specs.Sets.{records_in}
use Rattle.zone_tree.specs.Version.{Version, Changes, KnowsChanges}
use Rattle.transfer_core.specs.Lists.{newest}

-- the zones of versions
abbrev pub zones_of : List Version → List (List Record)
zones_of versions = map (λ v. v.zone) versions

-- versions one after the other, from a zone: each knows what it changed of the one before it
abbrev pub AreBehind : List Record → List Version → Type 0
AreBehind zone [] = Unit {0}
AreBehind zone (v ∷ vs) = KnowsChanges zone v × AreBehind v.zone vs

-- versions lead from the zone that an asker holds to the one that is served: there is one at least, each knows what it changed of
-- the one before it, and the last has the zone that is served
pub record LeadTo (zone : List Record) (versions : List Version) (served : List Record) : Type 0 where
  pub some : versions ≢ []
  pub behind : AreBehind zone versions
  pub last : newest zone (zones_of versions) ≡ served

-- a version's step: the old SOA and the deletions, then its own SOA and the additions; of a version that knows of no change its SOA
-- alone (RFC 1995, 4)
abbrev pub told_step : List Record → Option Changes → List Record
told_step soa None = soa
told_step soa (Some c) = (c.old_soa ++ c.deletions) ++ (soa ++ c.additions)

-- the steps of versions, one after the other
abbrev pub told_steps : List Version → List Record
told_steps versions = flat_map (λ v. told_step (soa_of v.zone) v.changes) versions

-- the list of what changed, by what versions know: the served SOA, the steps, the served SOA (RFC 1995, 4)
abbrev pub reported : List Record → List Version → List Record
reported soa versions = soa ++ (told_steps versions ++ soa)

-- what changed, where each version after the one that the asker holds is there
abbrev pub told_changes : Bool → List Record → List Version → Option (List Record)
told_changes true soa versions = Some (reported soa versions)
told_changes false soa versions = None

-- the records of such a list that are left: of sets, of the half of a step that comes then, of versions, of the set that closes the
-- list
abbrev pub steps_left : List (List Record) → Option (List Record) → List Version → Option (List Record) → List Record
steps_left sets half versions closing = records_in sets ++ (unwrap_or half [] ++ (told_steps versions ++ unwrap_or closing []))
