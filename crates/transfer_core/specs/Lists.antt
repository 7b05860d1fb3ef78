-- The lists of records by which a zone is sent: in whole (RFC 5936, 2.2), or as what changed since an older one (RFC 1995, 4).
use Rattle.std.specs.Prelude.{◌≡◌, ◌≢◌, not, ◌==◌, List, [], ◌∷◌, ◌++◌, filter, All, AllPairs, Option, unwrap_or}
use Rattle.dns_rdata.specs.Numbers.{type_SOA, class_IN}
use Rattle.dns_rdata.specs.Record.{Record}
use Rattle.dns_rdata.specs.Raw.{RawRecord}
use Rattle.zone_tree.specs.Zone.{IsZone, soa_of, apex_of}
use Rattle.zone_tree.specs.Sets.{records_in}
use Rattle.zone_tree.specs.Change.{left_out}
use Rattle.zone_tree.specs.Version.{zone_serial}

-- records other than SOAs
abbrev pub beside_soa : List Record → List Record
beside_soa records = filter (λ r. not (r.rtype == type_SOA)) records

-- a zone in whole: its SOA, all its other records in canonical order, its SOA again (RFC 5936, 2.2)
abbrev pub full : List Record → List Record
full zone = soa_of zone ++ beside_soa zone ++ soa_of zone

-- the records of a full list that are left, by the sets to come and the one that closes the list
abbrev pub records_left : List (List Record) → Option (List Record) → List Record
records_left sets closing = beside_soa (records_in sets) ++ unwrap_or closing []

-- the steps from a zone to each of those after it: the old SOA, the deletions, the next SOA, the additions (RFC 1995, 4)
abbrev pub steps : List Record → List (List Record) → List Record
steps zone [] = []
steps zone (next ∷ zones) = soa_of zone ++ left_out zone next ++ soa_of next ++ left_out next zone ++ steps next zones

-- the last of zones, the first of which is given apart
abbrev pub newest : List Record → List (List Record) → List Record
newest zone [] = zone
newest zone (next ∷ zones) = newest next zones

-- what changed from a zone through those after it: the newest SOA, the steps, the newest SOA (RFC 1995, 4)
abbrev pub incremental : List Record → List (List Record) → List Record
incremental zone zones = soa_of (newest zone zones) ++ steps zone zones ++ soa_of (newest zone zones)

-- zones of one apex, whose serials all differ
pub record AreVersions (zone : List Record) (zones : List (List Record)) : Type 0 where
  pub each : All IsZone (zone ∷ zones)
  pub apex : All (λ other. apex_of other ≡ apex_of zone) zones
  pub serials : AllPairs (λ older newer. zone_serial older ≢ zone_serial newer) (zone ∷ zones)

-- a record as it is sent (RFC 1035, 4.1.3)
abbrev pub as_sent : Record → RawRecord
as_sent r = record { owner = r.owner; rtype = r.rtype; class = class_IN; ttl = r.ttl; octets = r.rdata }
