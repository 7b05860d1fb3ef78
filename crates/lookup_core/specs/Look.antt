-- What is found at a name in a zone (RFC 1034, 4.3.2; RFC 4592, 2.2 and 3.3).
use Rattle.std.specs.Prelude.{ℕ, Bool, ◌&&◌, not, ◌==◌, List, map, None, if◌then◌else◌}
use Rattle.dns_name.specs.Name.{Name}
use Rattle.dns_rdata.specs.Numbers.{type_CNAME, type_ANY}
use Rattle.dns_rdata.specs.Record.{Record, shown_as}
use Rattle.zone_tree.specs.Zone.{rrset_of, rrsets_of}
use Rattle.lookup_core.specs.declared.matched.Place.TheVariants as place
use Rattle.lookup_core.specs.Place.{place_below, is_none_of}

-- what is found: a zone cut at or above the name; an alias; data of the type asked; a name without such data; no name
pub data Look : Type 0 where
  Cut : Name → Look
  Alias : List Record → Look
  Data : List Record → Look
  NoData : Look
  NoName : Look

-- the records of the type asked at a name, all of them for ANY (RFC 1035, 3.2.3)
abbrev pub data_at : List Record → Name → ℕ → List Record
data_at zone name rtype = if rtype == type_ANY then rrsets_of zone name else rrset_of zone name rtype

-- whether a type is answered by an alias in place of itself: neither CNAME nor ANY (RFC 1034, 3.6.2 and 4.3.2, step 3a)
abbrev pub follows_aliases : ℕ → Bool
follows_aliases rtype = not (rtype == type_CNAME) && not (rtype == type_ANY)

-- records under the name searched, which differs from their owner where they are synthesized (RFC 4592, 3.3)
abbrev pub owned_by : Name → List Record → List Record
owned_by name rs = map (shown_as name None) rs

-- what the records at a name say of a type, under the name searched (RFC 1034, 4.3.2, step 3a)
abbrev pub found_at : List Record → Name → Name → ℕ → Look
found_at zone at name rtype =
    if follows_aliases rtype && not (is_none_of (rrset_of zone at type_CNAME)) then Alias (owned_by name (rrset_of zone at type_CNAME))
    else if is_none_of (data_at zone at rtype) then NoData
    else Data (owned_by name (data_at zone at rtype))

-- what is found at a name: a zone cut; what the records there, else those at the source of synthesis, say; or no name
-- (RFC 1034, 4.3.2, step 3; RFC 4592, 3.3)
abbrev pub look : List Record → Name → ℕ → Look
look zone name rtype =
    elim (place_below zone name) [
      | place.Cut cut ↦ Cut cut
      | place.Exact ↦ found_at zone name name rtype
      | place.Wild source ↦ found_at zone source name rtype
      | place.Missing ↦ NoName
      | place.Outside ↦ NoName
    ]
