-- Where a name stands in a zone (RFC 1034, 4.3.2, steps 2 and 3; RFC 4592, 2.2.3 and 3.3.1).
use Rattle.std.specs.Prelude.{Bool, ◌&&◌, not, ◌==◌, List, ◌∷◌, reverse, drop, length, find, Option, Some, None, if◌then◌else◌}
use Rattle.dns_name.specs.Name.{Name, is_same, is_under, self_and_ancestors, asterisk}
use Rattle.dns_rdata.specs.Numbers.{type_NS}
use Rattle.dns_rdata.specs.Record.{Record}
use Rattle.zone_tree.specs.Zone.{rrset_of, exists, apex_of}
use Rattle.lookup_core.specs.declared.matched.Place.{Place}
use Rattle.lookup_core.specs.declared.matched.Place.TheVariants.{Outside, Cut, Exact, Wild, Missing}

-- whether there are no records
abbrev pub is_none_of : List Record → Bool
is_none_of rs = length rs == 0

-- whether a name is a zone cut: another name than the apex that owns NS (RFC 2181, 6)
abbrev pub is_cut : List Record → Name → Bool
is_cut zone name = not (is_same name (apex_of zone)) && not (is_none_of (rrset_of zone name type_NS))

-- the first zone cut on the way down from the apex to the name (RFC 1034, 4.3.2, step 3b)
abbrev pub cut_of : List Record → Name → Option Name
cut_of zone name = find (is_cut zone) (reverse (self_and_ancestors name))

-- of the name's ancestors that exist, the one with most labels (RFC 4592, 3.3.1)
abbrev pub closest_encloser : List Record → Name → Option Name
closest_encloser zone name = find (exists zone) (drop 1 (self_and_ancestors name))

-- the source of synthesis: `*` before the closest encloser (RFC 4592, 3.3.1)
abbrev pub source_of : List Record → Name → Option Name
source_of zone name = elim (closest_encloser zone name) [ None ↦ None | Some encloser ↦ Some (asterisk ∷ encloser) ]

-- where a name stands on the way down from the apex: at or below a zone cut; at a name that exists; else at the source of
-- synthesis where that exists, else nowhere (RFC 1034, 4.3.2, step 3; RFC 4592, 3.3)
abbrev pub place_below : List Record → Name → Place
place_below zone name =
    elim (cut_of zone name) [
      | Some cut ↦ Cut cut
      | None ↦
          if exists zone name then Exact
          else elim (source_of zone name) [ None ↦ Missing | Some source ↦ if exists zone source then Wild source else Missing ]
    ]

-- where a name stands in a zone, and whether it is one that the zone speaks for: at or below the apex (RFC 1034, 4.3.2,
-- steps 2 and 3)
abbrev pub place : List Record → Name → Place
place zone name = if is_under name (apex_of zone) then place_below zone name else Outside
