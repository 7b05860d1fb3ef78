-- Data in a message, in which names have pointers, with these names written in full (RFC 1035, 3.3 and 4.1.4).
use Rattle.std.specs.Prelude.{ℕ, zero, suc, ◌+◌, ◌==◌, List, [], ◌∷◌, ◌++◌, take, drop, Option, Some, None, option_map, option_and_then, Ok, Err, if◌then◌else◌}
use Rattle.std.specs.List.{flat_map}
use Rattle.dns_name.specs.Name.{Name, wire_of}
use Rattle.dns_rdata.specs.declared.layout.Layout.{Layout}
use Rattle.dns_rdata.specs.declared.layout.Layout.TheVariants.{Fields, Strings, Opaque}
use Rattle.dns_rdata.specs.Layout.{layout_of}
use Rattle.wire_names.specs.NameAt.{name_at}
use Rattle.dns_message.specs.Message.{Entry}

-- so many names, one after another from a position of a message on, through pointers, and the position after the last;
-- none where one has a fault (RFC 1035, 4.1.4)
unfoldable pub names_at : ℕ → List ℕ → ℕ → Option (List Name × ℕ)
names_at zero msg at = Some ([], at)
names_at (suc count) msg at =
    elim (name_at msg at) [
      | Err fault ↦ None
      | Ok r ↦ option_map (λ rest. (r.0 ∷ rest.0, rest.1)) (names_at count msg r.1)
    ]

-- so many octets of a message from a position on
abbrev pub octets_from : List ℕ → ℕ → ℕ → List ℕ
octets_from msg at size = take size (drop at msg)

-- so many octets of data at a position, which lie by a layout, with the names in full: the octets before the names
-- and after them are as they stand; none where a name has a fault, or the octets after the names don't end with the data
abbrev pub expanded_by : Layout → List ℕ → ℕ → ℕ → Option (List ℕ)
expanded_by (Fields front names back compressed) msg at size =
    option_and_then
    (λ r. if r.1 + back == at + size then Some (octets_from msg at front ++ flat_map wire_of r.0 ++ octets_from msg r.1 back) else None)
    (names_at names msg (at + front))
expanded_by Strings msg at size = Some (octets_from msg at size)
expanded_by Opaque msg at size = Some (octets_from msg at size)

-- the expanded data of a record in a message: its data with the names in it in full; data of a type that has no layout
-- are as they stand (RFC 1035, 4.1.4; RFC 3597, 4)
unfoldable pub expanded_data : List ℕ → Entry → Option (List ℕ)
expanded_data msg entry =
    elim (layout_of entry.rtype) [
      | None ↦ Some (octets_from msg entry.at entry.size)
      | Some layout ↦ expanded_by layout msg entry.at entry.size
    ]
