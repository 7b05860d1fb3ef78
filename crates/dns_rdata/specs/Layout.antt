-- How the data of each type lies: one table, from which the form of data, the names in it and whether they are
-- compressed follow (RFC 1035, 3.3 and 3.4.1; RFC 2782; RFC 3596, 2.2; RFC 3597, 3 and 4).
use Rattle.std.specs.Prelude.{ℕ, zero, suc, ◌^◌, true, false, ◌==◌, ◌||◌, nat_le, List, [], ◌∷◌, length, drop, if◌then◌else◌, Option, Some, None}
use Rattle.dns_name.specs.Name.{Name, wire_of, name_in}
use Rattle.dns_rdata.specs.declared.layout.Layout.{Layout}
use Rattle.dns_rdata.specs.declared.layout.Layout.TheVariants.{Fields, Strings, Opaque}
use Rattle.dns_rdata.specs.Numbers.{type_A, type_NS, type_CNAME, type_SOA, type_PTR, type_MX, type_TXT, type_AAAA, type_SRV, is_metatype}

-- of each type that is known: so many octets in front, so many names, so many octets after, and whether a message may write
-- the names with pointers; or strings. Of any other that a record of a zone can have octets of any number, in which nobody looks
-- for names. None for a metatype, and for a number of more than 16 bits (RFC 1035, 3.3 and 3.4.1; RFC 2782; RFC 3596, 2.2;
-- RFC 3597, 3, 4 and 6)
unfoldable pub layout_of : ℕ → Option Layout
layout_of rtype =
    if rtype == type_A then Some (Fields 4 0 0 false)
    else if rtype == type_NS then Some (Fields 0 1 0 true)
    else if rtype == type_CNAME then Some (Fields 0 1 0 true)
    else if rtype == type_SOA then Some (Fields 0 2 20 true)
    else if rtype == type_PTR then Some (Fields 0 1 0 true)
    else if rtype == type_MX then Some (Fields 2 1 0 true)
    else if rtype == type_TXT then Some Strings
    else if rtype == type_AAAA then Some (Fields 16 0 0 false)
    else if rtype == type_SRV then Some (Fields 6 1 0 false)
    else if is_metatype rtype || nat_le (2 ^ 16) rtype then None
    else Some Opaque

-- so many names, one after the other, each written in full; those before the first that isn't one
abbrev pub names_in : ℕ → List ℕ → List Name
names_in zero octets = []
names_in (suc names) octets =
    elim (name_in octets) [ None ↦ [] | Some name ↦ name ∷ names_in names (drop (length (wire_of name)) octets) ]

-- the names in data that lies so
abbrev pub names_by : Layout → List ℕ → List Name
names_by (Fields front names back compressed) octets = names_in names (drop front octets)
names_by Strings octets = []
names_by Opaque octets = []

-- the names in a type's data, in their order (RFC 1035, 3.3; RFC 2782)
abbrev pub names_in_data : ℕ → List ℕ → List Name
names_in_data rtype octets = elim (layout_of rtype) [ None ↦ [] | Some layout ↦ names_by layout octets ]
