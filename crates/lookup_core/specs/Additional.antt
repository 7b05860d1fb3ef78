-- The additional section: the addresses of the names in an answer's data (RFC 1034, 4.3.2, step 6).
use Rattle.std.specs.Prelude.{ℕ, Bool, ◌&&◌, ◌||◌, not, ◌==◌, List, [], ◌∷◌, ◌++◌, filter, flat_map, take, if◌then◌else◌}
use Rattle.std.specs.List.{list_any}
use Rattle.dns_name.specs.Name.{Name, is_same}
use Rattle.dns_rdata.specs.Numbers.{type_A, type_NS, type_MX, type_AAAA, type_SRV}
use Rattle.dns_rdata.specs.Layout.{names_in_data}
use Rattle.dns_rdata.specs.Record.{Record, owner_of, rtype_of}
use Rattle.zone_tree.specs.Zone.{is_of, rrset_of}
use Rattle.lookup_core.specs.Place.{is_none_of}

-- whether the addresses of names in data of a type come along: NS, MX and SRV (RFC 1035, 3.3.9 and 3.3.11; RFC 2782)
abbrev pub has_hosts : ℕ → Bool
has_hosts rtype = rtype == type_NS || rtype == type_MX || rtype == type_SRV

-- the names in a type's data whose addresses come along
abbrev pub hosts_in : ℕ → List ℕ → List Name
hosts_in rtype octets = if has_hosts rtype then names_in_data rtype octets else []

-- such names in the data of records
abbrev pub hosts_of : List Record → List Name
hosts_of rs = flat_map (λ r. hosts_in r.rtype r.rdata) rs

-- the sets of addresses that stand at exactly a name: A, then AAAA (RFC 1035, 3.4.1; RFC 3596, 2.1 and 3)
abbrev pub addresses : List Record → Name → List (List Record)
addresses zone name = rrset_of zone name type_A ∷ rrset_of zone name type_AAAA ∷ []

-- whether two sets have one owner and one type
abbrev pub is_same_set : List Record → List Record → Bool
is_same_set set other = is_same (owner_of set) (owner_of other) && rtype_of set == rtype_of other

-- whether a set is there and doesn't stand in the answer
abbrev pub is_wanted : List Record → List Record → Bool
is_wanted answer set = not (is_none_of set) && not (list_any (is_of (owner_of set) (rtype_of set)) answer)

-- the sets that are not among those before, each once, in their order
abbrev pub each_once : List (List Record) → List (List Record) → List (List Record)
each_once before [] = []
each_once before (set ∷ sets) = if list_any (is_same_set set) before then each_once before sets else set ∷ each_once (set ∷ before) sets

-- of the address sets at names, those that are wanted beside an answer
abbrev pub wanted_sets : List Record → List Record → List Name → List (List Record)
wanted_sets zone answer hosts = filter (is_wanted answer) (flat_map (addresses zone) hosts)

-- how many sets an additional section has at most (own)
abbrev pub most_sets : ℕ
most_sets = 32

-- the additional section: the address sets at the names in the answer's and the authority's data, in their order, each
-- once, none that stands in the answer, at most 32 (RFC 1034, 4.3.2, step 6; RFC 1035, 3.3.9 and 3.3.11; own)
abbrev pub additional_of : List Record → List Record → List Record → List Record
additional_of zone answer authority =
    flat_map (λ set. set) (take most_sets (each_once [] (wanted_sets zone answer (hosts_of (answer ++ authority)))))
