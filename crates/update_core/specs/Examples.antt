-- A small zone and records of updates, to read the definitions by. All TTLs of the zone are 3600.
use Rattle.std.specs.Prelude.{ℕ, false, List, [], ◌∷◌, ◌++◌, None, codes, replicate}
use Rattle.std.proofs.Common.{lit<}
use Rattle.std.specs.Int.{w32, to_be_bytes}
use Rattle.dns_name.specs.Name.{Name, wire_of}
use Rattle.dns_rdata.specs.Numbers.{type_A, type_NS, type_CNAME, type_SOA, class_IN, class_NONE, class_ANY}
use Rattle.dns_rdata.specs.Record.{Record}
use Rattle.dns_rdata.specs.Raw.{RawRecord}
use Rattle.zone_tree.specs.Example.{example, in_example, hour_record}
use Rattle.dns_message.specs.declared.query.Head.{Head}
use Rattle.dns_message.specs.declared.update.Update.{Update}
use Rattle.dns_message.specs.declared.update.ZoneEntry.{ZoneEntry}

-- names below the apex `example`: its name server, a host, an alias of it, and names that own nothing
abbrev pub ns : Name
ns = in_example (codes "ns")

abbrev pub web : Name
web = in_example (codes "web")

abbrev pub www : Name
www = in_example (codes "www")

-- an empty non-terminal, and a name below it that owns an address
abbrev pub empty : Name
empty = in_example (codes "b")

abbrev pub below_empty : Name
below_empty = codes "a" ∷ empty

-- a name that doesn't exist, and one outside the zone
abbrev pub fresh : Name
fresh = in_example (codes "z")

abbrev pub outside : Name
outside = codes "test" ∷ []

-- an address of 192.0.2.0/24 by its last octet
abbrev pub address : ℕ → List ℕ
address last = 192 ∷ 0 ∷ 2 ∷ last ∷ []

-- an SOA's data by its serial: both names are the root, and its other numbers are 1
abbrev pub soa_data : ℕ → List ℕ
soa_data serial = 0 ∷ 0 ∷ to_be_bytes w32 serial ++ (0 ∷ 0 ∷ 0 ∷ 1 ∷ 0 ∷ 0 ∷ 0 ∷ 1 ∷ 0 ∷ 0 ∷ 0 ∷ 1 ∷ 0 ∷ 0 ∷ 0 ∷ 1 ∷ [])

-- the zone, by its serial
abbrev pub zone_of_serial : ℕ → List Record
zone_of_serial serial =
    hour_record example type_NS (wire_of ns)
    ∷ hour_record example type_SOA (soa_data serial)
    ∷ hour_record below_empty type_A (address 1)
    ∷ hour_record web type_A (address 1)
    ∷ hour_record web type_A (address 2)
    ∷ hour_record www type_CNAME (wire_of web)
    ∷ []

abbrev pub zone_here : List Record
zone_here = zone_of_serial 1

-- a record as it is sent
abbrev pub sent : Name → ℕ → ℕ → ℕ → List ℕ → RawRecord
sent owner rtype class ttl octets = record { owner = owner; rtype = rtype; class = class; ttl = ttl; octets = octets }

-- records of class IN that a prerequisite compares, and that an update adds for an hour
abbrev pub there : Name → ℕ → List ℕ → RawRecord
there owner rtype octets = sent owner rtype class_IN 0 octets

abbrev pub add : Name → ℕ → List ℕ → RawRecord
add owner rtype octets = sent owner rtype class_IN 3600 octets

-- a record of class ANY or NONE without data, and one of class NONE with data
abbrev pub any : Name → ℕ → RawRecord
any owner rtype = sent owner rtype class_ANY 0 []

abbrev pub none : Name → ℕ → RawRecord
none owner rtype = sent owner rtype class_NONE 0 []

abbrev pub delete : Name → ℕ → List ℕ → RawRecord
delete owner rtype octets = sent owner rtype class_NONE 0 octets

-- a text of so many octets, one string of 255 after another
abbrev pub long_text : ℕ → List ℕ
long_text octets = replicate octets 255

-- the header of an update
abbrev pub head_here : Head
head_here = record { id = 0; opcode = 5; rd = false; four_bits = lit< tt }

-- a zone section, and an update of the zone by its records
abbrev pub entry : Name → ℕ → ℕ → ZoneEntry
entry name rtype class = record { name = name; rtype = record { 0 = rtype }; class = record { 0 = class } }

abbrev pub update_of : List RawRecord → Update
update_of updates = record { head = head_here; edns = None; zone = entry example type_SOA class_IN; prerequisites = []; updates = updates }
