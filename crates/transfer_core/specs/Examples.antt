-- Zones and records of transfers, to read the definitions by. All TTLs are 3600.
use Rattle.std.specs.Prelude.{ℕ, List, [], ◌∷◌, ◌++◌, codes, replicate}
use Rattle.std.specs.Int.{w32, to_be_bytes}
use Rattle.dns_name.specs.Name.{Name, wire_of}
use Rattle.dns_rdata.specs.Numbers.{type_A, type_NS, type_CNAME, type_SOA, type_MX, type_TXT}
use Rattle.dns_rdata.specs.Record.{Record}
use Rattle.dns_rdata.specs.Raw.{RawRecord}
use Rattle.zone_tree.specs.Example.{hour_record}
use Rattle.transfer_core.specs.Lists.{as_sent}

-- an SOA's data by its names, its serial and its other numbers
abbrev pub soa_octets : Name → Name → ℕ → List ℕ → List ℕ
soa_octets server mailbox serial numbers = wire_of server ++ wire_of mailbox ++ to_be_bytes w32 serial ++ numbers

-- four numbers of 32 bits
abbrev pub four : ℕ → ℕ → ℕ → ℕ → List ℕ
four refresh retry expire minimum = to_be_bytes w32 refresh ++ to_be_bytes w32 retry ++ to_be_bytes w32 expire ++ to_be_bytes w32 minimum

-- an address
abbrev pub address : ℕ → ℕ → ℕ → ℕ → List ℕ
address a b c d = a ∷ b ∷ c ∷ d ∷ []

-- the zone of RFC 1995, 7: its names, and its three versions
abbrev pub jain : Name
jain = codes "jain" ∷ codes "ad" ∷ codes "jp" ∷ []

abbrev pub in_jain : List ℕ → Name
in_jain label = label ∷ jain

abbrev pub jain_soa : ℕ → Record
jain_soa serial = hour_record jain type_SOA (soa_octets (in_jain (codes "ns")) (in_jain (codes "mohta")) serial (four 600 600 3600000 604800))

abbrev pub jain_ns : Record
jain_ns = hour_record jain type_NS (wire_of (in_jain (codes "ns")))

abbrev pub jain_ns_address : Record
jain_ns_address = hour_record (in_jain (codes "ns")) type_A (address 133 69 136 1)

abbrev pub nezu : Record
nezu = hour_record (in_jain (codes "nezu")) type_A (address 133 69 136 5)

abbrev pub jain_bb : List ℕ → Record
jain_bb octets = hour_record (in_jain (codes "jain-bb")) type_A octets

abbrev pub jain_1 : List Record
jain_1 = jain_ns ∷ jain_soa 1 ∷ nezu ∷ jain_ns_address ∷ []

abbrev pub jain_2 : List Record
jain_2 = jain_ns ∷ jain_soa 2 ∷ jain_bb (address 133 69 136 4) ∷ jain_bb (address 192 41 197 2) ∷ jain_ns_address ∷ []

abbrev pub jain_3 : List Record
jain_3 = jain_ns ∷ jain_soa 3 ∷ jain_bb (address 133 69 136 3) ∷ jain_bb (address 192 41 197 2) ∷ jain_ns_address ∷ []

-- the zone `example.test`, by its serial: its SOA and NS alone, and with all its records
abbrev pub apex : Name
apex = codes "example" ∷ codes "test" ∷ []

abbrev pub below : List ℕ → Name
below label = label ∷ apex

abbrev pub soa : ℕ → Record
soa serial = hour_record apex type_SOA (soa_octets (below (codes "ns1")) (below (codes "admin")) serial (four 7200 900 1209600 300))

abbrev pub ns : Record
ns = hour_record apex type_NS (wire_of (below (codes "ns1")))

abbrev pub short_zone : ℕ → List Record
short_zone serial = ns ∷ soa serial ∷ []

abbrev pub records_below : List Record
records_below =
    hour_record (codes "a" ∷ below (codes "b")) type_TXT (1 ∷ codes "x")
    ∷ hour_record (codes "*" ∷ below (codes "dyn")) type_A (address 192 0 2 99)
    ∷ hour_record (below (codes "loop1")) type_CNAME (wire_of (below (codes "loop2")))
    ∷ hour_record (below (codes "loop2")) type_CNAME (wire_of (below (codes "loop1")))
    ∷ hour_record (below (codes "mail")) type_MX (0 ∷ 10 ∷ wire_of (below (codes "web")))
    ∷ []

abbrev pub records_behind : List Record
records_behind =
    hour_record (below (codes "ns1")) type_A (address 192 0 2 1)
    ∷ hour_record (below (codes "out")) type_CNAME (wire_of (codes "host" ∷ codes "example" ∷ codes "net" ∷ []))
    ∷ hour_record (below (codes "sub")) type_NS (wire_of (codes "ns" ∷ below (codes "sub")))
    ∷ hour_record (codes "ns" ∷ below (codes "sub")) type_A (address 192 0 2 53)
    ∷ hour_record (below (codes "web")) type_A (address 192 0 2 10)
    ∷ hour_record (below (codes "www")) type_CNAME (wire_of (below (codes "web")))
    ∷ []

abbrev pub long_zone : ℕ → List Record
long_zone serial = short_zone serial ++ records_below ++ records_behind

-- a new host, and the zone with it
abbrev pub new_host : Record
new_host = hour_record (below (codes "new")) type_A (address 192 0 2 77)

abbrev pub longer_zone : ℕ → List Record
longer_zone serial = short_zone serial ++ records_below ++ new_host ∷ records_behind

-- an address of a host of the short zone's, by its last octet, and that zone with one
abbrev pub host : ℕ → Record
host last = hour_record (below (codes "h")) type_A (address 192 0 2 last)

abbrev pub host_zone : ℕ → ℕ → List Record
host_zone serial last = ns ∷ soa serial ∷ host last ∷ []

-- a record with another TTL, another owner, or another type
abbrev pub lasting : ℕ → Record → Record
lasting ttl r = record r { ttl = ttl }

abbrev pub at_owner : Name → Record → Record
at_owner owner r = record r { owner = owner }

abbrev pub typed : ℕ → Record → Record
typed rtype r = record r { rtype = rtype }

-- a name outside the zone
abbrev pub outside : Name
outside = codes "host" ∷ codes "example" ∷ codes "net" ∷ []

-- a record as it is sent in another class, or with other data
abbrev pub of_class : ℕ → Record → RawRecord
of_class class r = record (as_sent r) { class = class }

abbrev pub with_octets : List ℕ → Record → RawRecord
with_octets octets r = record (as_sent r) { octets = octets }

-- a text of 4,096 octets, one string of 255 after another, and of so many more, which are empty strings
abbrev pub long_text : ℕ → Record
long_text more = hour_record (below (codes "t")) type_TXT (replicate 4096 255 ++ replicate more 0)
