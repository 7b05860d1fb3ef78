-- Two zones to read the definitions by: a small one, and that of RFC 4592, 2.2.1. All TTLs are 3600.
use Prim.Native.String.{String}
use Rattle.std.specs.Prelude.{ℕ, List, [], ◌∷◌, ◌++◌, length, codes}
use Rattle.std.specs.Int.{w16, w32, to_be_bytes}
use Rattle.dns_name.specs.Name.{Name, wire_of}
use Rattle.dns_rdata.specs.Numbers.{type_A, type_NS, type_CNAME, type_SOA, type_MX, type_TXT, type_SRV}
use Rattle.dns_rdata.specs.Record.{Record}

-- records by what a zone file would say of them; an address is one of 192.0.2.0/24 by its last octet
abbrev pub standing : Name → ℕ → List ℕ → Record
standing owner rtype rdata = record { owner = owner; rtype = rtype; ttl = 3600; rdata = rdata }

abbrev pub address : Name → ℕ → Record
address owner last = standing owner type_A (192 ∷ 0 ∷ 2 ∷ last ∷ [])

abbrev pub ns : Name → Name → Record
ns owner server = standing owner type_NS (wire_of server)

abbrev pub alias : Name → Name → Record
alias owner target = standing owner type_CNAME (wire_of target)

abbrev pub soa : Name → Name → Name → ℕ → Record
soa owner server mailbox minimum =
    standing owner type_SOA
    (wire_of server ++ wire_of mailbox ++ to_be_bytes w32 1 ++ to_be_bytes w32 7200 ++ to_be_bytes w32 900 ++ to_be_bytes w32 1209600
    ++ to_be_bytes w32 minimum)

abbrev pub mx : Name → ℕ → Name → Record
mx owner preference host = standing owner type_MX (to_be_bytes w16 preference ++ wire_of host)

abbrev pub txt : Name → String → Record
txt owner text = standing owner type_TXT (length (codes text) ∷ codes text)

abbrev pub srv : Name → ℕ → Name → Record
srv owner port host = standing owner type_SRV (to_be_bytes w16 0 ++ to_be_bytes w16 0 ++ to_be_bytes w16 port ++ wire_of host)

-- a name two labels long
abbrev pub pair : String → String → Name
pair label parent = codes label ∷ codes parent ∷ []

-- the names of the small zone: its apex `example.test.`, and what is one label and two labels below it
abbrev pub apex : Name
apex = pair "example" "test"

abbrev pub below : String → Name
below label = codes label ∷ apex

abbrev pub under : String → String → Name
under label parent = codes label ∷ below parent

-- a name outside the small zone
abbrev pub outside : Name
outside = codes "host" ∷ pair "example" "net"

-- the small zone, and its SOA by the SOA's TTL
abbrev pub small_soa : Record
small_soa = soa apex (below "ns1") (below "admin") 300

abbrev pub small_zone : List Record
small_zone =
    ns apex (below "ns1")
    ∷ small_soa
    ∷ txt (under "a" "b") "x"
    ∷ address (under "*" "dyn") 99
    ∷ alias (below "loop1") (below "loop2")
    ∷ alias (below "loop2") (below "loop1")
    ∷ mx (below "mail") 10 (below "web")
    ∷ address (below "ns1") 1
    ∷ alias (below "out") outside
    ∷ ns (below "sub") (under "ns" "sub")
    ∷ address (under "ns" "sub") 53
    ∷ address (below "web") 10
    ∷ alias (below "www") (below "web")
    ∷ []

-- the names of the zone of RFC 4592, 2.2.1: its apex `example.`, and what is one and two labels below it
abbrev pub example : Name
example = codes "example" ∷ []

abbrev pub in_example : String → Name
in_example label = codes label ∷ example

abbrev pub at_wildcard : String → Name
at_wildcard label = codes label ∷ in_example "*"

abbrev pub service_at : String → String → Name
service_at service host = codes service ∷ codes "_tcp" ∷ in_example host

-- the zone of RFC 4592, 2.2.1
abbrev pub wildcard_zone : List Record
wildcard_zone =
    ns example (codes "ns" ∷ pair "example" "com")
    ∷ ns example (codes "ns" ∷ pair "example" "net")
    ∷ soa example (codes "ns" ∷ pair "example" "com") (codes "admin" ∷ pair "example" "com") 300
    ∷ mx (in_example "*") 10 (in_example "host1")
    ∷ txt (in_example "*") "this is a wildcard"
    ∷ txt (at_wildcard "sub") "this is not a wildcard"
    ∷ address (in_example "host1") 1
    ∷ srv (service_at "_ssh" "host1") 22 (in_example "host1")
    ∷ srv (service_at "_ssh" "host2") 22 (in_example "host2")
    ∷ ns (in_example "subdel") (codes "ns" ∷ pair "example" "com")
    ∷ ns (in_example "subdel") (codes "ns" ∷ pair "example" "net")
    ∷ []
