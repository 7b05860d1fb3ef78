-- The OPT, by which requests and replies tell of extensions (RFC 6891, 6.1).
use Rattle.std.specs.Prelude.{ℕ, Bool, true, false, ◌+◌, ◌*◌, ◌/◌, ◌%◌, ◌^◌, ◌==◌, not, min, max, List, [], ◌∷◌, ◌++◌, filter, Option, Some, None, Result, Ok, Err, if◌then◌else◌}
use Rattle.std.specs.Int.{to_be_bytes, w16, w32}
use Rattle.dns_name.specs.Name.{Name, wire_of}
use Rattle.dns_rdata.specs.Numbers.{type_OPT, extended_bits}
use Rattle.dns_rdata.specs.declared.numbers.Rcode.{Rcode}
use Rattle.dns_rdata.specs.declared.numbers.Rcode.TheVariants.{FormErr, BadVers}
use Rattle.dns_message.specs.Message.{Entry}
use Rattle.dns_message.specs.declared.edns.Edns.{Edns}
use Rattle.dns_message.specs.declared.edns.Opt.{Opt}
use Rattle.dns_message.specs.declared.edns.OptFault.{OptFault}

-- the most octets of a reply over UDP, and so what an OPT of ours tells (RFC 6891, 6.2.4 and 6.2.5; own)
abbrev pub max_udp : ℕ
max_udp = 1232

-- VERSION, eight bits in the place of an OPT's TTL, after eight of the code (RFC 6891, 6.1.3)
abbrev pub version_of : Entry → ℕ
version_of opt = opt.ttl / 2 ^ 16 % 2 ^ 8

-- DO, the bit after VERSION (RFC 6891, 6.1.3 and 6.1.4)
abbrev pub dnssec_ok_of : Entry → Bool
dnssec_ok_of opt = opt.ttl / 2 ^ 15 % 2 == 1

-- whether a name is the root (RFC 1034, 3.1)
abbrev pub is_root : Name → Bool
is_root [] = true
is_root (label ∷ name) = false

-- what is said of an OPT that isn't obeyed
abbrev pub refused : Rcode → Entry → Result (Option Edns) OptFault
refused code opt = Err (record { rcode = code; dnssec_ok = dnssec_ok_of opt })

-- what an OPT says that is the only one: FORMERR of an owner other than the root; else BADVERS of a version above 0; else the size
-- of datagrams that the one who asks can take, which stands in the place of its class, and DO (RFC 6891, 6.1.2 and 6.1.3)
abbrev pub said_alone : Entry → Result (Option Edns) OptFault
said_alone opt =
    if not (is_root opt.owner) then refused FormErr opt
    else if not (version_of opt == 0) then refused BadVers opt
    else Ok (Some (record { size = opt.class; dnssec_ok = dnssec_ok_of opt }))

-- the DO of the first OPT, by what OPTs say; none where there is no OPT
abbrev pub do_bit_of : Result (Option Edns) OptFault → Option Bool
do_bit_of (Ok None) = None
do_bit_of (Ok (Some edns)) = Some edns.dnssec_ok
do_bit_of (Err fault) = Some fault.dnssec_ok

-- what more OPTs than one say, of which the first has this DO (RFC 6891, 6.1.1)
abbrev pub refused_do : Bool → Result (Option Edns) OptFault
refused_do dnssec_ok = Err (record { rcode = FormErr; dnssec_ok = dnssec_ok })

-- what OPTs say: nothing where there is none, and FORMERR of more than one (RFC 6891, 6.1.1)
abbrev pub said_by : List Entry → Result (Option Edns) OptFault
said_by [] = Ok None
said_by (opt ∷ []) = said_alone opt
said_by (opt ∷ other ∷ more) = refused FormErr opt

-- what the OPTs among additional records say (RFC 6891, 6.1.1)
abbrev pub opt_said : List Entry → Result (Option Edns) OptFault
opt_said records = said_by (filter (λ r. r.rtype == type_OPT) records)

-- the most octets of a reply over UDP: 512 to a request without an OPT; else what the one who asks can take, but no less than 512
-- and no more than 1232 (RFC 1035, 4.2.1; RFC 6891, 6.2.3 and 6.2.5; own)
abbrev pub udp_limit : Option Edns → ℕ
udp_limit None = 512
udp_limit (Some edns) = min (max edns.size 512) max_udp

-- what stands in the place of a TTL in the OPT of a reply with a code: the upper eight bits of the code, version 0, DO, and Z 0
-- (RFC 6891, 6.1.3)
abbrev pub opt_ttl : Rcode → Opt → ℕ
opt_ttl code opt = 2 ^ 24 * extended_bits code + (if opt.dnssec_ok then 2 ^ 15 else 0)

-- the OPT: its owner is the root, its class is the size of datagrams that the server takes, and it has no data (RFC 6891, 6.1.2)
abbrev pub opt_octets : Rcode → Opt → List ℕ
opt_octets code opt = wire_of [] ++ to_be_bytes w16 type_OPT ++ to_be_bytes w16 max_udp ++ to_be_bytes w32 (opt_ttl code opt) ++ to_be_bytes w16 0

-- and nothing of a reply that has none; and how many it has
abbrev pub opt_part : Rcode → Option Opt → List ℕ
opt_part code None = []
opt_part code (Some opt) = opt_octets code opt

abbrev pub opt_count : Option Opt → ℕ
opt_count None = 0
opt_count (Some opt) = 1

-- the OPT of a reply as it stands at a position, after the other additional records (RFC 6891, 6.1.2)
abbrev pub opt_entries : Rcode → Option Opt → ℕ → List Entry
opt_entries code None at = []
opt_entries code (Some opt) at = record { owner = []; rtype = type_OPT; class = max_udp; ttl = opt_ttl code opt; at = at + 11; size = 0 } ∷ []
