-- The numbers of record types (RFC 1035, 3.2.2 and 3.2.3; RFC 1995, 4; RFC 2782; RFC 3596, 2.1), classes
-- (RFC 1035, 3.2.4; RFC 2136, 1.1) and reply codes (RFC 1035, 4.1.1; RFC 2136, 2.2; RFC 6891, 9).
use Rattle.std.specs.Prelude.{ℕ, Bool, ◌/◌, ◌%◌, ◌||◌, ◌&&◌, ◌==◌, nat_le}
use Rattle.dns_rdata.specs.declared.numbers.Rcode.{Rcode}
use Rattle.dns_rdata.specs.declared.numbers.Rcode.TheVariants.{NoError, FormErr, ServFail, NxDomain, NotImp, Refused, YXDomain, YXRRSet, NXRRSet, NotAuth, NotZone, BadVers}

abbrev pub type_A : ℕ
type_A = 1

abbrev pub type_NS : ℕ
type_NS = 2

abbrev pub type_CNAME : ℕ
type_CNAME = 5

abbrev pub type_SOA : ℕ
type_SOA = 6

abbrev pub type_PTR : ℕ
type_PTR = 12

abbrev pub type_MX : ℕ
type_MX = 15

abbrev pub type_TXT : ℕ
type_TXT = 16

abbrev pub type_AAAA : ℕ
type_AAAA = 28

abbrev pub type_SRV : ℕ
type_SRV = 33

-- the type of what a message says of its sender's extensions (RFC 6891, 6.1.1)
abbrev pub type_OPT : ℕ
type_OPT = 41

-- the types that a question alone may have
abbrev pub type_IXFR : ℕ
type_IXFR = 251

abbrev pub type_AXFR : ℕ
type_AXFR = 252

abbrev pub type_MAILB : ℕ
type_MAILB = 253

abbrev pub type_MAILA : ℕ
type_MAILA = 254

abbrev pub type_ANY : ℕ
type_ANY = 255

-- whether a type is one that no record of a zone has: 0, OPT, and those kept for what only a message carries, 128 to 255
-- (RFC 2136, 3.4.1.2; RFC 6891, 6.1.1; RFC 6895, 3.1; own)
abbrev pub is_metatype : ℕ → Bool
is_metatype rtype = rtype == 0 || rtype == type_OPT || (nat_le 128 rtype && nat_le rtype 255)

-- the class of the Internet (RFC 1035, 3.2.4)
abbrev pub class_IN : ℕ
class_IN = 1

-- the classes by which an update says that something isn't there or isn't to be there, and what it says of all that is at
-- a name or of all records of a type (RFC 2136, 1.1, 2.4 and 2.5)
abbrev pub class_NONE : ℕ
class_NONE = 254

abbrev pub class_ANY : ℕ
class_ANY = 255

-- the number of a reply code (RFC 1035, 4.1.1; RFC 2136, 2.2; RFC 6891, 9)
abbrev pub rcode_number : Rcode → ℕ
rcode_number NoError = 0
rcode_number FormErr = 1
rcode_number ServFail = 2
rcode_number NxDomain = 3
rcode_number NotImp = 4
rcode_number Refused = 5
rcode_number YXDomain = 6
rcode_number YXRRSet = 7
rcode_number NXRRSet = 8
rcode_number NotAuth = 9
rcode_number NotZone = 10
rcode_number BadVers = 16

-- of its twelve bits the low four, which stand in a header (RFC 1035, 4.1.1)
abbrev pub header_bits : Rcode → ℕ
header_bits code = rcode_number code % 16

-- and the upper eight, which stand in an OPT (RFC 6891, 6.1.3)
abbrev pub extended_bits : Rcode → ℕ
extended_bits code = rcode_number code / 16
