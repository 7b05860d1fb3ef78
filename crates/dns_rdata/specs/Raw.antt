-- Records as they are sent (RFC 1035, 4.1.3).
use Rattle.std.specs.Prelude.{ℕ, ◌^◌, nat_lt, if◌then◌else◌, List}
use Rattle.dns_name.specs.Name.{Name}

-- a record as it is sent: its owner, the numbers of its type and of its class, its TTL of 32 bits, and the octets of its
-- data, which can be none, or those of a metatype (RFC 1035, 4.1.3; RFC 2136, 2.4 and 2.5)
pub record RawRecord : Type 0 where
  pub owner : Name
  pub rtype : ℕ
  pub class : ℕ
  pub ttl : ℕ
  pub octets : List ℕ

-- a TTL as it enters a zone: one with its top bit set counts as 0 (RFC 2181, 8)
abbrev pub ttl_in_zone : ℕ → ℕ
ttl_in_zone ttl = if nat_lt ttl (2 ^ 31) then ttl else 0
