-- Addresses as numbers of 128 bits, and the prefixes that have them (RFC 4632, 3.1; RFC 4291, 2.3 and 2.5.5.2).
use Rattle.std.specs.Prelude.{ℕ, ◌/◌, ◌%◌, ◌-◌, ◌^◌, Bool, true, ◌&&◌, ◌||◌, ◌==◌, not, nat_le, List, ◌∷◌, Option, Some, None}
use Rattle.std.specs.Int.{w128, from_be_bytes}
use Rattle.std.specs.Net.Addr.{ipv4_octets, ipv6_octets}
use Rattle.std.specs.declared.net.ip_addr.IpAddr.{IpAddr}
use Rattle.std.specs.declared.net.ip_addr.IpAddr.TheVariants.{V4, V6}
use Rattle.rights.specs.declared.prefix.Prefix.{Prefix}

-- the octets of an address as one of IPv6: an IPv4 address is its IPv4-mapped IPv6 address (RFC 4291, 2.5.5.2)
abbrev pub octets_of : IpAddr → List ℕ
octets_of (V4 ip) = 0 ∷ 0 ∷ 0 ∷ 0 ∷ 0 ∷ 0 ∷ 0 ∷ 0 ∷ 0 ∷ 0 ∷ 255 ∷ 255 ∷ ipv4_octets ip
octets_of (V6 ip) = ipv6_octets ip

-- an address as a number of 128 bits
abbrev pub number_of : IpAddr → ℕ
number_of address = from_be_bytes w128 (octets_of address)

-- whether two numbers of 128 bits begin with the same bits, so many of them
abbrev pub shares_front : ℕ → ℕ → ℕ → Bool
shares_front length a b = a / 2 ^ (128 - length) == b / 2 ^ (128 - length)

-- whether a number is that of an IPv4 address
abbrev pub is_ipv4 : ℕ → Bool
is_ipv4 address = address / 2 ^ 32 == 65535

-- whether a prefix has an address: one that begins with its bits, and an IPv4 address only a prefix of IPv4 addresses
abbrev pub has_address : Prefix → ℕ → Bool
has_address prefix address = shares_front prefix.length prefix.bits address && (nat_le 96 prefix.length || not (is_ipv4 address))

-- the same of a prefix that there may be; without one each address
abbrev pub has_prefix : Option Prefix → ℕ → Bool
has_prefix None address = true
has_prefix (Some prefix) address = has_address prefix address

-- whether a number of 128 bits has bits set after the first, so many of them
abbrev pub has_rest : ℕ → ℕ → Bool
has_rest length bits = not (bits % 2 ^ (128 - length) == 0)

-- how many bits of 128 come before those of an address
abbrev pub bits_in_front : IpAddr → ℕ
bits_in_front (V4 ip) = 96
bits_in_front (V6 ip) = 0
