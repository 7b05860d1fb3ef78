-- Which peers count as one (own).
use Rattle.std.specs.Prelude.{◌≡◌, ℕ, ◌/◌, ◌^◌, ◌==◌, Bool, true, false, ◌||◌, Option, None, Some}
use Rattle.std.specs.Net.Addr.{ipv4_bits, ipv6_bits, MatchIp, IsCanonicalOf}
use Rattle.std.specs.declared.net.ip_addr.IpAddr.{IpAddr}
use Rattle.tcp_connections.specs.declared.group.PeerGroup.{PeerGroup}
use Rattle.tcp_connections.specs.declared.group.PeerGroup.TheVariants.{V4, V6}
use Rattle.tcp_connections.specs.declared.group.Groups.{Groups}

-- an address's group: the number of an IPv4 address, the first 64 bits of an IPv6 address
abbrev pub IsOwnGroup : IpAddr → PeerGroup → Type 0
IsOwnGroup address group = MatchIp address (λ ip. group ≡ V4 (ipv4_bits ip)) (λ ip. group ≡ V6 (ipv6_bits ip / 2 ^ 64))

-- the same, where an IPv4-mapped IPv6 address stands for its IPv4 address (RFC 4291, 2.5.5.2)
abbrev pub IsGroupOf : IpAddr → PeerGroup → Type 0
IsGroupOf address group = (own : IpAddr) × MatchIp address (λ _. own ≡ address) (λ ip. IsCanonicalOf ip own) × IsOwnGroup own group

-- whether two groups are one
abbrev pub is_same : PeerGroup → PeerGroup → Bool
is_same (V4 a) (V4 b) = a == b
is_same (V6 a) (V6 b) = a == b
is_same (V4 a) (V6 b) = false
is_same (V6 a) (V4 b) = false

-- whether there is a group, and it is this one
abbrev pub is_group : PeerGroup → Option PeerGroup → Bool
is_group group None = false
is_group group (Some own) = is_same own group

-- whether a group is one of at most three
abbrev pub has_group : Groups → PeerGroup → Bool
has_group groups group = is_group group groups.first || (is_group group groups.second || is_group group groups.third)
