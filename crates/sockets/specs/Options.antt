-- Types of sockets and their options, by the numbers that system calls take (Linux, socket(2) and setsockopt(2)).
use Rattle.std.specs.Prelude.{ℤ, pos}
use Rattle.sockets.specs.declared.bind.Carried.{Carried}
use Rattle.sockets.specs.declared.bind.Carried.TheVariants.{Datagrams, Connections}
use Rattle.sockets.specs.declared.option.Choice.{Choice}
use Rattle.sockets.specs.declared.option.Choice.TheVariants.{ReuseAddress, SharePort, Ipv6Alone}

-- the type of a socket, SOCK_DGRAM or SOCK_STREAM, with SOCK_NONBLOCK and SOCK_CLOEXEC
abbrev pub kind_of : Carried → ℤ
kind_of Datagrams = pos 526338
kind_of Connections = pos 526337

-- an option's level, and its name at that level: SO_REUSEADDR and SO_REUSEPORT at SOL_SOCKET (socket(7)), IPV6_V6ONLY at IPPROTO_IPV6 (RFC 3493, 5.3)
abbrev pub option_of : Choice → ℤ × ℤ
option_of ReuseAddress = (pos 1, pos 2)
option_of SharePort = (pos 1, pos 15)
option_of Ipv6Alone = (pos 41, pos 26)
