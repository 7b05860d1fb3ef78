-- What carries requests and replies, and how long a reply may be (RFC 1035, 4.2).
use Rattle.std.specs.Prelude.{ℕ, Bool, true, false, Option}
use Rattle.dns_message.specs.Message.{message_limit}
use Rattle.dns_message.specs.Opt.{max_udp, udp_limit}
use Rattle.dns_message.specs.declared.edns.Edns.{Edns}
use Rattle.serve_core.specs.declared.transport.Transport.{Transport}
use Rattle.serve_core.specs.declared.transport.Transport.TheVariants.{Udp, Tcp}

-- the most octets of a reply: over UDP by the request's OPT, or its lack; over TCP what the length in two octets before it can
-- say (RFC 1035, 4.2.1 and 4.2.2; RFC 6891, 6.2.3 to 6.2.5)
abbrev pub limit_of : Transport → Option Edns → ℕ
limit_of Udp edns = udp_limit edns
limit_of Tcp edns = message_limit

-- the most octets of any reply
abbrev pub room_of : Transport → ℕ
room_of Udp = max_udp
room_of Tcp = message_limit

-- whether requests and replies come as a stream (RFC 1035, 4.2.2), or each as a datagram (RFC 1035, 4.2.1)
abbrev pub is_stream : Transport → Bool
is_stream Udp = false
is_stream Tcp = true
