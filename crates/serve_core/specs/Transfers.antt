-- What a question for a transfer gets (RFC 1995, 2 and 4; RFC 5936, 2.2; the order of the refusals is our own choice).
use Rattle.std.specs.Prelude.{ℕ, Bool, false, not, ◌&&◌, ◌||◌, ◌==◌, List, [], ◌∷◌, Option, Some, None, is_some, unwrap_or, if◌then◌else◌}
use Rattle.dns_name.specs.Name.{is_same}
use Rattle.dns_rdata.specs.declared.numbers.Rcode.TheVariants.{FormErr, NotImp, NotAuth, Refused}
use Rattle.dns_rdata.specs.declared.numbers.Serial.{Serial}
use Rattle.dns_rdata.specs.Numbers.{class_IN, type_AXFR, type_IXFR}
use Rattle.dns_rdata.specs.Record.{Record}
use Rattle.dns_rdata.specs.SerialOrder.{serial_less}
use Rattle.dns_message.specs.declared.query.Query.{Query as QueryAsked}
use Rattle.dns_message.specs.Message.{Message}
use Rattle.dns_message.specs.Opt.{udp_limit}
use Rattle.zone_tree.specs.Zone.{apex_of, soa_of}
use Rattle.zone_tree.specs.Version.{zone_serial}
use Rattle.transfer_core.specs.Lists.{full}
use Rattle.transfer_core.specs.Packed.{packed, octets_of, datagram}
use Rattle.serve_core.specs.declared.peer.Peer.{Peer}
use Rattle.serve_core.specs.declared.transport.Transport.{Transport}
use Rattle.serve_core.specs.Heading.{reply_opt}
use Rattle.serve_core.specs.Reply.{unanswered, refused, asks_transfer, reply_to}
use Rattle.serve_core.specs.Transport.{is_stream}

-- a peer that asks over a transport, and may do all or nothing
abbrev pub peer_over : Transport → Bool → Peer
peer_over transport may = record { may_update = may; may_transfer = may; transport = transport }

-- whether a question for a transfer is none: an AXFR over UDP; an IXFR that doesn't tell by one SOA what is held
-- (RFC 5936, 4.2; RFC 1995, 3)
abbrev pub is_unfit : Peer → QueryAsked → Bool
is_unfit peer query =
    (query.question.rtype.0 == type_AXFR && not (is_stream peer.transport)) || (query.question.rtype.0 == type_IXFR && not (is_some query.serial))

-- whether a transfer is sent: what is asked for is one, of the zone, by a peer that may have it
abbrev pub is_permitted : List Record → Peer → QueryAsked → Bool
is_permitted zone peer query =
    query.question.class.0 == class_IN && asks_transfer query.question && not (is_unfit peer query)
    && is_same query.question.name (apex_of zone) && peer.may_transfer

-- the reply to a query that isn't the messages of a transfer: of a question for a transfer FORMERR where it is none, NOTAUTH of a
-- name that isn't the apex, REFUSED from a peer that may not have the zone; NOTIMP of one that is permitted, as from a server that
-- doesn't send it here (RFC 1995, 2; RFC 5936, 2.2.1; own)
abbrev pub reply_to_peer : List Record → Peer → QueryAsked → Message
reply_to_peer zone peer query =
    if not (query.question.class.0 == class_IN) then reply_to zone query
    else if not (asks_transfer query.question) then reply_to zone query
    else if is_unfit peer query then unanswered query FormErr
    else if not (is_same query.question.name (apex_of zone)) then refused query NotAuth
    else if peer.may_transfer then unanswered query NotImp
    else refused query Refused

-- whether what the one who asks for an IXFR holds isn't less than what is served (RFC 1995, 2; RFC 1982, 3.2)
abbrev pub is_current : List Record → Option Serial → Bool
is_current zone None = false
is_current zone (Some serial) = not (serial_less serial.0 (zone_serial zone))

-- the list of a transfer, by the list of what changed since the zone that the one who asks holds, where each version since then is
-- there: of an IXFR the SOA alone where what is held is current, else what changed; and the zone in whole (RFC 1995, 2 and 4;
-- RFC 5936, 2.2)
abbrev pub list_for : List Record → Option (List Record) → QueryAsked → List Record
list_for zone changes query =
    if query.question.rtype.0 == type_AXFR then full zone
    else if is_current zone query.serial then soa_of zone
    else unwrap_or changes (full zone)

-- the octets of the messages of a transfer, the first with an OPT where the query has one (RFC 1995, 2; RFC 5936, 2.2; RFC 6891, 6.1.1;
-- own)
abbrev pub messages_to : List Record → Option (List Record) → Peer → QueryAsked → List (List ℕ)
messages_to zone changes peer query =
    if is_stream peer.transport then octets_of (packed query.head query.question (reply_opt query.edns) (list_for zone changes query))
    else datagram query.head query.question (reply_opt query.edns) (udp_limit query.edns) (list_for zone changes query) (soa_of zone) ∷ []
