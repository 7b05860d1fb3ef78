-- All that a request gets, as the octets of messages: none, one reply, or the messages of a transfer (RFC 1034, 4.3.2; RFC 1995, 2 and
-- 4; RFC 2136, 3; RFC 5936, 2.2).
use Rattle.std.specs.Prelude.{◌≡◌, ℕ, false, List, [], ◌∷◌, Option, if◌then◌else◌}
use Rattle.std.specs.Option.{option_to_list}
use Rattle.dns_rdata.specs.Record.{Record}
use Rattle.dns_message.specs.declared.query.Parsed.{Parsed}
use Rattle.dns_message.specs.declared.query.Parsed.TheVariants.{Silent, Fault, BadOpt, Query, Update, NoMemory}
use Rattle.dns_message.specs.Octets.{fit}
use Rattle.serve_core.specs.declared.peer.Peer.{Peer}
use Rattle.serve_core.specs.Served.{Want, got_of}
use Rattle.serve_core.specs.Transfers.{is_permitted, reply_to_peer, messages_to}
use Rattle.serve_core.specs.Transport.{limit_of}

-- the one reply of a request that isn't a query, or none
abbrev pub told_to : List Record → Peer → Want → Parsed → List (List ℕ)
told_to zone peer want said = option_to_list (got_of peer.transport peer.may_update want zone said).reply

-- what is sent for what a request says, in a zone, by the list of what changed since the zone that an asker of an IXFR holds, where it is
-- told: the messages of a transfer that is permitted, else one reply, or none; wherever memory is wanted
abbrev pub replies_to : List Record → Option (List Record) → Peer → Want → Parsed → List (List ℕ)
replies_to zone changes peer want Silent = told_to zone peer want Silent
replies_to zone changes peer want (Fault head code) = told_to zone peer want (Fault head code)
replies_to zone changes peer want (BadOpt head question code dnssec_ok) = told_to zone peer want (BadOpt head question code dnssec_ok)
replies_to zone changes peer want (Query query) =
    if is_permitted zone peer query then messages_to zone changes peer query
    else fit (reply_to_peer zone peer query) (limit_of peer.transport query.edns) ∷ []
replies_to zone changes peer want (Update update) = told_to zone peer want (Update update)
replies_to zone changes peer want (NoMemory head) = told_to zone peer want (NoMemory head)

-- what a request says isn't a transfer that is permitted
abbrev pub IsNoTransfer : List Record → Peer → Parsed → Type 0
IsNoTransfer zone peer Silent = Unit {0}
IsNoTransfer zone peer (Fault head code) = Unit {0}
IsNoTransfer zone peer (BadOpt head question code dnssec_ok) = Unit {0}
IsNoTransfer zone peer (Query query) = is_permitted zone peer query ≡ false
IsNoTransfer zone peer (Update update) = Unit {0}
IsNoTransfer zone peer (NoMemory head) = Unit {0}
