-- All that a request gets, by cases.
use Rattle.std.proofs.Common.{◌≡◌, Bool, true, false, List, Option, refl}
use Rattle.std.specs.Option.{option_to_list}
use Rattle.dns_rdata.specs.Record.{Record}
use Rattle.dns_message.specs.declared.query.Query.{Query as QueryAsked}
use Rattle.dns_message.specs.declared.query.Parsed.{Parsed}
use Rattle.dns_message.specs.declared.query.Parsed.TheVariants.{Silent, Fault, BadOpt, Query, Update, NoMemory}
use Rattle.serve_core.specs.declared.peer.Peer.{Peer}
use Rattle.serve_core.specs.declared.transport.Transport.{Transport}
use Rattle.serve_core.specs.declared.transport.Transport.TheVariants.{Udp, Tcp}
use Rattle.serve_core.specs.Replies.{replies_to, IsNoTransfer}
use Rattle.serve_core.specs.Served.{Want, ForNothing, ForReading, ForMaking, got_of}
use Rattle.serve_core.specs.Transfers.{peer_over, is_permitted, messages_to}

pub permitted : (zone : List Record) (changes : Option (List Record)) (peer : Peer) (want : Want) (query : QueryAsked) → is_permitted zone peer query ≡ true
    → replies_to zone changes peer want (Query query) ≡ messages_to zone changes peer query
permitted zone changes peer want query e = rw e refl

-- a query is read as it is, wherever memory is wanted
query_over : (zone : List Record) (changes : Option (List Record)) (transport : Transport) (may : Bool) (want : Want) (query : QueryAsked) → is_permitted zone (peer_over transport may) query ≡ false
    → replies_to zone changes (peer_over transport may) want (Query query) ≡ option_to_list (got_of transport may want zone (Query query)).reply
query_over zone changes Udp may ForNothing query e = rw e refl
query_over zone changes Udp may ForReading query e = rw e refl
query_over zone changes Udp may ForMaking query e = rw e refl
query_over zone changes Tcp may ForNothing query e = rw e refl
query_over zone changes Tcp may ForReading query e = rw e refl
query_over zone changes Tcp may ForMaking query e = rw e refl

pub no_transfer : (zone : List Record) (changes : Option (List Record)) (transport : Transport) (may : Bool) (want : Want) (said : Parsed) → IsNoTransfer zone (peer_over transport may) said
    → replies_to zone changes (peer_over transport may) want said ≡ option_to_list (got_of transport may want zone said).reply
no_transfer zone changes transport may want (Query query) e = query_over zone changes transport may want query e
no_transfer zone changes Udp may want Silent e = refl
no_transfer zone changes Tcp may want Silent e = refl
no_transfer zone changes Udp may want (Fault head code) e = refl
no_transfer zone changes Tcp may want (Fault head code) e = refl
no_transfer zone changes Udp may want (BadOpt head question code dnssec_ok) e = refl
no_transfer zone changes Tcp may want (BadOpt head question code dnssec_ok) e = refl
no_transfer zone changes Udp may want (Update update) e = refl
no_transfer zone changes Tcp may want (Update update) e = refl
no_transfer zone changes Udp may want (NoMemory head) e = refl
no_transfer zone changes Tcp may want (NoMemory head) e = refl
