-- What a request comes to in a zone: its reply, and the zone after it (RFC 1034, 4.3.2; RFC 2136, 3).
use Rattle.std.specs.Prelude.{◌≡◌, ℕ, ◌+◌, ◌≤◌, Bool, true, false, ◌==◌, List, take, Option, Some, None, unwrap_or, if◌then◌else◌}
use Rattle.dns_rdata.specs.declared.numbers.Rcode.{Rcode}
use Rattle.dns_rdata.specs.declared.numbers.Rcode.TheVariants.{NoError, ServFail}
use Rattle.dns_rdata.specs.Record.{Record}
use Rattle.dns_message.specs.declared.query.Parsed.{Parsed}
use Rattle.dns_message.specs.declared.query.Parsed.TheVariants.{Silent, Fault, BadOpt, Query, Update, NoMemory}
use Rattle.dns_message.specs.Message.{opcode_UPDATE}
use Rattle.dns_message.specs.Request.{reads}
use Rattle.dns_message.specs.Octets.{fit}
use Rattle.zone_tree.specs.Version.{Version}
use Rattle.update_core.specs.Verdict.{verdict}
use Rattle.update_core.specs.Act.{act}
use Rattle.update_core.specs.Applied.{code_of}
use Rattle.serve_core.specs.declared.served.Responded.{Responded}
use Rattle.serve_core.specs.declared.transport.Transport.{Transport}
use Rattle.serve_core.specs.declared.heading.Heading.{Heading}
use Rattle.serve_core.specs.Heading.{header_alone, heading_of_update, heading_of_bad, coded}
use Rattle.serve_core.specs.Transfers.{peer_over, reply_to_peer}
use Rattle.serve_core.specs.Transport.{limit_of}

-- what a request gets: the reply's octets, none where there is no reply, and the zone after it
pub record Got : Type 0 where
  pub reply : Option (List ℕ)
  pub zone : List Record

-- what memory is wanted for while a request is served: nothing; reading an update; what an update that is read makes of the zone (own)
pub data Want : Type 0 where
  ForNothing : Want
  ForReading : Want
  ForMaking : Want

-- whether what a request says asks for an update, whether it can be read or not (RFC 2136, 1.3)
abbrev pub asks_update : Parsed → Bool
asks_update Silent = false
asks_update (Fault head code) = head.opcode == opcode_UPDATE
asks_update (BadOpt head question code dnssec_ok) = head.opcode == opcode_UPDATE
asks_update (Query query) = false
asks_update (Update update) = true
asks_update (NoMemory head) = true

-- a code, and a zone after it; it has 282 octets at most, so that it fits whatever the asker can take (RFC 1035, 4.2.1)
abbrev pub reported : Transport → Heading → Rcode → List Record → Got
reported transport heading code zone = record { reply = Some (fit (coded heading code) (limit_of transport None)); zone = zone }

-- an update by its code, with which the zone stays; else NOERROR and the zone that it makes (RFC 2136, 3)
abbrev pub answered : Transport → Heading → List Record → Option (List Record) → Option Rcode → Got
answered transport heading zone next (Some code) = reported transport heading code zone
answered transport heading zone next None = reported transport heading NoError (unwrap_or next zone)

-- what comes of what a request says: an update from a peer that may update, or may not, is judged and taken; nothing else changes
-- the zone (RFC 1034, 4.3.2; RFC 2136, 3). SERVFAIL where memory was wanted in reading has no OPT (own)
abbrev pub got_for : Transport → Bool → List Record → Parsed → Got
got_for transport may zone Silent = record { reply = None; zone = zone }
got_for transport may zone (Fault head code) = reported transport (header_alone head) code zone
got_for transport may zone (BadOpt head question code dnssec_ok) = reported transport (heading_of_bad head question dnssec_ok) code zone
got_for transport may zone (Query query) = record { reply = Some (fit (reply_to_peer zone (peer_over transport may) query) (limit_of transport query.edns)); zone = zone }
got_for transport may zone (Update update) = answered transport (heading_of_update update) zone (act zone update) (code_of zone update may)
got_for transport may zone (NoMemory head) = reported transport (header_alone head) ServFail zone

-- what a request says where memory is wanted to read it: what asks for an update is SERVFAIL, and all else needs no memory (own)
abbrev pub without_memory : Parsed → Parsed
without_memory Silent = Silent
without_memory (Fault head code) = if head.opcode == opcode_UPDATE then NoMemory head else Fault head code
without_memory (BadOpt head question code dnssec_ok) = if head.opcode == opcode_UPDATE then NoMemory head else BadOpt head question code dnssec_ok
without_memory (Query query) = Query query
without_memory (Update update) = NoMemory update.head
without_memory (NoMemory head) = NoMemory head

-- what comes of what a request says where memory is wanted for what it makes: an update gets SERVFAIL, and all else makes nothing (own)
abbrev pub got_unmade : Transport → Bool → List Record → Parsed → Got
got_unmade transport may zone (Update update) = reported transport (heading_of_update update) ServFail zone
got_unmade transport may zone said = got_for transport may zone said

-- what comes of what a request says, wherever memory is wanted
abbrev pub got_of : Transport → Bool → Want → List Record → Parsed → Got
got_of transport may ForNothing zone said = got_for transport may zone said
got_of transport may ForReading zone said = got_for transport may zone (without_memory said)
got_of transport may ForMaking zone said = got_unmade transport may zone said

-- what a request gets in a zone, over a transport, wherever memory is wanted: the reply's octets, and the zone after it (RFC 1035, 4.2.1
-- and 4.2.2; RFC 2136, 3)
unfoldable pub got : Transport → Bool → Want → List Record → List ℕ → Got
got transport may want zone request = got_of transport may want zone (reads request)

-- the most octets of what a request gets, by what it says: a query's OPT alone tells of a limit that matters
abbrev pub limit_for : Transport → Parsed → ℕ
limit_for transport (Query query) = limit_of transport query.edns
limit_for transport said = limit_of transport None

-- a reply stands at the front of a buffer, and keeps a limit; or there is none
abbrev pub StandsIn : Option ℕ → ℕ → List ℕ → Option (List ℕ) → Type 0
StandsIn None limit out reply = reply ≡ None
StandsIn (Some len) limit out reply = (len ≤ limit) × (reply ≡ Some (take len out))

-- a version after another one has this zone: one of the next number where the zone is another, and else none
abbrev pub IsBehind : Option Version → Version → List Record → Type 0
IsBehind None version zone = zone ≡ version.zone
IsBehind (Some next) version zone = (next.zone ≡ zone) × (next.zone ≡ version.zone → ⊥) × (next.number ≡ version.number + 1)

-- what was served is what is got of what a request says: the reply stands in a buffer, and the next version has the zone after it
pub record ServesSaid (served : Responded) (transport : Transport) (may : Bool) (version : Version) (said : Parsed) (out : List ℕ) : Type 0 where
  pub want : Want
  pub reply : StandsIn served.len (limit_for transport said) out (got_of transport may want version.zone said).reply
  pub zone : IsBehind served.next version (got_of transport may want version.zone said).zone

-- what was served is what a request gets in a version's zone, wherever memory was wanted
pub record Serves (served : Responded) (transport : Transport) (may : Bool) (version : Version) (request out : List ℕ) : Type 0 where
  pub want : Want
  pub reply : StandsIn served.len (limit_for transport (reads request)) out (got transport may want version.zone request).reply
  pub zone : IsBehind served.next version (got transport may want version.zone request).zone

-- what is told where no memory is wanted for it: a request that can't be read its code, and an update that breaks a rule the rule's
-- (RFC 2136, 3; own)
abbrev pub IsToldAtOnce : List Record → Bool → Transport → Parsed → Option ℕ → List ℕ → Type 0
IsToldAtOnce zone may transport Silent len out = Unit {0}
IsToldAtOnce zone may transport (Fault head code) len out = StandsIn len (limit_of transport None) out (reported transport (header_alone head) code zone).reply
IsToldAtOnce zone may transport (BadOpt head question code dnssec_ok) len out = StandsIn len (limit_of transport None) out (reported transport (heading_of_bad head question dnssec_ok) code zone).reply
IsToldAtOnce zone may transport (Query query) len out = Unit {0}
IsToldAtOnce zone may transport (Update update) len out =
    (code : Rcode) → verdict zone update may ≡ Some code → StandsIn len (limit_of transport None) out (reported transport (heading_of_update update) code zone).reply
IsToldAtOnce zone may transport (NoMemory head) len out = Unit {0}
