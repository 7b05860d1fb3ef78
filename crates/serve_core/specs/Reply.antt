-- The reply to a query (RFC 1034, 4.3.2; RFC 1035, 4.1; the order of the refusals is our own choice).
use Rattle.std.specs.Prelude.{Bool, false, ◌||◌, not, ◌==◌, List, Some, if◌then◌else◌}
use Rattle.dns_name.specs.Name.{is_under}
use Rattle.dns_rdata.specs.declared.numbers.Rcode.{Rcode}
use Rattle.dns_rdata.specs.declared.numbers.Rcode.TheVariants.{NotImp, Refused}
use Rattle.dns_rdata.specs.Numbers.{class_IN, type_IXFR, type_AXFR, type_MAILB, type_MAILA}
use Rattle.dns_rdata.specs.Record.{Record}
use Rattle.dns_message.specs.declared.query.Question.{Question}
use Rattle.dns_message.specs.declared.query.Query.{Query as QueryAsked}
use Rattle.dns_message.specs.Message.{Message}
use Rattle.zone_tree.specs.Zone.{apex_of}
use Rattle.lookup_core.specs.Sections.{Sections, sections}
use Rattle.serve_core.specs.Heading.{heading_of_query, reply_opt, coded}

-- a code to a query that isn't answered
abbrev pub unanswered : QueryAsked → Rcode → Message
unanswered query rcode = coded (heading_of_query query) rcode

-- and the question with it, whether the query has an OPT or none (RFC 1035, 4.1.1)
abbrev pub refused : QueryAsked → Rcode → Message
refused query rcode = record (unanswered query rcode) { question = Some query.question }

-- an answer's sections (RFC 1034, 4.3.2)
abbrev pub answered : QueryAsked → Sections → Message
answered query s = record { head = query.head; rcode = s.rcode; aa = s.aa; tc = false; question = Some query.question; answer = s.answer; authority = s.authority; additional = s.additional; opt = reply_opt query.edns; below_cut = s.below_cut }

-- the zone's answer to a query (RFC 1034, 4.3.2)
abbrev pub answered_in : List Record → QueryAsked → Message
answered_in zone query = answered query (sections zone query.question.name query.question.rtype.0)

-- whether a question asks for a transfer: IXFR or AXFR (RFC 1995, 4; RFC 5936, 2)
abbrev pub asks_transfer : Question → Bool
asks_transfer q = q.rtype.0 == type_IXFR || q.rtype.0 == type_AXFR

-- the reply to a query from a server that sends no transfer: REFUSED in another class than IN, NOTIMP of a transfer, of MAILB
-- and of MAILA, REFUSED of a name outside the zone, else the zone's answer (RFC 1034, 4.3.2; own)
abbrev pub reply_to : List Record → QueryAsked → Message
reply_to zone query =
    if not (query.question.class.0 == class_IN) then refused query Refused
    else if asks_transfer query.question then unanswered query NotImp
    else if query.question.rtype.0 == type_MAILB || query.question.rtype.0 == type_MAILA then unanswered query NotImp
    else if not (is_under query.question.name (apex_of zone)) then refused query Refused
    else answered_in zone query
