-- What the reply to a request repeats of it, where it has a code and no record (RFC 1035, 4.1.1; RFC 6891, 6.1.1 and 7).
use Rattle.std.specs.Prelude.{Bool, false, [], Option, None, Some, option_map}
use Rattle.dns_rdata.specs.declared.numbers.Rcode.{Rcode}
use Rattle.dns_message.specs.declared.edns.Edns.{Edns}
use Rattle.dns_message.specs.declared.edns.Opt.{Opt}
use Rattle.dns_message.specs.declared.query.Head.{Head}
use Rattle.dns_message.specs.declared.query.Query.{Query as QueryAsked}
use Rattle.dns_message.specs.declared.query.Question.{Question}
use Rattle.dns_message.specs.declared.update.Update.{Update}
use Rattle.dns_message.specs.Message.{Message}
use Rattle.dns_message.specs.Updates.{zone_question}
use Rattle.serve_core.specs.declared.heading.Heading.{Heading}

-- the OPT of the reply to a request with an OPT, whose DO it copies; none of a request without one (RFC 6891, 6.1.1 and 6.1.4;
-- RFC 3225, 3)
abbrev pub reply_opt : Option Edns → Option Opt
reply_opt edns = option_map (λ asked. record { dnssec_ok = asked.dnssec_ok }) edns

-- a header alone
abbrev pub header_alone : Head → Heading
header_alone head = record { head = head; question = None; opt = None }

-- the header alone of a request without an OPT; of one that has it the question as well, and an OPT (RFC 6891, 6.1.1; own)
abbrev pub heading_with : Head → Question → Option Edns → Heading
heading_with head question None = header_alone head
heading_with head question (Some edns) = record { head = head; question = Some question; opt = reply_opt (Some edns) }

-- of a query
abbrev pub heading_of_query : QueryAsked → Heading
heading_of_query query = heading_with query.head query.question query.edns

-- of an update: its question is the entry of the zone section (RFC 2136, 2.3)
abbrev pub heading_of_update : Update → Heading
heading_of_update update = heading_with update.head (zone_question update.zone) update.edns

-- of a request whose OPT isn't obeyed: its question, and an OPT that copies this DO (RFC 6891, 6.1.3 and 7)
abbrev pub heading_of_bad : Head → Question → Bool → Heading
heading_of_bad head question dnssec_ok = record { head = head; question = Some question; opt = Some (record { dnssec_ok = dnssec_ok }) }

-- a code, and no record but an OPT
abbrev pub coded : Heading → Rcode → Message
coded heading rcode = record { head = heading.head; rcode = rcode; aa = false; tc = false; question = heading.question; answer = []; authority = []; additional = []; opt = heading.opt; below_cut = false }
