-- What a request says (RFC 1035, 4.1 and 4.2; RFC 2136, 2; the order of the refusals is our own choice).
use Rattle.std.specs.Prelude.{◌≡◌, ℕ, ◌≤◌, ◌⊎◌, Bool, false, ◌&&◌, ◌||◌, not, ◌==◌, List, length, nat_lt, Option, Some, None, option_and_then, Result, Ok, Err, if◌then◌else◌}
use Rattle.dns_rdata.specs.declared.numbers.Rcode.TheVariants.{FormErr, NotImp}
use Rattle.dns_rdata.specs.declared.numbers.Serial.{Serial}
use Rattle.dns_message.specs.Message.{opcode_QUERY, opcode_UPDATE}
use Rattle.dns_message.specs.Reads.{opcode_of, header_of, is_reply, body_in, seen}
use Rattle.dns_message.specs.Updates.{update_in}
use Rattle.dns_message.specs.declared.edns.Edns.{Edns}
use Rattle.dns_message.specs.declared.edns.OptFault.{OptFault}
use Rattle.dns_message.specs.declared.query.Head.{Head}
use Rattle.dns_message.specs.declared.query.Question.{Question}
use Rattle.dns_message.specs.declared.query.Query.{Query as QueryAsked}
use Rattle.dns_message.specs.declared.query.Said.{Said}
use Rattle.dns_message.specs.declared.query.Said.TheVariants as said
use Rattle.dns_message.specs.declared.query.Parsed.{Parsed}
use Rattle.dns_message.specs.declared.query.Parsed.TheVariants.{Silent, Fault, BadOpt, Query, Update, NoMemory}
use Rattle.dns_message.specs.declared.update.Update.{Update as DynamicUpdate}

-- what a question says after a header: a query, where the OPT in its additional section is obeyed or there is none, else that it
-- isn't (RFC 1035, 4.1; RFC 6891, 7)
abbrev pub asked_with : Head → Question → Option Serial → Result (Option Edns) OptFault → Parsed
asked_with head question serial (Ok edns) = Query (record { head = head; question = question; serial = serial; edns = edns })
asked_with head question serial (Err fault) = BadOpt head question fault.rcode fault.dnssec_ok

-- what a header and what is seen after it say: FORMERR where that can't be read or hasn't one question (RFC 1035, 4.1; own)
abbrev pub query_of : Head → Option (Question × Option Serial × Result (Option Edns) OptFault) → Parsed
query_of head None = Fault head FormErr
query_of head (Some r) = asked_with head r.0 r.1 r.2

-- what an update says, or its zone entry where its OPT isn't obeyed (RFC 2136, 2; RFC 6891, 7)
abbrev pub update_read : Head → Result DynamicUpdate (Question × OptFault) → Parsed
update_read head (Ok update) = Update update
update_read head (Err bad) = BadOpt head bad.0 bad.1.rcode bad.1.dnssec_ok

-- what the header of an update and what is read after it say: FORMERR where no update can be read (RFC 2136, 2; own)
abbrev pub update_of : Head → Option (Result DynamicUpdate (Question × OptFault)) → Parsed
update_of head None = Fault head FormErr
update_of head (Some read) = update_read head read

-- whether octets ask for an update, by their header alone, whether they can be read as one or not: twelve or more, which are no reply, of
-- OPCODE UPDATE (RFC 1035, 4.1.1; RFC 2136, 1.3 and 2.2)
abbrev pub is_update : List ℕ → Bool
is_update msg = not (nat_lt (length msg) 12) && not (is_reply msg) && opcode_of msg == opcode_UPDATE

-- how octets are read: fewer than twelve, or a reply, are silent; an OPCODE other than QUERY and UPDATE is NOTIMP; else it is
-- as the header and what stands after it say (RFC 1035, 4.1.1; RFC 2136, 2; own)
abbrev pub reads : List ℕ → Parsed
reads msg =
    if nat_lt (length msg) 12 || is_reply msg then Silent
    else if opcode_of msg == opcode_QUERY then query_of (header_of msg) (option_and_then (seen msg) (body_in msg))
    else if opcode_of msg == opcode_UPDATE then update_of (header_of msg) (update_in (header_of msg) msg)
    else Fault (header_of msg) NotImp

-- what octets say whose query, or question alone, is read into a query that is kept
abbrev pub said_in : QueryAsked → Said → Parsed
said_in query said.Query = Query query
said_in query said.Silent = Silent
said_in query (said.Fault head code) = Fault head code
said_in query (said.BadOpt head code dnssec_ok) = BadOpt head query.question code dnssec_ok

-- memory was wanted while an update was read: so it is told with the update's header
pub record IsWant (msg : List ℕ) (reported : Parsed) : Type 0 where
  pub whole : 12 ≤ length msg
  pub asks : is_reply msg ≡ false
  pub update : opcode_of msg ≡ opcode_UPDATE
  pub is : reported ≡ NoMemory (header_of msg)

-- what is told of octets: how they are read, or that memory was wanted
abbrev pub Tells : List ℕ → Parsed → Type 0
Tells msg reported = (reported ≡ reads msg) ⊎ IsWant msg reported
