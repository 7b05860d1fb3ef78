-- Messages (RFC 1035, 4.1).
use Rattle.std.specs.Prelude.{ℕ, Bool, false, List, Option, take, drop}
use Rattle.std.specs.Int.{from_be_bytes, w16}
use Rattle.std.specs.List.{flat_map}
use Rattle.std.specs.Option.{option_copied}
use Rattle.dns_name.specs.Name.{Name}
use Rattle.dns_rdata.specs.declared.numbers.Rcode.{Rcode}
use Rattle.dns_rdata.specs.declared.shown.Shown.{Shown}
use Rattle.dns_rdata.specs.Record.{Record}
use Rattle.dns_rdata.specs.Shown.{records_shown}
use Rattle.dns_message.specs.declared.edns.Opt.{Opt}
use Rattle.dns_message.specs.declared.query.Head.{Head}
use Rattle.dns_message.specs.declared.query.Question.{Question}
use Rattle.dns_message.specs.declared.reply.Reply.{Reply}

-- the OPCODE of a standard query (RFC 1035, 4.1.1)
abbrev pub opcode_QUERY : ℕ
opcode_QUERY = 0

-- the OPCODE of a dynamic update (RFC 2136, 1.3)
abbrev pub opcode_UPDATE : ℕ
opcode_UPDATE = 5

-- the most octets of a message, which the length of 16 bits before it can tell (RFC 1035, 4.2.2)
abbrev pub message_limit : ℕ
message_limit = 65535

-- the most octets of a message of a transfer, up to which pointers lead (RFC 1035, 4.1.4; own)
abbrev pub max_message : ℕ
max_message = 16384

-- the number of 16 bits at a position (RFC 1035, 2.3.2)
abbrev pub number_at : List ℕ → ℕ → ℕ
number_at msg at = from_be_bytes w16 (take 2 (drop at msg))

-- a record as it stands in a message: its owner, its type, its class, its TTL in seconds, and where its data stands: the
-- position of the first octet, and how many there are (RFC 1035, 4.1.3)
pub record Entry : Type 0 where
  pub owner : Name
  pub rtype : ℕ
  pub class : ℕ
  pub ttl : ℕ
  pub at : ℕ
  pub size : ℕ

-- what stands after a message's header: its questions, and the records of its three other sections (RFC 1035, 4.1)
pub record Body : Type 0 where
  pub questions : List Question
  pub answer : List Entry
  pub authority : List Entry
  pub additional : List Entry

-- a reply: what it copies from a request's header, its code, AA and TC, a question or none, three sections, and after the other
-- additional records an OPT or none (RFC 1035, 4.1; RFC 6891, 6.1.1); and whether the last name looked up is at or below a zone cut
-- (RFC 1034, 4.3.2)
pub record Message : Type 0 where
  pub head : Head
  pub rcode : Rcode
  pub aa : Bool
  pub tc : Bool
  pub question : Option Question
  pub answer : List Record
  pub authority : List Record
  pub additional : List Record
  pub opt : Option Opt
  pub below_cut : Bool

-- the records of a section, in the order in which it shows them
abbrev pub section_of : List Shown → List Record
section_of section = flat_map records_shown section

-- the whole reply that is to be sent
abbrev pub message_of : Reply → Message
message_of reply = record {
  head = reply.head;
  rcode = reply.rcode;
  aa = reply.aa;
  tc = false;
  question = option_copied reply.question;
  answer = section_of reply.answer.now;
  authority = section_of reply.authority.now;
  additional = section_of reply.additional.now;
  opt = reply.opt;
  below_cut = reply.below_cut;
}
