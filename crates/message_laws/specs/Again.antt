-- What is read where a reply was written (RFC 1035, 4.1).
use Rattle.std.specs.Prelude.{◌≡◌, ℕ, ◌+◌, ◌^◌, ◌<◌, true, List, [], ◌∷◌, ◌++◌, length, map, All, Some}
use Rattle.dns_name.specs.Name.{IsName}
use Rattle.dns_rdata.specs.Data.{data_of}
use Rattle.dns_rdata.specs.Numbers.{class_IN}
use Rattle.dns_rdata.specs.Record.{Record}
use Rattle.wire_names.specs.Table.{Table}
use Rattle.dns_message.specs.Asked.{IsQuestion}
use Rattle.dns_message.specs.Encoding.{Encoding, named, each}
use Rattle.dns_message.specs.Expanded.{expanded_data}
use Rattle.dns_message.specs.Message.{Entry, Body, Message}
use Rattle.dns_message.specs.Opt.{opt_count, opt_entries}
use Rattle.dns_message.specs.Octets.{data_octets, question_octets, questions, record_octets, reply_octets}
use Rattle.dns_message.specs.Reads.{questions_at, records_at}

-- a record that a message can carry: its owner is a name, its TTL has 32 bits, and its data has its type's form, as that
-- of a zone's record has (RFC 1035, 3.3 and 4.1.3)
pub record IsRecord (r : Record) : Type 0 where
  pub owner : IsName r.owner
  pub ttl : r.ttl < 2 ^ 32
  pub form : data_of r.rtype r.rdata ≡ Some r.rdata

-- a reply of lawful records, with a lawful question or without one, of at most 65535 octets, as TCP carries it
-- (RFC 1035, 4.2.2; RFC 5936, 2.2)
pub record IsReply (m : Message) : Type 0 where
  pub question : All IsQuestion (questions m.question)
  pub answer : All IsRecord m.answer
  pub authority : All IsRecord m.authority
  pub additional : All IsRecord m.additional
  pub carried : length (reply_octets m) < 2 ^ 16

-- a place of a message that is written: the table of the names before it, and the position
abbrev pub Place : Type 0
Place = Table × ℕ

-- the place after something that is written at a place
abbrev pub behind : Encoding → Place → Place
behind put place = let written = put place.0 place.1 in (written.1, place.1 + length written.0)

-- the octets of something that is written at a place
abbrev pub octets_at : Encoding → Place → List ℕ
octets_at put place = (put place.0 place.1).0

-- where a record's data begin where the record is written at a place: after the owner are the type, the class, the TTL
-- and the length of the data, ten octets (RFC 1035, 4.1.3)
abbrev pub data_place : Record → Place → Place
data_place r place = let owner = behind (named true r.owner) place in (owner.0, owner.1 + 10)

-- the octets of its data there, names with pointers as they stand
abbrev pub data_at : Record → Place → List ℕ
data_at r place = octets_at (data_octets r.rtype r.rdata) (data_place r place)

-- a record as it stands at a place
abbrev pub entry_at : Record → Place → Entry
entry_at r place = record { owner = r.owner; rtype = r.rtype; class = class_IN; ttl = r.ttl; at = (data_place r place).1; size = length (data_at r place) }

-- records as they stand one after another from a place on
unfoldable pub entries_at : List Record → Place → List Entry
entries_at [] place = []
entries_at (r ∷ rs) place = entry_at r place ∷ entries_at rs (behind (record_octets r) place)

-- the places after a reply's question, answer and authority sections, and after its additional records, but for the OPT; the
-- question is after the header, with an empty table (RFC 1035, 4.1)
abbrev pub question_end : Message → Place
question_end m = behind (each question_octets (questions m.question)) ([], 12)

abbrev pub answer_end : Message → Place
answer_end m = behind (each record_octets m.answer) (question_end m)

abbrev pub authority_end : Message → Place
authority_end m = behind (each record_octets m.authority) (answer_end m)

abbrev pub additional_end : Message → Place
additional_end m = behind (each record_octets m.additional) (authority_end m)

-- the sections that are read where a reply was written are those that were written, with their expanded data, and after the other
-- additional records the OPT, where there is one; and reading ends with the octets
pub record IsReadAgain (m : Message) : Type 0 where
  pub question : questions_at (length (questions m.question)) (reply_octets m) 12 ≡ Some (questions m.question, (question_end m).1)
  pub answer : records_at (length m.answer) (reply_octets m) (question_end m).1 ≡ Some (entries_at m.answer (question_end m), (answer_end m).1)
  pub answer_data : map (expanded_data (reply_octets m)) (entries_at m.answer (question_end m)) ≡ map (λ r. Some r.rdata) m.answer
  pub authority : records_at (length m.authority) (reply_octets m) (answer_end m).1 ≡ Some (entries_at m.authority (answer_end m), (authority_end m).1)
  pub authority_data : map (expanded_data (reply_octets m)) (entries_at m.authority (answer_end m)) ≡ map (λ r. Some r.rdata) m.authority
  pub additional : records_at (length m.additional) (reply_octets m) (authority_end m).1 ≡ Some (entries_at m.additional (authority_end m), (additional_end m).1)
  pub additional_data : map (expanded_data (reply_octets m)) (entries_at m.additional (authority_end m)) ≡ map (λ r. Some r.rdata) m.additional
  pub opt : records_at (opt_count m.opt) (reply_octets m) (additional_end m).1 ≡ Some (opt_entries m.rcode m.opt (additional_end m).1, length (reply_octets m))

-- what stands after a reply's header
abbrev pub body_written : Message → Body
body_written m = record {
  questions = questions m.question;
  answer = entries_at m.answer (question_end m);
  authority = entries_at m.authority (answer_end m);
  additional = entries_at m.additional (authority_end m) ++ opt_entries m.rcode m.opt (additional_end m).1;
}
