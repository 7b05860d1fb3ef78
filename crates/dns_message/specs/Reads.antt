-- How a request is read: its header, and what stands after it (RFC 1035, 4.1).
use Rattle.std.specs.Prelude.{◌≡◌, ℕ, zero, suc, Bool, ◌+◌, ◌/◌, ◌%◌, ◌&&◌, not, ◌==◌, List, [], ◌∷◌, ◌++◌, length, take, drop, nat_le, Option, Some, None, option_map, option_and_then, Result, Ok, Err, slice_index, if◌then◌else◌}
use Rattle.std.specs.Int.{from_be_bytes, w32}
use Rattle.std.proofs.Common.{lit<}
use Rattle.std.proofs.Math.Nat.{mod-lt}
use Rattle.dns_name.specs.Name.{Name, is_same}
use Rattle.dns_rdata.specs.declared.numbers.Serial.{Serial}
use Rattle.dns_rdata.specs.Numbers.{class_IN, type_SOA, type_IXFR}
use Rattle.wire_names.specs.NameAt.{name_at}
use Rattle.wire_names.specs.declared.part.NameReadFault.{NameReadFault}
use Rattle.dns_message.specs.Expanded.{names_at}
use Rattle.dns_message.specs.Message.{Entry, Body, opcode_UPDATE, number_at}
use Rattle.dns_message.specs.Opt.{opt_said}
use Rattle.dns_message.specs.declared.edns.Edns.{Edns}
use Rattle.dns_message.specs.declared.edns.OptFault.{OptFault}
use Rattle.dns_message.specs.declared.query.Head.{Head}
use Rattle.dns_message.specs.declared.query.Question.{Question}

-- OPCODE, the four bits below the top one of the third octet (RFC 1035, 4.1.1)
abbrev pub opcode_of : List ℕ → ℕ
opcode_of msg = (slice_index msg 2 / 8) % 16

-- what a reply copies from a header: ID, OPCODE, and RD, the lowest bit of the third octet, but for an UPDATE, where that
-- bit has no meaning (RFC 1035, 4.1.1; RFC 2136, 2.2; own)
abbrev pub header_of : List ℕ → Head
header_of msg = record {
  id = number_at msg 0;
  opcode = opcode_of msg;
  rd = slice_index msg 2 % 2 == 1 && not (opcode_of msg == opcode_UPDATE);
  four_bits = mod-lt (slice_index msg 2 / 8) (lit< tt);
}

-- QR, the top bit of the third octet: a reply, no request (RFC 1035, 4.1.1)
abbrev pub is_reply : List ℕ → Bool
is_reply msg = nat_le 128 (slice_index msg 2)

-- the question whose name was read, with its type and its class after the name, and the position after these; none
-- where the name has a fault or the octets end before (RFC 1035, 4.1.2)
abbrev pub question_of : List ℕ → Result (Name × ℕ) NameReadFault → Option (Question × ℕ)
question_of msg (Err fault) = None
question_of msg (Ok r) =
    let rtype = number_at msg r.1 in
    let class = number_at msg (r.1 + 2) in
    if nat_le (r.1 + 4) (length msg) then Some (record { name = r.0; rtype = record { 0 = rtype }; class = record { 0 = class } }, r.1 + 4) else None

-- the question at a position of a message, its name through pointers, and the position after it (RFC 1035, 4.1.2)
abbrev pub question_at : List ℕ → ℕ → Option (Question × ℕ)
question_at msg at = question_of msg (name_at msg at)

-- the number of 32 bits at a position (RFC 1035, 2.3.2)
abbrev pub long_number_at : List ℕ → ℕ → ℕ
long_number_at msg at = from_be_bytes w32 (take 4 (drop at msg))

-- the record whose owner was read: after the name its type, its class, its TTL, how many octets its data has, and so
-- many octets; and the position after these; none where the name has a fault or the octets end before
-- (RFC 1035, 4.1.3)
abbrev pub record_of : List ℕ → Result (Name × ℕ) NameReadFault → Option (Entry × ℕ)
record_of msg (Err fault) = None
record_of msg (Ok r) =
    let size = number_at msg (r.1 + 8) in
    let next = r.1 + 10 + size in
    if nat_le next (length msg)
    then Some (record { owner = r.0; rtype = number_at msg r.1; class = number_at msg (r.1 + 2); ttl = long_number_at msg (r.1 + 4); at = r.1 + 10; size = size }, next)
    else None

-- the record at a position of a message, its owner through pointers, and the position after it (RFC 1035, 4.1.3)
abbrev pub record_at : List ℕ → ℕ → Option (Entry × ℕ)
record_at msg at = record_of msg (name_at msg at)

-- the type of a record at a position of a message, and the position after it
abbrev pub typed : Entry × ℕ → ℕ × ℕ
typed r = (r.0.rtype, r.1)

-- a record stands at a position, and so much do OPTs say that have said so much before it
pub record HearsAt (msg : List ℕ) (at : ℕ) (said heard : Result (Option Edns) OptFault) (next : ℕ) : Type 0 where
  pub entry : Entry
  pub is_present : record_at msg at ≡ Some (entry, next)
  pub says : (records : List Entry) → said ≡ opt_said records → heard ≡ opt_said (records ++ entry ∷ [])

-- so many records, one after another from a position on, and the position after the last; none where one can't be read
unfoldable pub records_at : ℕ → List ℕ → ℕ → Option (List Entry × ℕ)
records_at zero msg at = Some ([], at)
records_at (suc count) msg at =
    option_and_then (λ r. option_map (λ rest. (r.0 ∷ rest.0, rest.1)) (records_at count msg r.1)) (record_at msg at)

-- so many questions, one after another from a position on, and the position after the last; none where one can't be read
unfoldable pub questions_at : ℕ → List ℕ → ℕ → Option (List Question × ℕ)
questions_at zero msg at = Some ([], at)
questions_at (suc count) msg at =
    option_and_then (λ q. option_map (λ rest. (q.0 ∷ rest.0, rest.1)) (questions_at count msg q.1)) (question_at msg at)

-- what stands after the header, by its counts QDCOUNT, ANCOUNT, NSCOUNT and ARCOUNT: questions and three sections of
-- records; octets after these are ignored (RFC 1035, 4.1; own)
unfoldable pub body_in : List ℕ → Option Body
body_in msg =
    option_and_then (λ questions.
    option_and_then (λ answer.
    option_and_then (λ authority.
    option_map (λ additional. record { questions = questions.0; answer = answer.0; authority = authority.0; additional = additional.0 })
    (records_at (number_at msg 10) msg authority.1))
    (records_at (number_at msg 8) msg answer.1))
    (records_at (number_at msg 6) msg questions.1))
    (questions_at (number_at msg 4) msg 12)

-- the serial in the data of an SOA as it stands in a message: after two names, through pointers, are five numbers of 32
-- bits, of which it is the first; none where a name has a fault or the data don't end after these (RFC 1035, 3.3.13)
abbrev pub serial_at : List ℕ → Entry → Option Serial
serial_at msg entry =
    option_and_then
    (λ names. if names.1 + 20 == entry.at + entry.size then Some (record { 0 = long_number_at msg names.1 }) else None)
    (names_at 2 msg entry.at)

-- whether a record is an SOA of class IN at a name (RFC 1995, 3)
abbrev pub is_soa_at : Name → Entry → Bool
is_soa_at name entry = entry.rtype == type_SOA && entry.class == class_IN && is_same entry.owner name

-- the serial of the one SOA at a name, of class IN, that an authority section is; none of any other section (RFC 1995, 3)
abbrev pub serial_in : List ℕ → Name → List Entry → Option Serial
serial_in msg name [] = None
serial_in msg name (entry ∷ []) = if is_soa_at name entry then serial_at msg entry else None
serial_in msg name (entry ∷ other ∷ more) = None

-- the serial of the zone that one who asks for an IXFR holds; of any other question none is looked for (RFC 1995, 3)
abbrev pub serial_held : List ℕ → Question → List Entry → Option Serial
serial_held msg question authority = if question.rtype.0 == type_IXFR then serial_in msg question.name authority else None

-- the question of a list that has one question and no other (own)
abbrev pub only_question : List Question → Option Question
only_question [] = None
only_question (question ∷ []) = Some question
only_question (question ∷ other ∷ more) = None

-- what is seen of what stands after a header: its one question, the serial of the zone that one who asks for an IXFR
-- holds, and what the OPTs in its additional section say; none of another number of questions
abbrev pub seen : List ℕ → Body → Option (Question × Option Serial × Result (Option Edns) OptFault)
seen msg body =
    option_map (λ question. (question, serial_held msg question body.authority, opt_said body.additional)) (only_question body.questions)
