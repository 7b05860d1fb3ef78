-- A NOTIFY in octets, and the octets that answer it (RFC 1996, 3).
use Rattle.std.specs.Prelude.{ℕ, Bool, false, ◌+◌, ◌*◌, ◌&&◌, ◌||◌, not, ◌==◌, List, [], ◌∷◌, ◌++◌, length, nat_lt, nat_le, Some, None, Result, Ok, Err, if◌then◌else◌}
use Rattle.std.specs.Int.{to_be_bytes, w16}
use Rattle.std.specs.List.{flat_map}
use Rattle.dns_name.specs.Name.{Name, is_same}
use Rattle.dns_rdata.specs.Numbers.{type_SOA, class_IN}
use Rattle.dns_rdata.specs.Record.{Record}
use Rattle.wire_names.specs.NameAt.{name_at}
use Rattle.wire_names.specs.declared.part.NameReadFault.{NameReadFault}
use Rattle.dns_message.specs.Answers.{placed}
use Rattle.dns_message.specs.Message.{number_at}
use Rattle.dns_message.specs.Reads.{opcode_of, is_reply}
use Rattle.dns_message.specs.declared.query.Question.{Question}
use Rattle.zone_tree.specs.Zone.{soa_of, apex_of}

-- the OPCODE of a NOTIFY (RFC 1996, 3.1)
abbrev pub opcode_NOTIFY : ℕ
opcode_NOTIFY = 4

-- the most octets of a message over UDP (RFC 1035, 4.2.1)
abbrev pub notify_limit : ℕ
notify_limit = 512

-- the header: the ID; QR 0, OPCODE NOTIFY, AA 1, TC 0 and RD 0 in one octet; RA, Z and RCODE 0 in the next; one question, so many
-- answers, and nothing after these (RFC 1035, 4.1.1; RFC 1996, 3.2, 3.3, 3.7 and 3.9)
abbrev pub notify_header : ℕ → ℕ → List ℕ
notify_header id answers = to_be_bytes w16 id ++ ((8 * opcode_NOTIFY + 4) ∷ 0 ∷ []) ++ flat_map (to_be_bytes w16) (1 ∷ answers ∷ 0 ∷ 0 ∷ [])

-- the question: the zone's apex, of type SOA and class IN, since the SOA has changed (RFC 1996, 3.11)
abbrev pub notify_question : List Record → Question
notify_question zone = record { name = apex_of zone; rtype = record { 0 = type_SOA }; class = record { 0 = class_IN } }

-- a NOTIFY of an ID and a question, with these records in its answer section
abbrev pub notify_with : ℕ → Question → List Record → List ℕ
notify_with id question answer = notify_header id (length answer) ++ (placed (Some question) answer [] 12).0

-- and with such records where they fit; else its answer section is empty (RFC 1035, 4.2.1; RFC 1996, 3.7)
abbrev pub notify_within : ℕ → Question → List Record → List ℕ
notify_within id question answer =
    if nat_le (length (notify_with id question answer)) notify_limit then notify_with id question answer else notify_with id question []

-- the NOTIFY of a zone, of an ID: the zone's SOA stands in its answer section where it fits, as a hint (RFC 1996, 3.7 and 3.8)
unfoldable pub notify_octets : ℕ → List Record → List ℕ
notify_octets id zone = notify_within id (notify_question zone) (soa_of zone)

-- whether a name was read, and is this one but for case (RFC 4343, 3)
abbrev pub is_read_as : Name → Result (Name × ℕ) NameReadFault → Bool
is_read_as name (Ok r) = is_same r.0 name
is_read_as name (Err fault) = false

-- whether a header is of a NOTIFY's reply: QR 1, and OPCODE NOTIFY (RFC 1996, 3.3)
abbrev pub is_notify_reply : List ℕ → Bool
is_notify_reply msg = is_reply msg && opcode_of msg == opcode_NOTIFY

-- whether a header has no question after it, or the name after it is this one
abbrev pub asks_no_other : Name → List ℕ → Bool
asks_no_other apex msg = number_at msg 4 == 0 || is_read_as apex (name_at msg 12)

-- whether octets answer the NOTIFY of an ID for the zone at an apex: they are a header or more, of a NOTIFY's reply, with that ID; and
-- where a question stands after it, its name is the apex. The RCODE is of no matter (RFC 1996, 3.3, 3.6 and 3.12)
abbrev pub is_answer : Name → ℕ → List ℕ → Bool
is_answer apex id msg = not (nat_lt (length msg) 12) && is_notify_reply msg && number_at msg 0 == id && asks_no_other apex msg
