-- The messages that are left of a transfer over a stream, from a place in its list on (RFC 1995, 4; RFC 5936, 2.2).
use Rattle.std.specs.Prelude.{ℕ, Bool, true, false, List, map, Option, None, Some}
use Rattle.dns_rdata.specs.Record.{Record}
use Rattle.dns_message.specs.declared.query.Query.{Query}
use Rattle.dns_message.specs.declared.query.Question.{Question}
use Rattle.zone_tree.specs.Version.{Version}
use Rattle.transfer_core.specs.Packed.{spelt, packed_from, octets_of}
use Rattle.transfer_core.specs.Places.{left_at}
use Rattle.transfer_core.specs.declared.place.Place.{Place}
use Rattle.serve_core.specs.Heading.{reply_opt}

-- the question that is still to be sent: the query's until the first message has been made, then none
abbrev pub question_left : Bool → Query → Option Question
question_left true query = None
question_left false query = Some query.question

-- the octets of the messages for the records that are left of a transfer that a query asks for. The first message of the transfer has the question,
-- and an OPT where the query has one (RFC 5936, 2.2; RFC 6891, 6.1.1; own)
abbrev pub messages_of_records : Query → Bool → List Record → List (List ℕ)
messages_of_records query begun records = octets_of (packed_from query.head (question_left begun query) (reply_opt query.edns) (map (spelt query.question.name) records))

-- the messages that are left of a transfer, by its zone, the versions that lead to it, its query, whether a message has been made, and the place in its list
abbrev pub messages_from : List Record → List Version → Query → Bool → Place → List (List ℕ)
messages_from zone versions query begun place = messages_of_records query begun (left_at zone versions place)
