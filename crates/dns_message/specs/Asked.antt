-- The request that a reply answers (RFC 1035, 4.1).
use Rattle.std.specs.Prelude.{◌≡◌, ℕ, ◌+◌, ◌*◌, ◌^◌, ◌<◌, List, [], ◌∷◌, ◌++◌, drop, Some}
use Rattle.std.specs.Int.{to_be_bytes, w16}
use Rattle.std.specs.List.{flat_map}
use Rattle.dns_name.specs.Name.{wire_of, IsName}
use Rattle.dns_message.specs.Message.{opcode_QUERY, Message}
use Rattle.dns_message.specs.Octets.{bit, reply_octets}
use Rattle.dns_message.specs.declared.query.Head.{Head}
use Rattle.dns_message.specs.declared.query.Question.{Question}

-- the header of a request: ID, OPCODE and RD, one question, no records (RFC 1035, 4.1.1)
abbrev pub request_header : Head → List ℕ
request_header head =
    to_be_bytes w16 head.id ++ ((8 * head.opcode + bit head.rd) ∷ 0 ∷ []) ++ flat_map (to_be_bytes w16) (1 ∷ 0 ∷ 0 ∷ 0 ∷ [])

-- a reply's octets with a request's header in place of its own
abbrev pub request_of : Message → List ℕ
request_of m = request_header m.head ++ drop 12 (reply_octets m)

-- the parts of a question are what its octets can say (RFC 1035, 4.1.2)
pub record IsQuestion (question : Question) : Type 0 where
  pub name : IsName question.name
  pub rtype : question.rtype.0 < 2 ^ 16
  pub class : question.class.0 < 2 ^ 16

-- a reply repeats this question of a standard query
pub record IsAnswerTo (m : Message) (question : Question) : Type 0 where
  pub asked : m.question ≡ Some question
  pub lawful : IsQuestion question
  pub id : m.head.id < 2 ^ 16
  pub standard : m.head.opcode ≡ opcode_QUERY

-- the octets of a question whose name is in full (RFC 1035, 4.1.2)
abbrev pub question_in_full : Question → List ℕ
question_in_full question = wire_of question.name ++ (to_be_bytes w16 question.rtype.0 ++ to_be_bytes w16 question.class.0)
