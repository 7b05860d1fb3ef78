-- The octets of a reply (RFC 1035, 4.1), and how it is cut to a limit (RFC 1035, 4.1.1 and 4.2.1; RFC 2181, 9).
use Rattle.std.specs.Prelude.{ℕ, Bool, true, ◌+◌, ◌*◌, List, [], ◌∷◌, ◌++◌, length, take, drop, not, ◌&&◌, nat_le, min, Option, Some, None, if◌then◌else◌}
use Rattle.std.specs.Int.{to_be_bytes, w16, w32}
use Rattle.std.specs.List.{flat_map}
use Rattle.dns_name.specs.Name.{wire_of}
use Rattle.dns_rdata.specs.declared.layout.Layout.{Layout}
use Rattle.dns_rdata.specs.declared.layout.Layout.TheVariants.{Fields, Strings, Opaque}
use Rattle.dns_rdata.specs.Layout.{layout_of, names_in}
use Rattle.dns_rdata.specs.Numbers.{class_IN, header_bits}
use Rattle.dns_rdata.specs.Record.{Record}
use Rattle.dns_message.specs.Message.{Message, message_limit}
use Rattle.dns_message.specs.Encoding.{Encoding, these, named, before, measured, each}
use Rattle.dns_message.specs.Opt.{opt_part, opt_count}
use Rattle.dns_message.specs.declared.query.Question.{Question}

-- a flag, as a bit
abbrev pub bit : Bool → ℕ
bit flag = if flag then 1 else 0

-- the flags: QR 1, OPCODE, AA, TC and RD in the first octet; RA 0, Z 0 and the low four bits of the code in the second
-- (RFC 1035, 4.1.1; RFC 6891, 6.1.3)
abbrev pub flags_octets : Message → List ℕ
flags_octets m = (128 + 8 * m.head.opcode + 4 * bit m.aa + 2 * bit m.tc + bit m.head.rd) ∷ header_bits m.rcode ∷ []

-- a question: its name, its type, its class (RFC 1035, 4.1.2)
unfoldable pub question_octets : Question → Encoding
question_octets q = before (named true q.name) (these (to_be_bytes w16 q.rtype.0 ++ to_be_bytes w16 q.class.0))

-- so many names that octets begin with, with pointers or in full, and the octets after these as they are; names from the
-- first on that can't be read are as they are
unfoldable pub names_octets : Bool → ℕ → List ℕ → Encoding
names_octets compress count octets =
    let names = names_in count octets in
    before (each (named compress) names) (these (drop (length (flat_map wire_of names)) octets))

-- data that lies by a layout: the octets before its names as they are, and then the names; strings as they are, and data of a type that
-- nobody knows, in which no name is compressed (RFC 3597, 4)
abbrev pub octets_by : Layout → List ℕ → Encoding
octets_by (Fields front names back compressed) octets = before (these (take front octets)) (names_octets compressed names (drop front octets))
octets_by Strings octets = these octets
octets_by Opaque octets = these octets

-- data of a type that has this layout, or none, and then it is as it is (own)
abbrev pub data_laid : Option Layout → List ℕ → Encoding
data_laid None octets = these octets
data_laid (Some layout) octets = octets_by layout octets

-- a record's data: with pointers in the types of RFC 1035 that have names, the target of an SRV in full, other data as
-- they are (RFC 1035, 3.3 and 4.1.4; RFC 2782; RFC 3597, 4)
unfoldable pub data_octets : ℕ → List ℕ → Encoding
data_octets rtype octets = data_laid (layout_of rtype) octets

-- what stands between a record's owner and the length of its data: its type, class IN, its TTL (RFC 1035, 4.1.3)
abbrev pub fixed_octets : Record → List ℕ
fixed_octets r = to_be_bytes w16 r.rtype ++ to_be_bytes w16 class_IN ++ to_be_bytes w32 r.ttl

-- a record: its owner, its type, class IN, its TTL, how many octets its data has, and these (RFC 1035, 4.1.3)
unfoldable pub record_octets : Record → Encoding
record_octets r = before (named true r.owner) (before (these (fixed_octets r)) (measured (data_octets r.rtype r.rdata)))

-- the question section
abbrev pub questions : Option Question → List Question
questions None = []
questions (Some q) = q ∷ []

-- how many entries the four sections have: questions, answers, authorities, additional records, the OPT among these
-- (RFC 1035, 4.1.1; RFC 6891, 6.1.1)
abbrev pub counts_in : Message → List ℕ
counts_in m = length (questions m.question) ∷ length m.answer ∷ length m.authority ∷ (length m.additional + opt_count m.opt) ∷ []

-- the header: ID, the flags, the four counts (RFC 1035, 4.1.1)
abbrev pub header_octets : Message → List ℕ → List ℕ
header_octets m counts = to_be_bytes w16 m.head.id ++ flags_octets m ++ flat_map (to_be_bytes w16) counts

-- the four sections, the OPT last (RFC 1035, 4.1; RFC 6891, 6.1.1)
unfoldable pub sections_octets : Message → Encoding
sections_octets m =
    before (each question_octets (questions m.question))
    (before (each record_octets m.answer)
    (before (each record_octets m.authority)
    (before (each record_octets m.additional)
    (these (opt_part m.rcode m.opt)))))

-- a reply's octets: the header, then the sections, whose table of names is its own (RFC 1035, 4.1 and 4.1.4)
abbrev pub reply_octets : Message → List ℕ
reply_octets m = header_octets m (counts_in m) ++ (sections_octets m [] 12).0

-- the header, the question and the OPT alone, with TC 1; AA and the code are kept (RFC 2181, 9; RFC 6891, 7; own)
abbrev pub truncated : Message → Message
truncated m = record m { tc = true; answer = []; authority = []; additional = [] }

-- how many octets a reply may have under a limit, which no message passes (RFC 1035, 4.2.2)
abbrev pub room_under : ℕ → ℕ
room_under limit = min limit message_limit

-- whether the whole reply fits a limit
abbrev pub fits : Message → ℕ → Bool
fits m limit = nat_le (length (reply_octets m)) (room_under limit)

-- the reply without its additional section but for the OPT; TC stays 0 (RFC 2181, 9; RFC 6891, 6.1.1)
abbrev pub without_additional : Message → Message
without_additional m = record m { additional = [] }

-- the octets that are sent under a limit: the whole reply where it fits; else, unless the last name looked up is at or below
-- a zone cut, the reply without its additional section where that fits; else the truncated reply (RFC 1035, 4.2.1;
-- RFC 2181, 9; own)
abbrev pub fit : Message → ℕ → List ℕ
fit m limit =
    if fits m limit then reply_octets m
    else if not m.below_cut && fits (without_additional m) limit then reply_octets (without_additional m)
    else reply_octets (truncated m)
