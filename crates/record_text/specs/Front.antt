-- What stands before a record's data: its TTL, its class and its type (RFC 1035, 5.1).
use Rattle.std.specs.Prelude.{ℕ, Bool, true, false, not, ◌&&◌, List, [], ◌∷◌, map, if◌then◌else◌, Option, Some, None, Result, Ok, Err}
use Rattle.std.specs.Option.{is_some}
use Rattle.dns_rdata.specs.declared.numbers.Ttl.{Ttl}
use Rattle.record_text.specs.declared.cause.Cause.{Cause}
use Rattle.record_text.specs.declared.cause.Cause.TheVariants.{BadData}
use Rattle.record_text.specs.declared.front.Mark.{Mark}
use Rattle.record_text.specs.declared.front.Mark.TheVariants as mark
use Rattle.record_text.specs.declared.front.Front as declared
use Rattle.record_text.specs.Mnemonics.{type_of, class_of}
use Rattle.record_text.specs.Number.{number_of, is_number}
use Rattle.zone_lexing.specs.Word.{Written, written}
use Rattle.record_text.specs.Reading.{on_ok, and_then}

-- what stands before a record's data, and the words after
pub record Front : Type 0 where
  pub ttl : Option Ttl
  pub rtype : ℕ
  pub words : List Written

-- the TTL that a word is, at most 2^31 - 1 (RFC 2181, 8)
abbrev pub ttl_of : Written → Result Ttl Cause
ttl_of word = on_ok (λ seconds. record { 0 = seconds }) (number_of 2147483647 word)

-- the type that a word is
abbrev pub type_mark : Written → Result Mark Cause
type_mark word = on_ok (λ (rtype : ℕ). mark.Type (record { 0 = rtype })) (type_of word)

-- what a word is before the data, where a TTL has stood before it or not, and a class: a word of digits is a TTL
-- where none has stood, a class word a class where none has stood, and any other word is the type (RFC 1035, 5.1; own)
abbrev pub mark_of : Bool → Bool → Written → Result Mark Cause
mark_of timed classed word =
    if not timed && is_number word then on_ok mark.Ttl (ttl_of word)
    else if classed then type_mark word
    else and_then (class_of word) (λ is_class. if is_class then Ok mark.Class else type_mark word)

-- what the words after an owner begin with, where a TTL or a class has stood before them: TTL and class stand in either
-- order, and the type after them (RFC 1035, 5.1)
abbrev pub front_from : Option Ttl → Bool → List Written → Result Front Cause
front_from ttl classed [] = Err BadData
front_from ttl classed (word ∷ words) =
    and_then (mark_of (is_some ttl) classed word) (λ m. elim m [
      | mark.Ttl own ↦ front_from (Some own) classed words
      | mark.Class ↦ front_from ttl true words
      | mark.Type rtype ↦ Ok (record { ttl = ttl; rtype = rtype.0; words = words })
    ])

-- what the words after an owner begin with
abbrev pub front_of : List Written → Result Front Cause
front_of words = front_from None false words

-- what is read before the data, as contracts see it
abbrev pub front_seen : declared.Front → Front
front_seen front = record { ttl = front.ttl; rtype = front.rtype.0; words = map written front.words.now }
