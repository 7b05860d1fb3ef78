-- What stands before a record's data: its TTL, which may have units, its class and its type, by any word of the table (RFC 1035, 5.1).
use Rattle.std.specs.Prelude.{ℕ, Bool, true, false, not, ◌&&◌, List, [], ◌∷◌, ◌<◌, ◌^◌, if◌then◌else◌, Option, Some, None, Result, Ok, Err, ok_or}
use Rattle.std.specs.Option.{is_some}
use Rattle.dns_rdata.specs.declared.numbers.Ttl.{Ttl}
use Rattle.record_text.specs.Front.{Front}
use Rattle.record_text.specs.Mnemonics.{class_of}
use Rattle.record_text.specs.Reading.{on_ok, and_then}
use Rattle.record_text.specs.declared.cause.Cause.{Cause}
use Rattle.record_text.specs.declared.cause.Cause.TheVariants.{BadData, UnknownType}
use Rattle.record_text.specs.declared.cause.Cause.TheVariants as cause
use Rattle.wide_text.specs.Forms.{wide_type_named}
use Rattle.wide_text.specs.Times.{is_time, ttl_of}
use Rattle.wide_text.specs.declared.front.Mark.{Mark}
use Rattle.wide_text.specs.declared.front.Mark.TheVariants as mark
use Rattle.zone_lexing.specs.Word.{Written}
use Rattle.zone_lexing.specs.Word.Written.{Plain, Quoted, Unclosed}

-- the type that a word is; between quotes none is written
abbrev pub wide_type_of : Written → Result ℕ Cause
wide_type_of (Plain text) = ok_or (wide_type_named text) UnknownType
wide_type_of (Quoted text) = Err UnknownType
wide_type_of Unclosed = Err cause.Unclosed

-- the type that a word before the data is
abbrev pub type_mark : Written → Result Mark Cause
type_mark word = on_ok (λ (rtype : ℕ). mark.Type (record { 0 = rtype })) (wide_type_of word)

-- what a word is before the data, where a TTL has stood before it or not, and a class: a time is a TTL where none has stood, a class word a
-- class where none has stood, and any other word is the type (RFC 1035, 5.1; own)
abbrev pub mark_of : Bool → Bool → Written → Result Mark Cause
mark_of timed classed word =
    if not timed && is_time word then on_ok mark.Ttl (ttl_of word)
    else if classed then type_mark word
    else and_then (class_of word) (λ is_class. if is_class then Ok mark.Class else type_mark word)

-- what the words after an owner begin with, where a TTL or a class has stood before them: TTL and class stand in either
-- order, and the type after them (RFC 1035, 5.1)
abbrev pub front_from : Option Ttl → Bool → List Written → Result Front Cause
front_from ttl classed [] = Err BadData
front_from ttl classed (word ∷ words) =
    and_then (mark_of (is_some ttl) classed word) (λ m. elim m [
      | mark.Ttl own ↦ front_from (Some own) classed words
      | mark.Class ↦ front_from ttl true words
      | mark.Type rtype ↦ Ok (record { ttl = ttl; rtype = rtype.0; words = words })
    ])

-- what the words after an owner begin with
abbrev pub wide_front : List Written → Result Front Cause
wide_front words = front_from None false words

-- a TTL lasts at most 2^31 - 1 seconds (RFC 2181, 8)
abbrev pub IsLasting : Mark → Type 0
IsLasting (mark.Ttl ttl) = ttl.0 < 2 ^ 31
IsLasting mark.Class = Unit {0}
IsLasting (mark.Type rtype) = Unit {0}
