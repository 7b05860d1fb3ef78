-- The data of a record as words (RFC 1035, 3.3, 3.4.1 and 5.1; RFC 2782; RFC 3596; RFC 3597, 5).
use Rattle.std.specs.Prelude.{ℕ, ◌≡◌, ◌⊎◌, List, [], ◌∷◌, ◌++◌, length, drop, nat_lt, ◌==◌, bytes_eq, if◌then◌else◌, Option, Some, None, Result, Ok, Err}
use Rattle.std.specs.Int.{to_be_bytes, w16, w32}
use Rattle.dns_rdata.specs.Limits.{max_data}
use Rattle.dns_name.specs.Name.{Name, wire_of}
use Rattle.dns_rdata.specs.Numbers.{type_A, type_NS, type_CNAME, type_SOA, type_PTR, type_MX, type_TXT, type_AAAA, type_SRV}
use Rattle.dns_rdata.specs.Data.{data_of}
use Rattle.record_text.specs.declared.cause.Cause.{Cause}
use Rattle.record_text.specs.declared.cause.Cause.TheVariants.{BadData, Limit, NoMemory}
use Rattle.record_text.specs.declared.data.Field.{Field}
use Rattle.record_text.specs.declared.data.Field.TheVariants as field
use Rattle.record_text.specs.Address.{address_of, address6_of}
use Rattle.record_text.specs.Generic.{are_generic, generic_of}
use Rattle.record_text.specs.NameWord.{name_of}
use Rattle.record_text.specs.Number.{number_of}
use Rattle.record_text.specs.Strings.{strings_of}
use Rattle.zone_lexing.specs.Word.{Written}
use Rattle.record_text.specs.Reading.{on_ok, and_then}
use Rattle.zone_lexing.specs.Word.Written.{Plain, Quoted, Unclosed}
use Rattle.record_text.specs.declared.cause.Cause.TheVariants as cause

-- the octets that one word stands for as a field of data: names in full, numbers with the highest octet first
abbrev pub field_of : Name → Field → Written → Result (List ℕ) Cause
field_of origin field.Address word = address_of word
field_of origin field.Address6 word = address6_of word
field_of origin field.Name word = on_ok wire_of (name_of origin word)
field_of origin field.Short word = on_ok (to_be_bytes w16) (number_of 65535 word)
field_of origin field.Long word = on_ok (to_be_bytes w32) (number_of 4294967295 word)

-- what a word is told as where none may stand
abbrev pub surplus_of : Written → Cause
surplus_of (Plain text) = BadData
surplus_of (Quoted text) = BadData
surplus_of Unclosed = cause.Unclosed

-- the octets that words stand for, one a field; the first fault is told, and too few or too many words where they end
abbrev pub fields_of : Name → List Field → List Written → Result (List ℕ) Cause
fields_of origin [] [] = Ok []
fields_of origin [] (word ∷ words) = Err (surplus_of word)
fields_of origin (field ∷ fields) [] = Err BadData
fields_of origin (field ∷ fields) (word ∷ words) =
    and_then (field_of origin field word) (λ front. on_ok (λ rest. front ++ rest) (fields_of origin fields words))

-- the fields of a type's data; none of TXT, which has strings, and of a type that nobody here knows
unfoldable pub form_of : ℕ → Option (List Field)
form_of rtype =
    if rtype == type_A then Some (field.Address ∷ [])
    else if rtype == type_NS then Some (field.Name ∷ [])
    else if rtype == type_CNAME then Some (field.Name ∷ [])
    else if rtype == type_SOA then Some (field.Name ∷ field.Name ∷ field.Long ∷ field.Long ∷ field.Long ∷ field.Long ∷ field.Long ∷ [])
    else if rtype == type_PTR then Some (field.Name ∷ [])
    else if rtype == type_MX then Some (field.Short ∷ field.Name ∷ [])
    else if rtype == type_AAAA then Some (field.Address6 ∷ [])
    else if rtype == type_SRV then Some (field.Short ∷ field.Short ∷ field.Short ∷ field.Name ∷ [])
    else None

-- the octets of one string or more
abbrev pub text_of : List Written → Result (List ℕ) Cause
text_of [] = Err BadData
text_of (word ∷ words) = strings_of (word ∷ words)

-- what the words of a type that nobody here knows are told as, where the first isn't `\#`: such a type has no words of its own, and the
-- first fault is that of the first word, or that there is none (RFC 3597, 5)
abbrev pub unmarked_of : List Written → Cause
unmarked_of [] = BadData
unmarked_of (word ∷ words) = surplus_of word

-- the octets of a type that words spell, names as they are written
unfoldable pub octets_of_words : ℕ → Name → List Written → Result (List ℕ) Cause
octets_of_words rtype origin words =
    if rtype == type_TXT then text_of words
    else elim (form_of rtype) [ None ↦ Err (unmarked_of words) | Some fields ↦ fields_of origin fields words ]

-- octets as data of a type: names in lower case, at most 4,096 octets
unfoldable pub as_data : ℕ → List ℕ → Result (List ℕ) Cause
as_data rtype octets =
    elim (data_of rtype octets) [ None ↦ Err BadData | Some own ↦ if nat_lt max_data (length octets) then Err Limit else Ok own ]

-- octets as data of a type, which they have to be as they stand: names in full and in lower case
unfoldable pub as_own_data : ℕ → List ℕ → Result (List ℕ) Cause
as_own_data rtype octets = elim (data_of rtype octets) [ None ↦ Err BadData | Some own ↦ if bytes_eq own octets then Ok own else Err BadData ]

-- the data of a type that words spell relative to an origin: as octets after `\#`, or in the type's own form; the first fault in reading
-- order is told, and the limit of octets last (RFC 1035, 5.1; RFC 3597, 5)
abbrev pub data_of_words : ℕ → Name → List Written → Result (List ℕ) Cause
data_of_words rtype origin words =
    if are_generic words then and_then (generic_of (drop 1 words)) (as_own_data rtype)
    else and_then (octets_of_words rtype origin words) (as_data rtype)

-- a fault that is told of a reading: its own, or want of memory
abbrev pub IsToldOf : {A : Type 0} → Result A Cause → Cause → Type 0
IsToldOf reading cause = (cause ≡ NoMemory) ⊎ (reading ≡ Err cause)
