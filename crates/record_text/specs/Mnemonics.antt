-- Classes and types by their mnemonics, and by their numbers (RFC 1035, 5.1; RFC 3596, 2.1; RFC 2782; RFC 3597, 5).
use Rattle.std.specs.Prelude.{ℕ, Bool, true, false, not, ◌&&◌, ◌==◌, List, [], ◌∷◌, ◌++◌, map, take, drop, codes, decimal, bytes_eq, if◌then◌else◌, Option, Some, None, Result, Ok, Err, ok_or}
use Rattle.std.specs.Option.{option_and_then}
use Rattle.std.specs.Char.{to_ascii_lowercase}
use Rattle.dns_rdata.specs.Numbers.{type_A, type_NS, type_CNAME, type_SOA, type_PTR, type_MX, type_TXT, type_AAAA, type_SRV, is_metatype}
use Rattle.record_text.specs.Number.{are_digits, decimal_of}
use Rattle.record_text.specs.declared.cause.Cause.{Cause}
use Rattle.record_text.specs.declared.cause.Cause.TheVariants.{BadClass, UnknownType}
use Rattle.zone_lexing.specs.Word.{Written}
use Rattle.zone_lexing.specs.Word.Written.{Plain, Quoted, Unclosed}
use Rattle.record_text.specs.declared.cause.Cause.TheVariants as cause

-- whether a text is this word, in any case
abbrev pub is_word : List ℕ → List ℕ → Bool
is_word text word = bytes_eq (map to_ascii_lowercase text) (map to_ascii_lowercase word)

-- whether a text of digits has a zero in front
abbrev pub has_zero : List ℕ → Bool
has_zero [] = false
has_zero (digit ∷ digits) = digit == 48

-- the type that `TYPE` and its number name, in any case: decimal digits without zeros in front. None of a metatype, which no record of a
-- zone has, and of a number of more than 16 bits (RFC 3597, 5)
unfoldable pub type_numbered : List ℕ → Option ℕ
type_numbered text =
    if is_word (take 4 text) (codes "TYPE") && not (has_zero (drop 4 text))
    then option_and_then (λ rtype. if is_metatype rtype then None else Some rtype) (decimal_of 65535 (drop 4 text))
    else None

-- the type that a text names: one of those that have a word, or any by its number; none where it names none. CAA and others are written
-- by number alone, `TYPE257`
unfoldable pub type_named : List ℕ → Option ℕ
type_named text =
    if is_word text (codes "A") then Some type_A
    else if is_word text (codes "NS") then Some type_NS
    else if is_word text (codes "CNAME") then Some type_CNAME
    else if is_word text (codes "SOA") then Some type_SOA
    else if is_word text (codes "PTR") then Some type_PTR
    else if is_word text (codes "MX") then Some type_MX
    else if is_word text (codes "TXT") then Some type_TXT
    else if is_word text (codes "AAAA") then Some type_AAAA
    else if is_word text (codes "SRV") then Some type_SRV
    else type_numbered text

-- the type that a word is; between quotes none is written
abbrev pub type_of : Written → Result ℕ Cause
type_of (Plain text) = ok_or (type_named text) UnknownType
type_of (Quoted text) = Err UnknownType
type_of Unclosed = Err cause.Unclosed

-- whether a text is `CLASS`, in any case, and a number (RFC 3597, 5)
abbrev pub is_class_number : List ℕ → Bool
is_class_number text = is_word (take 5 text) (codes "CLASS") && are_digits (drop 5 text)

-- whether a text names the class IN; the other classes of RFC 1035, 3.2.4 are refused, and other numbers
unfoldable pub class_named : List ℕ → Result Bool Cause
class_named text =
    if is_word text (codes "IN") then Ok true
    else if is_word text (codes "CS") then Err BadClass
    else if is_word text (codes "CH") then Err BadClass
    else if is_word text (codes "HS") then Err BadClass
    else if is_class_number text then (if bytes_eq (drop 5 text) (codes "1") then Ok true else Err BadClass)
    else Ok false

-- whether a word is the class IN; between quotes none is written
abbrev pub class_of : Written → Result Bool Cause
class_of (Plain text) = class_named text
class_of (Quoted text) = Ok false
class_of Unclosed = Err cause.Unclosed

-- the word of a type; `TYPE` and its number for one that has none (RFC 1035, 3.2.2; RFC 3596, 2.1; RFC 2782; RFC 3597, 5)
unfoldable pub type_word : ℕ → List ℕ
type_word rtype =
    if rtype == type_A then codes "A"
    else if rtype == type_NS then codes "NS"
    else if rtype == type_CNAME then codes "CNAME"
    else if rtype == type_SOA then codes "SOA"
    else if rtype == type_PTR then codes "PTR"
    else if rtype == type_MX then codes "MX"
    else if rtype == type_TXT then codes "TXT"
    else if rtype == type_AAAA then codes "AAAA"
    else if rtype == type_SRV then codes "SRV"
    else codes "TYPE" ++ decimal rtype
