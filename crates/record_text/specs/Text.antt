-- The data of a record as text (RFC 1035, 5.1; RFC 4291, 2.2), each word after a space.
use Rattle.std.specs.Prelude.{ℕ, zero, suc, false, ◌||◌, ◌==◌, List, [], ◌∷◌, ◌++◌, length, take, drop, map, nat_lt, nat_le, if◌then◌else◌, Option, Some, None, option_map, decimal, flat_map}
use Rattle.std.specs.Fmt.{digits}
use Rattle.std.specs.Int.{from_be_bytes, w16, w32}
use Rattle.std.specs.Net.Addr.{segments_of}
use Rattle.std.specs.Net.Text.{dotted_text}
use Rattle.dns_name.specs.Name.{wire_of, name_in}
use Rattle.dns_name.specs.Text.{digits_of, text_of}
use Rattle.dns_rdata.specs.Numbers.{type_TXT}
use Rattle.record_text.specs.declared.data.Field.{Field}
use Rattle.record_text.specs.declared.data.Field.TheVariants as field
use Rattle.record_text.specs.Data.{form_of}
use Rattle.record_text.specs.Generic.{generic_words}
use Rattle.zone_lexing.specs.Word.{Written}
use Rattle.zone_lexing.specs.Word.Written.{Plain, Quoted, Unclosed}

-- a group of an address of version 6: hexadecimal digits in lower case without leading zeros (own)
abbrev pub group_text : ℕ → List ℕ
group_text group = digits 16 false group

-- groups with colons between
abbrev pub groups_text : List ℕ → List ℕ
groups_text [] = []
groups_text (group ∷ groups) = group_text group ++ flat_map (λ next. 58 ∷ group_text next) groups

-- an octet of a string as text: `"` and `\` after a backslash, octets outside 32 to 126 as three digits after one
-- (RFC 1035, 5.1)
abbrev pub string_octet : ℕ → List ℕ
string_octet c = if nat_lt c 32 || nat_lt 126 c then 92 ∷ digits_of c else if c == 34 || c == 92 then 92 ∷ c ∷ [] else c ∷ []

-- the strings in the octets after the first k of them (RFC 1035, 3.3.14)
abbrev pub strings_in : ℕ → List ℕ → List (List ℕ)
strings_in k [] = []
strings_in zero (n ∷ octets) = take n octets ∷ strings_in n octets
strings_in (suc k) (octet ∷ octets) = strings_in k octets

-- the field that octets begin with as a word, and how many octets it takes; none where they begin with no such field
unfoldable pub word_at : Field → List ℕ → Option (List ℕ × ℕ)
word_at field.Address (a ∷ b ∷ c ∷ d ∷ octets) = Some (dotted_text a b c d, 4)
word_at field.Address6 octets = if nat_le 16 (length octets) then Some (groups_text (segments_of (take 16 octets)), 16) else None
word_at field.Name octets = option_map (λ name. (text_of name, length (wire_of name))) (name_in octets)
word_at field.Short (a ∷ b ∷ octets) = Some (decimal (from_be_bytes w16 (a ∷ b ∷ [])), 2)
word_at field.Long (a ∷ b ∷ c ∷ d ∷ octets) = Some (decimal (from_be_bytes w32 (a ∷ b ∷ c ∷ d ∷ [])), 4)
word_at _ _ = None

-- the words of octets that are these fields
abbrev pub words_at : List Field → List ℕ → List Written
words_at [] octets = []
words_at (field ∷ fields) octets =
    elim (word_at field octets) [ None ↦ [] | Some word ↦ Plain word.0 ∷ words_at fields (drop word.1 octets) ]

-- the words of a type's data; of a type that nobody here knows octets after `\#` (RFC 3597, 5)
unfoldable pub words_of : ℕ → List ℕ → List Written
words_of rtype octets =
    if rtype == type_TXT then map (λ string. Quoted (flat_map string_octet string)) (strings_in 0 octets)
    else elim (form_of rtype) [ None ↦ generic_words octets | Some fields ↦ words_at fields octets ]

-- a word as it stands in a text
abbrev pub as_text : Written → List ℕ
as_text (Plain text) = text
as_text (Quoted text) = 34 ∷ text ++ 34 ∷ []
as_text Unclosed = []

-- words as text, each after a space
abbrev pub text_of_words : List Written → List ℕ
text_of_words words = flat_map (λ word. 32 ∷ as_text word) words
