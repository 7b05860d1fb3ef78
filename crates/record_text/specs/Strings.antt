-- Strings of text (RFC 1035, 3.3.14 and 5.1).
use Rattle.std.specs.Prelude.{ℕ, zero, suc, ◌-◌, List, [], ◌∷◌, ◌++◌, length, nat_le, if◌then◌else◌, Option, Some, None, option_map, option_and_then, Result, Ok, Err}
use Rattle.dns_name.specs.Text.{octet_at}
use Rattle.record_text.specs.declared.cause.Cause.{Cause}
use Rattle.record_text.specs.declared.cause.Cause.TheVariants.{BadData}
use Rattle.zone_lexing.specs.Word.{Written}
use Rattle.record_text.specs.Reading.{on_ok, and_then}
use Rattle.zone_lexing.specs.Word.Written.{Plain, Quoted, Unclosed}
use Rattle.record_text.specs.declared.cause.Cause.TheVariants as cause

-- the octets of the text after its first k characters
abbrev pub unescaped_behind : ℕ → List ℕ → Option (List ℕ)
unescaped_behind k [] = Some []
unescaped_behind zero (c ∷ text) =
    option_and_then (λ spelt. option_map (λ octets. spelt.0 ∷ octets) (unescaped_behind (spelt.1 - 1) text)) (octet_at (c ∷ text))
unescaped_behind (suc k) (c ∷ text) = unescaped_behind k text

-- the octets of a text, its escapes undone: `\DDD` is the octet of that number, `\X` is X; none where a backslash has
-- neither form after it (RFC 1035, 5.1)
unfoldable pub unescaped : List ℕ → Option (List ℕ)
unescaped text = unescaped_behind 0 text

-- a string's octets after their number, which is at most 255 (RFC 1035, 3.3)
abbrev pub counted : List ℕ → Result (List ℕ) Cause
counted octets = if nat_le (length octets) 255 then Ok (length octets ∷ octets) else Err BadData

-- the string that a text is
unfoldable pub string_in : List ℕ → Result (List ℕ) Cause
string_in text = elim (unescaped text) [ None ↦ Err BadData | Some octets ↦ counted octets ]

-- the string that a word is, quoted or not
abbrev pub string_of : Written → Result (List ℕ) Cause
string_of (Plain text) = string_in text
string_of (Quoted text) = string_in text
string_of Unclosed = Err cause.Unclosed

-- the strings that words are, one after the other
abbrev pub strings_of : List Written → Result (List ℕ) Cause
strings_of [] = Ok []
strings_of (word ∷ words) = and_then (string_of word) (λ front. on_ok (λ rest. front ++ rest) (strings_of words))
