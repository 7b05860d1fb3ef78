-- Octets in hexadecimal and in base64, over as many words as one likes (RFC 4034, 2.2 and 5.3; RFC 4648, 4 and 8).
use Rattle.std.specs.Prelude.{ℕ, ◌*◌, ◌==◌, List, [], ◌∷◌, ◌++◌, length, if◌then◌else◌, Result, Ok, Err}
use Rattle.hex.specs.Hex.{decode_of}
use Rattle.base64.specs.Engines.{standard}
use Rattle.base64.specs.GeneralPurpose.{decode_of as base64_of}
use Rattle.record_text.specs.Reading.{on_ok, and_then}
use Rattle.record_text.specs.declared.cause.Cause.{Cause}
use Rattle.record_text.specs.declared.cause.Cause.TheVariants.{BadData}
use Rattle.record_text.specs.declared.cause.Cause.TheVariants as cause
use Rattle.zone_lexing.specs.Word.{Written}
use Rattle.zone_lexing.specs.Word.Written.{Plain, Quoted, Unclosed}

-- the characters of a word outside quotes
abbrev pub bare_of : Written → Result (List ℕ) Cause
bare_of (Plain text) = Ok text
bare_of (Quoted text) = Err BadData
bare_of Unclosed = Err cause.Unclosed

-- the characters of words, one after the other: white space may stand anywhere among them (RFC 4034, 2.2)
abbrev pub joined : List Written → Result (List ℕ) Cause
joined [] = Ok []
joined (word ∷ words) = and_then (bare_of word) (λ front. on_ok (λ rest. front ++ rest) (joined words))

-- and of one word or more
abbrev pub some_joined : List Written → Result (List ℕ) Cause
some_joined [] = Err BadData
some_joined (word ∷ words) = joined (word ∷ words)

-- the octets that text is in hexadecimal, in either case
unfoldable pub hex_in : List ℕ → Result (List ℕ) Cause
hex_in text = elim (decode_of text) [ Ok octets ↦ Ok octets | Err fault ↦ Err BadData ]

-- the octets that text is in base64, its padding whole (RFC 4648, 3.2)
unfoldable pub base64_in : List ℕ → Result (List ℕ) Cause
base64_in text = elim (base64_of standard text) [ Ok octets ↦ Ok octets | Err fault ↦ Err BadData ]

-- the digits of pairs with hyphens between
abbrev pub eui_digits : List ℕ → Result (List ℕ) Cause
eui_digits [] = Err BadData
eui_digits (a ∷ []) = Err BadData
eui_digits (a ∷ b ∷ []) = Ok (a ∷ b ∷ [])
eui_digits (a ∷ b ∷ c ∷ text) = if c == 45 then on_ok (λ more. a ∷ b ∷ more) (eui_digits text) else Err BadData

-- the identifier of so many octets that a text is, in pairs of hexadecimal digits with hyphens between (RFC 7043, 3.2 and 4.2)
abbrev pub eui_in : ℕ → List ℕ → Result (List ℕ) Cause
eui_in count text = and_then (eui_digits text) (λ digits. if length digits == count * 2 then hex_in digits else Err BadData)

abbrev pub eui_of : ℕ → Written → Result (List ℕ) Cause
eui_of count word = and_then (bare_of word) (eui_in count)

-- the octets of words in hexadecimal
abbrev pub hex_of : List Written → Result (List ℕ) Cause
hex_of words = and_then (some_joined words) hex_in

-- the octets of words in base64
abbrev pub base64_words : List Written → Result (List ℕ) Cause
base64_words words = and_then (some_joined words) base64_in
