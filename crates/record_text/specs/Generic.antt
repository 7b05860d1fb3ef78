-- Data of a type of any kind as words: `\#`, how many octets there are, and the octets as hexadecimal digits (RFC 3597, 5).
use Rattle.std.specs.Prelude.{ℕ, Bool, false, ◌==◌, List, [], ◌∷◌, ◌++◌, length, nat_le, codes, decimal, bytes_eq, if◌then◌else◌, Result, Ok, Err}
use Rattle.hex.specs.Hex.{decode_of, encode_lower}
use Rattle.dns_rdata.specs.Limits.{max_data}
use Rattle.record_text.specs.declared.cause.Cause.{Cause}
use Rattle.record_text.specs.declared.cause.Cause.TheVariants.{BadData, Number, Limit}
use Rattle.record_text.specs.declared.cause.Cause.TheVariants as cause
use Rattle.record_text.specs.Number.{are_digits, value_of}
use Rattle.record_text.specs.Reading.{on_ok, and_then}
use Rattle.zone_lexing.specs.Word.{Written}
use Rattle.zone_lexing.specs.Word.Written.{Plain, Quoted, Unclosed}

-- the word before such data: `\#`
abbrev pub generic_mark : List ℕ
generic_mark = 92 ∷ 35 ∷ []

-- whether words are such data: the first is that word, outside quotes
abbrev pub are_generic : List Written → Bool
are_generic [] = false
are_generic (Plain text ∷ words) = bytes_eq text generic_mark
are_generic (Quoted text ∷ words) = false
are_generic (Unclosed ∷ words) = false

-- how many octets a word says that there are, at most as many as data may have
abbrev pub size_of : Written → Result ℕ Cause
size_of (Plain text) = if are_digits text then (if nat_le (value_of text) max_data then Ok (value_of text) else Err Limit) else Err Number
size_of (Quoted text) = Err Number
size_of Unclosed = Err cause.Unclosed

-- the octets of a word of hexadecimal digits in either case, an even number of them
abbrev pub hex_of : Written → Result (List ℕ) Cause
hex_of (Plain text) = elim (decode_of text) [ Ok octets ↦ Ok octets | Err fault ↦ Err BadData ]
hex_of (Quoted text) = Err BadData
hex_of Unclosed = Err cause.Unclosed

-- and of words of them, one after the other
abbrev pub hexes_of : List Written → Result (List ℕ) Cause
hexes_of [] = Ok []
hexes_of (word ∷ words) = and_then (hex_of word) (λ front. on_ok (λ rest. front ++ rest) (hexes_of words))

-- the octets that words after `\#` are: as many as the first of them says
unfoldable pub generic_of : List Written → Result (List ℕ) Cause
generic_of [] = Err BadData
generic_of (word ∷ words) = and_then (size_of word) (λ size. and_then (hexes_of words) (λ octets. if length octets == size then Ok octets else Err BadData))

-- the digits of octets as one word; no word of none
abbrev pub hex_words : List ℕ → List Written
hex_words [] = []
hex_words (octet ∷ octets) = Plain (encode_lower (octet ∷ octets)) ∷ []

-- octets as such data
abbrev pub generic_words : List ℕ → List Written
generic_words octets = Plain generic_mark ∷ Plain (decimal (length octets)) ∷ hex_words octets
