-- The data of a record as words, field by field (RFC 1035, 5.1).
use Rattle.std.specs.Prelude.{ℕ, List, [], ◌∷◌, ◌++◌, Result, Ok, Err}
use Rattle.std.specs.Int.{to_be_bytes, w16, w32}
use Rattle.dns_name.specs.Name.{Name, wire_of}
use Rattle.record_text.specs.Data.{surplus_of, text_of as strings_in}
use Rattle.record_text.specs.NameWord.{name_of}
use Rattle.record_text.specs.Number.{number_of}
use Rattle.record_text.specs.Reading.{on_ok, and_then}
use Rattle.record_text.specs.Strings.{string_of}
use Rattle.record_text.specs.declared.cause.Cause.{Cause}
use Rattle.record_text.specs.declared.cause.Cause.TheVariants.{BadData}
use Rattle.wide_text.specs.Encoded.{hex_of, base64_words, eui_of}
use Rattle.wide_text.specs.Location.{location_of}
use Rattle.wide_text.specs.Mnemonics.{named_of, algorithms, certificate_types}
use Rattle.wide_text.specs.Params.{params_of}
use Rattle.wide_text.specs.Texts.{text_of, tag_of}
use Rattle.wide_text.specs.Times.{seconds_of}
use Rattle.wide_text.specs.declared.forms.Field.{Field}
use Rattle.wide_text.specs.declared.forms.Field.TheVariants as field
use Rattle.wide_text.specs.declared.forms.Rest.{Rest}
use Rattle.wide_text.specs.declared.forms.Rest.TheVariants as rest
use Rattle.zone_lexing.specs.Word.{Written}

-- the octets that one word stands for as a field: names in full, in the case that they are written in; numbers with the highest octet first
abbrev pub field_of : Name → Field → Written → Result (List ℕ) Cause
field_of origin field.Name word = on_ok wire_of (name_of origin word)
field_of origin field.Octet word = on_ok (λ number. number ∷ []) (number_of 255 word)
field_of origin field.Short word = on_ok (to_be_bytes w16) (number_of 65535 word)
field_of origin field.Long word = on_ok (to_be_bytes w32) (number_of 4294967295 word)
field_of origin field.Time word = on_ok (to_be_bytes w32) (seconds_of 4294967295 word)
field_of origin field.String word = string_of word
field_of origin field.Tag word = tag_of word
field_of origin field.Text word = text_of word
field_of origin field.Algorithm word = on_ok (λ number. number ∷ []) (named_of 255 algorithms word)
field_of origin field.Eui48 word = eui_of 6 word
field_of origin field.Eui64 word = eui_of 8 word
field_of origin field.CertType word = on_ok (to_be_bytes w16) (named_of 65535 certificate_types word)

-- that no word is left
abbrev pub nothing_of : List Written → Result (List ℕ) Cause
nothing_of [] = Ok []
nothing_of (word ∷ words) = Err (surplus_of word)

-- the octets that the words after the fields stand for
abbrev pub rest_of : Rest → List Written → Result (List ℕ) Cause
rest_of rest.Nothing words = nothing_of words
rest_of rest.Strings words = strings_in words
rest_of rest.Hex words = hex_of words
rest_of rest.Base64 words = base64_words words
rest_of rest.Params words = params_of words
rest_of rest.Location words = location_of words

-- the octets that words stand for: one word a field, and then the rest; the first fault from left to right is the one that is read
abbrev pub fields_of : Name → List Field → Rest → List Written → Result (List ℕ) Cause
fields_of origin [] rest words = rest_of rest words
fields_of origin (field ∷ fields) rest [] = Err BadData
fields_of origin (field ∷ fields) rest (word ∷ words) =
    and_then (field_of origin field word) (λ front. on_ok (λ more. front ++ more) (fields_of origin fields rest words))
