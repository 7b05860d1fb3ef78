-- Data as words of its form (RFC 1035, 5.1).
use Rattle.std.specs.Prelude.{ℕ, ◌+◌, Bool, false, ◌&&◌, ◌==◌, List, [], ◌∷◌, ◌++◌, length, take, drop, flat_map, nat_le, bytes_eq, decimal, if◌then◌else◌, Option, Some, None, option_map, option_and_then, unwrap_or, Ok, Err}
use Rattle.std.specs.Int.{from_be_bytes, w16, w32}
use Rattle.base64.specs.Engines.{standard}
use Rattle.base64.specs.GeneralPurpose.{encode_of}
use Rattle.dns_name.specs.Name.{wire_of, name_in}
use Rattle.dns_name.specs.Text.{text_of}
use Rattle.dns_rdata.specs.Numbers.{type_TXT}
use Rattle.hex.specs.Hex.{encode_lower}
use Rattle.record_text.specs.Data.{as_data}
use Rattle.record_text.specs.Mnemonics.{type_word}
use Rattle.record_text.specs.Text.{string_octet, words_of}
use Rattle.wide_text.specs.Fields.{rest_of}
use Rattle.wide_text.specs.Forms.{Form, form_of}
use Rattle.wide_text.specs.LocationWords.{location_words}
use Rattle.wide_text.specs.ParamWords.{param_words}
use Rattle.wide_text.specs.Texts.{is_tag}
use Rattle.wide_text.specs.declared.forms.Field.{Field}
use Rattle.wide_text.specs.declared.forms.Field.TheVariants as field
use Rattle.wide_text.specs.declared.forms.Rest.{Rest}
use Rattle.wide_text.specs.declared.forms.Rest.TheVariants as rest
use Rattle.zone_lexing.specs.Word.{Written}
use Rattle.zone_lexing.specs.Word.Written.{Plain, Quoted}

-- octets as a string in quotes
abbrev pub quoted : List ℕ → Written
quoted string = Quoted (flat_map string_octet string)

-- the string that octets begin with as a word, and how many octets it takes with its length
abbrev pub string_at : List ℕ → Option (Written × ℕ)
string_at [] = None
string_at (n ∷ octets) = if nat_le n (length octets) then Some (quoted (take n octets), n + 1) else None

-- and the tag
abbrev pub tag_at : List ℕ → Option (Written × ℕ)
tag_at [] = None
tag_at (n ∷ octets) = if nat_le n (length octets) && is_tag (take n octets) then Some (Plain (take n octets), n + 1) else None

-- and the number of one octet, of two, and of four
abbrev pub octet_at : List ℕ → Option (Written × ℕ)
octet_at [] = None
octet_at (a ∷ octets) = Some (Plain (decimal a), 1)

abbrev pub short_at : List ℕ → Option (Written × ℕ)
short_at (a ∷ b ∷ octets) = Some (Plain (decimal (from_be_bytes w16 (a ∷ b ∷ []))), 2)
short_at _ = None

abbrev pub long_at : List ℕ → Option (Written × ℕ)
long_at (a ∷ b ∷ c ∷ d ∷ octets) = Some (Plain (decimal (from_be_bytes w32 (a ∷ b ∷ c ∷ d ∷ []))), 4)
long_at _ = None

-- the identifier of so many octets, and what stands after its first pair of digits
abbrev pub more_pairs : List ℕ → List ℕ
more_pairs [] = []
more_pairs (o ∷ octets) = 45 ∷ encode_lower (o ∷ []) ++ more_pairs octets

abbrev pub pairs : List ℕ → List ℕ
pairs [] = []
pairs (o ∷ octets) = encode_lower (o ∷ []) ++ more_pairs octets

abbrev pub eui_at : ℕ → List ℕ → Option (Written × ℕ)
eui_at count octets = if nat_le count (length octets) then Some (Plain (pairs (take count octets)), count) else None

-- the field that octets begin with as a word, and how many octets it takes; none where they begin with no such field. Names stand whole with a
-- final dot, algorithms and certificates' types by their numbers, and a text is all the octets that are left
unfoldable pub word_at : Field → List ℕ → Option (Written × ℕ)
word_at field.Name octets = option_map (λ name. (Plain (text_of name), length (wire_of name))) (name_in octets)
word_at field.Octet octets = octet_at octets
word_at field.Short octets = short_at octets
word_at field.Long octets = long_at octets
word_at field.Time octets = long_at octets
word_at field.String octets = string_at octets
word_at field.Tag octets = tag_at octets
word_at field.Text octets = Some (quoted octets, length octets)
word_at field.Algorithm octets = octet_at octets
word_at field.CertType octets = short_at octets
word_at field.Eui48 octets = eui_at 6 octets
word_at field.Eui64 octets = eui_at 8 octets

-- whether words are read as these octets
abbrev pub are_read : Rest → List ℕ → List Written → Bool
are_read rest octets words = elim (rest_of rest words) [ Ok own ↦ bytes_eq own octets | Err cause ↦ false ]

-- words of octets, where they are read as these; else none
abbrev pub read_back : Rest → List ℕ → List Written → Option (List Written)
read_back rest octets words = if are_read rest octets words then Some words else None

-- the words of the octets after the fields; none where they are no such words
unfoldable pub rest_words : Rest → List ℕ → Option (List Written)
rest_words rest.Nothing octets = if length octets == 0 then Some [] else None
rest_words rest.Strings octets = elim (as_data type_TXT octets) [ Ok own ↦ Some (words_of type_TXT own) | Err cause ↦ None ]
rest_words rest.Hex octets = if length octets == 0 then None else Some (Plain (encode_lower octets) ∷ [])
rest_words rest.Params octets = read_back rest.Params octets (param_words octets)
rest_words rest.Location octets = read_back rest.Location octets (location_words octets)
rest_words rest.Base64 octets = if length octets == 0 then None else Some (Plain (encode_of standard octets) ∷ [])

-- the words of octets that are these fields and this rest; none of others
abbrev pub words_by : List Field → Rest → List ℕ → Option (List Written)
words_by [] rest octets = rest_words rest octets
words_by (field ∷ fields) rest octets =
    option_and_then (λ word. option_map (λ words. word.0 ∷ words) (words_by fields rest (drop word.1 octets))) (word_at field octets)

-- the words of a type's data by its form; none of a type without one
abbrev pub words_in_form : Option Form → List ℕ → Option (List Written)
words_in_form None octets = None
words_in_form (Some form) octets = words_by form.fields form.rest octets

-- the words of a type's data: by its form, else as ever, which is after `\#` where the octets aren't of the form (RFC 3597, 5)
abbrev pub wide_words : ℕ → List ℕ → List Written
wide_words rtype octets = unwrap_or (words_in_form (form_of rtype) octets) (words_of rtype octets)

-- the word of a type of the table; of another one as ever
abbrev pub word_in_form : Option Form → ℕ → List ℕ
word_in_form None rtype = type_word rtype
word_in_form (Some form) rtype = form.word

abbrev pub wide_type_word : ℕ → List ℕ
wide_type_word rtype = word_in_form (form_of rtype) rtype
