-- Laws of the words of types.
use Rattle.std.specs.Prelude.{◌≡◌, ◌<◌, ◌^◌, ℕ, true, List, ◌∷◌, codes, decimal, All, Some, Ok}
use Rattle.std.specs.List.{list_all}
use Rattle.dns_name.specs.Name.{Name}
use Rattle.record_text.specs.Data.{data_of_words}
use Rattle.record_text.specs.Front.{Front, front_of}
use Rattle.wide_text.specs.Data.{wide_data}
use Rattle.wide_text.specs.Fields.{fields_of}
use Rattle.wide_text.specs.Forms.{wide_type_named}
use Rattle.wide_text.specs.Front.{wide_front}
use Rattle.wide_text.specs.Words.{wide_words, words_by}
use Rattle.wide_text.specs.declared.forms.Field.{Field}
use Rattle.wide_text.specs.declared.forms.Rest.{Rest}
use Rattle.zone_lexing.specs.Spelling.{is_spelt}
use Rattle.zone_lexing.specs.Word.{Written}
use Rattle.zone_lexing.specs.Word.Written.{Plain}

-- the words that are written of octets by a form are read as these octets, whatever the origin
abbrev pub FieldsAreReadBack : Type 0
FieldsAreReadBack = (fields : List Field) (rest : Rest) (octets : List ℕ) (words : List Written) (origin : Name) →
    All (λ octet. octet < 256) octets → words_by fields rest octets ≡ Some words → fields_of origin fields rest words ≡ Ok octets

-- what the plain grammar reads as data is read so, by any type
abbrev pub PlainDataIsWide : Type 0
PlainDataIsWide = (rtype : ℕ) (origin : Name) (words : List Written) (octets : List ℕ) →
    data_of_words rtype origin words ≡ Ok octets → wide_data rtype origin words ≡ Ok octets

-- and what it reads before the data
abbrev pub PlainFrontIsWide : Type 0
PlainFrontIsWide = (words : List Written) (front : Front) → front_of words ≡ Ok front → wide_front words ≡ Ok front

-- the words that are written of data are spelt by their octets: none of these ends a word
abbrev pub WordsAreSpelt : Type 0
WordsAreSpelt = (rtype : ℕ) (octets : List ℕ) → All (λ octet. octet < 256) octets → list_all is_spelt (wide_words rtype octets) ≡ true

-- a TTL in decimal, the class and the word of a type are read as these before the data
abbrev pub FrontsAreReadBack : Type 0
FrontsAreReadBack = (ttl rtype : ℕ) (text : List ℕ) (words : List Written) → ttl < 2 ^ 31 → wide_type_named text ≡ Some rtype →
    wide_front (Plain (decimal ttl) ∷ Plain (codes "IN") ∷ Plain text ∷ words) ≡ Ok (record { ttl = Some (record { 0 = ttl }); rtype = rtype; words = words })
