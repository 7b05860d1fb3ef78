-- What is written of data in words is spelt, and isn't octets after `\#` where it is by a form.
use Rattle.std.proofs.Common.{◌≡◌, ℕ, ◌+◌, ◌<◌, ◌≤◌, Bool, true, false, cond, ◌&&◌, ◌==◌, nat_le, nat_lt, bytes_eq, List, [], ◌∷◌, ◌++◌, length, take, drop, flat_map, decimal, Option, Some, None, IfSome, option_map, option_and_then, unwrap_or, Result, Ok, Err, refl, sym, ap, subst, ◌∙◌, arith}
use Rattle.std.specs.Char.{is_ascii_alphanumeric}
use Rattle.std.specs.Int.{from_be_bytes, w16, w32}
use Rattle.std.specs.List.{list_all}
use Rattle.std.proofs.lemmas.Bool.Decides.{nat_tests}
use Rattle.std.proofs.lemmas.List.{append-nil, length-take-le}
use Rattle.std.proofs.lemmas.List.Elements.{All-drop}
use Rattle.base64.specs.Engines.{standard}
use Rattle.base64.specs.GeneralPurpose.{encode_of}
use Rattle.dns_name.specs.Name.{Name, wire_of, name_in}
use Rattle.dns_name.specs.Text.{text_of}
use Rattle.dns_rdata.specs.Data.{data_of}
use Rattle.hex.specs.Hex.{encode_lower}
use Rattle.record_text.specs.Data.{as_data, form_of as plain_form}
use Rattle.record_text.specs.Generic.{are_generic}
use Rattle.record_text.specs.Text.{string_octet, strings_in, word_at as plain_word_at, words_at, words_of}
use Rattle.record_text.specs.declared.cause.Cause.{Cause}
use Rattle.record_text.specs.declared.cause.Cause.TheVariants.{BadData, Limit}
use Rattle.record_text.proofs.BackLemmas.{AreOctets}
use Rattle.record_text.proofs.MarkLemmas.{fields_other, strings_other}
use Rattle.record_text.proofs.SpeltLemmas.{AreSpelt, first_spelt, name_spelt, string_octet-passes, words_spelt}
use Rattle.wide_text.specs.Forms.{Form, form_of}
use Rattle.wide_text.specs.Texts.{is_tag}
use Rattle.wide_text.specs.Words.{are_read, eui_at, long_at, more_pairs, octet_at, pairs, quoted, rest_words, short_at, string_at, tag_at, wide_words, word_at, words_by, words_in_form}
use Rattle.wide_text.specs.LocationWords.{location_words}
use Rattle.wide_text.specs.ParamWords.{param_words}
use Rattle.wide_text.specs.declared.forms.Field.{Field}
use Rattle.wide_text.specs.declared.forms.Field.TheVariants as field
use Rattle.wide_text.specs.declared.forms.Rest.{Rest}
use Rattle.wide_text.specs.declared.forms.Rest.TheVariants as rest
use Rattle.wide_text.proofs.RestLemmas.{AreStrings-data}
use Rattle.zone_lexing.specs.Spelling.{is_run, is_spelt}
use Rattle.zone_lexing.specs.Word.{Written}
use Rattle.zone_lexing.specs.Word.Written.{Plain, Quoted}
use Rattle.zone_lexing.proofs.RunLemmas.{each_passes, of_string}
use Rattle.wide_text.proofs.BareLemmas.{AreBare, IsGood, bare_good, base64_bare, base64_some, both_bare, decimal_good, hex_bare, hex_some, letters_bare, some_front}
use Rattle.wide_text.proofs.SpeltWords.{AreGood, location_words-good, more_good, param_words-good}

-- the word of a field, where there is one
abbrev GoodWord : Option (Written × ℕ) → Type 0
GoodWord None = Unit {0}
GoodWord (Some word) = IsGood word.0

quoted_good : (string : List ℕ) → IsGood (quoted string)
quoted_good string =
    (ap (is_run of_string false) (sym (append-nil (flat_map string_octet string))) ∙ each_passes of_string string_octet string_octet-passes string [], λ words. refl)

-- names: as what is written of an NS
each : {X : Type 0} (P : X → Type 0) (o : Option X) → ((x : X) → P x) → IfSome o P
each P None h = tt
each P (Some x) h = h x

name_words : (octets : List ℕ) → AreOctets octets → IfSome (plain_form 2) (λ fields. are_generic (words_at fields octets) ≡ false)
name_words octets h = each (λ fields. are_generic (words_at fields octets) ≡ false) (plain_form 2) (λ fields. fields_other fields octets h)

name_other : (octets : List ℕ) (name : Name) (words : List Written) → AreOctets octets → name_in octets ≡ Some name → are_generic (Plain (text_of name) ∷ words) ≡ false
unfolding plain_form plain_word_at
name_other octets name words h e =
    let word : Name → List ℕ × ℕ = λ n. (text_of n, length (wire_of n)) in
    sym (ap (λ (o : Option Name). are_generic (elim (option_map {U = List ℕ × ℕ} word o) as (λ _. List Written) [ None ↦ [] | Some word ↦ Plain word.0 ∷ words_at [] (drop word.1 octets) ])) e)
    ∙ name_words octets h

name_by : (octets : List ℕ) (found : Option Name) → AreOctets octets → name_in octets ≡ found → GoodWord (option_map (λ (name : Name). (Plain (text_of name), length (wire_of name))) found)
name_by octets None h e = tt
name_by octets (Some name) h e = (name_spelt name, λ words. name_other octets name words h e)

-- numbers
octet_good : (octets : List ℕ) → GoodWord (octet_at octets)
octet_good [] = tt
octet_good (a ∷ octets) = decimal_good a

short_good : (octets : List ℕ) → GoodWord (short_at octets)
short_good [] = tt
short_good (a ∷ []) = tt
short_good (a ∷ b ∷ octets) = decimal_good (from_be_bytes w16 (a ∷ b ∷ []))

long_good : (octets : List ℕ) → GoodWord (long_at octets)
long_good [] = tt
long_good (a ∷ []) = tt
long_good (a ∷ b ∷ []) = tt
long_good (a ∷ b ∷ c ∷ []) = tt
long_good (a ∷ b ∷ c ∷ d ∷ octets) = decimal_good (from_be_bytes w32 (a ∷ b ∷ c ∷ d ∷ []))

-- strings and tags
string_by : (b : Bool) (string : List ℕ) (len : ℕ) → GoodWord (cond b (Some (quoted string, len)) None)
string_by true string len = quoted_good string
string_by false string len = tt

string_good : (octets : List ℕ) → GoodWord (string_at octets)
string_good [] = tt
string_good (n ∷ octets) = string_by (nat_le n (length octets)) (take n octets) (n + 1)

tag_parts : (some short letters : Bool) → (some && (short && letters)) ≡ true → (some ≡ true) × (letters ≡ true)
tag_parts true true letters e = (refl, e)
tag_parts true false letters e = cc
tag_parts false short letters e = cc

tag_text : (text : List ℕ) → is_tag text ≡ true → IsGood (Plain text)
tag_text text e =
    let parts = tag_parts (nat_lt 0 (length text)) (nat_le (length text) 15) (list_all is_ascii_alphanumeric text) e in
    let t = parts.0 in
    bare_good text (grind (arith, nat_tests)) (letters_bare text parts.1)

tag_by : (a b : Bool) (text : List ℕ) (len : ℕ) → is_tag text ≡ b → GoodWord (cond (a && b) (Some (Plain text, len)) None)
tag_by true true text len e = tag_text text e
tag_by true false text len e = tt
tag_by false b text len e = tt

tag_good : (octets : List ℕ) → GoodWord (tag_at octets)
tag_good [] = tt
tag_good (n ∷ octets) = tag_by (nat_le n (length octets)) (is_tag (take n octets)) (take n octets) (n + 1) refl

-- identifiers
more_bare : (octets : List ℕ) → AreBare (more_pairs octets)
more_bare [] = refl
more_bare (o ∷ octets) = both_bare (45 ∷ encode_lower (o ∷ [])) (more_pairs octets) (hex_bare (o ∷ [])) (more_bare octets)

pairs_good : (octets : List ℕ) → 0 < length octets → IsGood (Plain (pairs octets))
pairs_good [] h = absurd (omega arith)
pairs_good (o ∷ octets) h =
    let first = encode_lower (o ∷ []) in
    let more = more_pairs octets in
    bare_good (first ++ more) (some_front first more (hex_some o [])) (both_bare first more (hex_bare (o ∷ [])) (more_bare octets))

some_taken : (n : ℕ) (octets : List ℕ) → 0 < n → n ≤ length octets → 0 < length (take n octets)
some_taken n octets h k = let len = length-take-le n octets k in omega arith

eui_by : (n : ℕ) (octets : List ℕ) (b : Bool) → 0 < n → nat_le n (length octets) ≡ b → GoodWord (cond b (Some (Plain (pairs (take n octets)), n)) None)
eui_by n octets true h e = let long : n ≤ length octets = grind (arith, nat_tests) in pairs_good (take n octets) (some_taken n octets h long)
eui_by n octets false h e = tt

word_good : (f : Field) (octets : List ℕ) → AreOctets octets → GoodWord (word_at f octets)
unfolding word_at
word_good field.Name octets h = name_by octets (name_in octets) h refl
word_good field.Octet octets h = octet_good octets
word_good field.Short octets h = short_good octets
word_good field.Long octets h = long_good octets
word_good field.Time octets h = long_good octets
word_good field.String octets h = string_good octets
word_good field.Tag octets h = tag_good octets
word_good field.Text octets h = quoted_good octets
word_good field.Algorithm octets h = octet_good octets
word_good field.CertType octets h = short_good octets
word_good field.Eui48 octets h = eui_by 6 octets (nat_le 6 (length octets)) (omega arith) refl
word_good field.Eui64 octets h = eui_by 8 octets (nat_le 8 (length octets)) (omega arith) refl

-- the words after the fields
abbrev pub GoodWords : Option (List Written) → Type 0
GoodWords None = Unit {0}
GoodWords (Some words) = AreGood words

nothing_by : (b : Bool) → GoodWords (cond b (Some []) None)
nothing_by true = (refl, refl)
nothing_by false = tt

one_good : (text : List ℕ) → 0 < length text → AreBare text → AreGood (Plain text ∷ [])
one_good text some h = more_good (Plain text) [] (bare_good text some h) refl

hex_good : (octets : List ℕ) → GoodWords (cond (length octets == 0) None (Some (Plain (encode_lower octets) ∷ [])))
hex_good [] = tt
hex_good (o ∷ octets) = by (length (o ∷ octets) == 0)
  where
    by : (b : Bool) → GoodWords (cond b None (Some (Plain (encode_lower (o ∷ octets)) ∷ [])))
    by true = tt
    by false = one_good (encode_lower (o ∷ octets)) (hex_some o octets) (hex_bare (o ∷ octets))

base64_good : (octets : List ℕ) → GoodWords (cond (length octets == 0) None (Some (Plain (encode_of standard octets) ∷ [])))
base64_good [] = tt
base64_good (o ∷ octets) = by (length (o ∷ octets) == 0)
  where
    by : (b : Bool) → GoodWords (cond b None (Some (Plain (encode_of standard (o ∷ octets)) ∷ [])))
    by true = tt
    by false = one_good (encode_of standard (o ∷ octets)) (base64_some o octets) (base64_bare (o ∷ octets))

strings_are : (octets : List ℕ) → AreOctets octets → AreGood (words_of 16 octets)
unfolding words_of
strings_are octets h = (words_spelt 16 octets h, strings_other (strings_in 0 octets))

strings_by : (octets : List ℕ) (own : Option (List ℕ)) (long : Bool) → AreOctets octets → data_of 16 octets ≡ own
    → GoodWords (elim (elim own as (λ _. Result (List ℕ) Cause) [ None ↦ Err BadData | Some read ↦ cond long (Err Limit) (Ok read) ]) as (λ _. Option (List Written)) [ Ok read ↦ Some (words_of 16 read) | Err cause ↦ None ])
strings_by octets None long h e = tt
strings_by octets (Some own) true h e = tt
strings_by octets (Some own) false h e = subst (λ (os : List ℕ). AreGood (words_of 16 os)) (sym (AreStrings-data octets own e).same) (strings_are octets h)

strings_good : (octets : List ℕ) → AreOctets octets → GoodWords (elim (as_data 16 octets) as (λ _. Option (List Written)) [ Ok own ↦ Some (words_of 16 own) | Err cause ↦ None ])
unfolding as_data
strings_good octets h = strings_by octets (data_of 16 octets) (nat_lt 4096 (length octets)) h refl

back_by : (b : Bool) (words : List Written) → AreGood words → GoodWords (cond b (Some words) None)
back_by true words h = h
back_by false words h = tt

rest_good : (r : Rest) (octets : List ℕ) → AreOctets octets → GoodWords (rest_words r octets)
unfolding rest_words
rest_good rest.Nothing octets h = nothing_by (length octets == 0)
rest_good rest.Strings octets h = strings_good octets h
rest_good rest.Hex octets h = hex_good octets
rest_good rest.Base64 octets h = base64_good octets
rest_good rest.Params octets h = back_by (are_read rest.Params octets (param_words octets)) (param_words octets) (param_words-good octets h)
rest_good rest.Location octets h = back_by (are_read rest.Location octets (location_words octets)) (location_words octets) (location_words-good octets)

-- the words of a form
then_good : (word : Written) (words : Option (List Written)) → IsGood word → GoodWords words → GoodWords (option_map (λ (ws : List Written). word ∷ ws) words)
then_good word None h k = tt
then_good word (Some words) h k = more_good word words h k.0

fields_by : (fields : List Field) (r : Rest) (octets : List ℕ) (word : Option (Written × ℕ)) → GoodWord word → ((n : ℕ) → GoodWords (words_by fields r (drop n octets)))
    → GoodWords (option_and_then (λ (w : Written × ℕ). option_map (λ (ws : List Written). w.0 ∷ ws) (words_by fields r (drop w.1 octets))) word)
fields_by fields r octets None h k = tt
fields_by fields r octets (Some word) h k = then_good word.0 (words_by fields r (drop word.1 octets)) h (k word.1)

pub fields_good : (fields : List Field) (r : Rest) (octets : List ℕ) → AreOctets octets → GoodWords (words_by fields r octets)
fields_good [] r octets h = rest_good r octets h
fields_good (f ∷ fields) r octets h =
    fields_by fields r octets (word_at f octets) (word_good f octets h) (λ n. fields_good fields r (drop n octets) (All-drop (λ (c : ℕ). c < 256) n octets h))

-- the words of a type's data
either_spelt : (words : Option (List Written)) (plain_words : List Written) → GoodWords words → AreSpelt plain_words → AreSpelt (unwrap_or words plain_words)
either_spelt None plain_words h k = k
either_spelt (Some words) plain_words h k = h.0

form_good : (form : Option Form) (octets : List ℕ) → AreOctets octets → GoodWords (words_in_form form octets)
form_good None octets h = tt
form_good (Some form) octets h = fields_good form.fields form.rest octets h

pub wide_words-spelt : (rtype : ℕ) (octets : List ℕ) → AreOctets octets → AreSpelt (wide_words rtype octets)
wide_words-spelt rtype octets h = either_spelt (words_in_form (form_of rtype) octets) (words_of rtype octets) (form_good (form_of rtype) octets h) (words_spelt rtype octets h)
