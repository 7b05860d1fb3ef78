-- The words after the fields are read as the octets that they were written of, and so are the words of a whole form.
use Rattle.std.proofs.Common.{◌≡◌, ℕ, ◌<◌, Bool, true, false, cond, ◌&&◌, ◌==◌, nat_lt, List, [], ◌∷◌, ◌++◌, length, drop, take, bytes_eq, Option, Some, None, option_map, option_and_then, Result, Ok, Err, refl, sym, ap, ◌∙◌, arith}
use Rattle.std.proofs.lemmas.Bool.Decides.{nat_tests, Decides-eqb}
use Rattle.std.proofs.lemmas.List.{append-nil, take-append-drop, nil_from_length}
use Rattle.std.proofs.lemmas.List.Elements.{All-drop}
use Rattle.std.proofs.lemmas.Slice.Eq.{bytes_eq-Decides}
use Rattle.base64.specs.Engines.{standard}
use Rattle.base64.specs.GeneralPurpose.{encode_of}
use Rattle.base64.specs.declared.DecodeError.{DecodeError}
use Rattle.base64.proofs.EngineFacts.{decode_of-encode_of}
use Rattle.hex.specs.Hex.{encode_lower}
use Rattle.dns_rdata.specs.Data.{are_strings, data_of}
use Rattle.dns_rdata.specs.Layout.{layout_of}
use Rattle.dns_rdata.proofs.NameLemmas.{cond_some}
use Rattle.dns_rdata.proofs.StringLemmas.{are_strings-behind}
use Rattle.record_text.specs.Data.{as_data, text_of as strings_read}
use Rattle.record_text.specs.Reading.{on_ok, and_then}
use Rattle.record_text.specs.Strings.{strings_of}
use Rattle.record_text.specs.Text.{strings_in, words_of}
use Rattle.record_text.specs.declared.cause.Cause.{Cause}
use Rattle.record_text.specs.declared.cause.Cause.TheVariants.{BadData, Limit}
use Rattle.record_text.proofs.BackLemmas.{AreOctets, strings_back, string_words}
use Rattle.wide_text.specs.Encoded.{hex_in, base64_in}
use Rattle.wide_text.specs.Fields.{field_of, fields_of, rest_of}
use Rattle.wide_text.specs.LocationWords.{location_words}
use Rattle.wide_text.specs.ParamWords.{param_words}
use Rattle.wide_text.specs.Words.{word_at, rest_words, words_by}
use Rattle.wide_text.specs.declared.forms.Field.{Field}
use Rattle.wide_text.specs.declared.forms.Rest.{Rest}
use Rattle.wide_text.specs.declared.forms.Rest.TheVariants as rest
use Rattle.wide_text.proofs.EuiLemmas.{are_bytes, hex_back}
use Rattle.wide_text.proofs.WordLemmas.{IsBack, word_back}
use Rattle.zone_lexing.specs.Word.{Written}
use Rattle.zone_lexing.specs.Word.Written.{Plain}

-- words are read as the octets
abbrev pub IsRestBack : Rest → List ℕ → Option (List Written) → Type 0
IsRestBack r octets None = Unit {0}
IsRestBack r octets (Some words) = rest_of r words ≡ Ok octets

no_octets : (octets : List ℕ) → (length octets == 0) ≡ true → octets ≡ []
no_octets octets e = nil_from_length octets ((Decides-eqb (length octets) 0).0 e)

nothing_by : (octets : List ℕ) (b : Bool) → (length octets == 0) ≡ b → IsRestBack rest.Nothing octets (cond b (Some []) None)
nothing_by octets true e = ap Ok (sym (no_octets octets e))
nothing_by octets false e = tt

base64_back : (octets : List ℕ) → AreOctets octets → base64_in (encode_of standard octets) ≡ Ok octets
unfolding base64_in
base64_back octets h =
    ap (λ (r : Result (List ℕ) DecodeError). elim r as (λ _. Result (List ℕ) Cause) [ Ok own ↦ Ok own | Err fault ↦ Err BadData ]) (decode_of-encode_of standard octets refl (are_bytes octets h))

hex_by : (octets : List ℕ) (b : Bool) → AreOctets octets → IsRestBack rest.Hex octets (cond b None (Some (Plain (encode_lower octets) ∷ [])))
hex_by octets true h = tt
hex_by octets false h = ap hex_in (append-nil (encode_lower octets)) ∙ hex_back octets h

base64_by : (octets : List ℕ) (b : Bool) → AreOctets octets → IsRestBack rest.Base64 octets (cond b None (Some (Plain (encode_of standard octets) ∷ [])))
base64_by octets true h = tt
base64_by octets false h = ap base64_in (append-nil (encode_of standard octets)) ∙ base64_back octets h

-- what the form of strings says
pub record AreStrings (octets own : List ℕ) : Type 0 where
  pub some : 0 < length octets
  pub strings : are_strings octets ≡ true
  pub same : own ≡ octets

second_true : (a b : Bool) → (a && b) ≡ true → b ≡ true
second_true true b e = e
second_true false b e = cc

pub AreStrings-data : (octets own : List ℕ) → data_of 16 octets ≡ Some own → AreStrings octets own
unfolding data_of layout_of
AreStrings-data octets own e =
    let test = cond_some (nat_lt 0 (length octets) && are_strings octets) (Some octets) own e in
    record {
      some = let t = test.0 in grind (arith, nat_tests);
      strings = second_true (nat_lt 0 (length octets)) (are_strings octets) test.0;
      same = let is = test.1 in cc;
    }

some_strings : (octets : List ℕ) → 0 < length octets → strings_read (string_words (strings_in 0 octets)) ≡ strings_of (string_words (strings_in 0 octets))
some_strings [] h = absurd (omega arith)
some_strings (n ∷ octets) h = refl

text_back : (octets : List ℕ) → 0 < length octets → are_strings octets ≡ true → AreOctets octets → strings_read (words_of 16 octets) ≡ Ok octets
unfolding words_of
text_back octets some strings h = some_strings octets some ∙ strings_back 0 octets (sym (are_strings-behind octets) ∙ strings) h

strings_by : (octets : List ℕ) (o : Option (List ℕ)) (long : Bool) → AreOctets octets → data_of 16 octets ≡ o
    → IsRestBack rest.Strings octets (elim (elim o as (λ _. Result (List ℕ) Cause) [ None ↦ Err BadData | Some own ↦ cond long (Err Limit) (Ok own) ]) as (λ _. Option (List Written)) [ Ok own ↦ Some (words_of 16 own) | Err cause ↦ None ])
strings_by octets None long h e = tt
strings_by octets (Some own) true h e = tt
strings_by octets (Some own) false h e =
    let are = AreStrings-data octets own e in
    ap (λ (os : List ℕ). strings_read (words_of 16 os)) are.same ∙ text_back octets are.some are.strings h

strings_rest : (octets : List ℕ) → AreOctets octets → IsRestBack rest.Strings octets (elim (as_data 16 octets) as (λ _. Option (List Written)) [ Ok own ↦ Some (words_of 16 own) | Err cause ↦ None ])
unfolding as_data
strings_rest octets h = strings_by octets (data_of 16 octets) (nat_lt 4096 (length octets)) h refl

-- words that are written where they are read as the octets
same_by : (r : Rest) (octets own : List ℕ) (words : List Written) (b : Bool) → bytes_eq own octets ≡ b → rest_of r words ≡ Ok own → IsRestBack r octets (cond b (Some words) None)
same_by r octets own words true t e = e ∙ ap Ok ((bytes_eq-Decides own octets).0 t)
same_by r octets own words false t e = tt

read_by : (r : Rest) (octets : List ℕ) (words : List Written) (read : Result (List ℕ) Cause) → rest_of r words ≡ read
    → IsRestBack r octets (cond (elim read as (λ _. Bool) [ Ok own ↦ bytes_eq own octets | Err cause ↦ false ]) (Some words) None)
read_by r octets words (Ok own) e = same_by r octets own words (bytes_eq own octets) refl e
read_by r octets words (Err cause) e = tt

-- what stands after the fields
pub rest_back : (r : Rest) (octets : List ℕ) → AreOctets octets → IsRestBack r octets (rest_words r octets)
unfolding rest_words
rest_back rest.Nothing octets h = nothing_by octets (length octets == 0) refl
rest_back rest.Strings octets h = strings_rest octets h
rest_back rest.Hex octets h = hex_by octets (length octets == 0) h
rest_back rest.Base64 octets h = base64_by octets (length octets == 0) h
rest_back rest.Params octets h = read_by rest.Params octets (param_words octets) (rest_of rest.Params (param_words octets)) refl
rest_back rest.Location octets h = read_by rest.Location octets (location_words octets) (rest_of rest.Location (location_words octets)) refl

-- the words of fields and of what stands after them
abbrev pub AreBack : List Field → Rest → List ℕ → Option (List Written) → Type 0
AreBack fields r octets None = Unit {0}
AreBack fields r octets (Some words) = (origin : List (List ℕ)) → fields_of origin fields r words ≡ Ok octets

both : (first more : Result (List ℕ) Cause) (front after : List ℕ) → first ≡ Ok front → more ≡ Ok after → and_then first (λ (octets : List ℕ). on_ok (λ (others : List ℕ). octets ++ others) more) ≡ Ok (front ++ after)
both first more front after e k = rw (e, k) refl

step_back : (f : Field) (fields : List Field) (r : Rest) (octets : List ℕ) (word : Written × ℕ) (words : Option (List Written)) → IsBack f octets (Some word) → AreBack fields r (drop word.1 octets) words
    → AreBack (f ∷ fields) r octets (option_map (λ (ws : List Written). word.0 ∷ ws) words)
step_back f fields r octets word None first more = tt
step_back f fields r octets word (Some words) first more =
    λ origin. both (field_of origin f word.0) (fields_of origin fields r words) (take word.1 octets) (drop word.1 octets) (first origin) (more origin) ∙ ap Ok (take-append-drop word.1 octets)

fields_by : (f : Field) (fields : List Field) (r : Rest) (octets : List ℕ) (word : Option (Written × ℕ)) → IsBack f octets word → ((n : ℕ) → AreBack fields r (drop n octets) (words_by fields r (drop n octets)))
    → AreBack (f ∷ fields) r octets (option_and_then (λ (w : Written × ℕ). option_map (λ (ws : List Written). w.0 ∷ ws) (words_by fields r (drop w.1 octets))) word)
fields_by f fields r octets None first more = tt
fields_by f fields r octets (Some word) first more = step_back f fields r octets word (words_by fields r (drop word.1 octets)) first (more word.1)

of_rest : (r : Rest) (octets : List ℕ) (words : Option (List Written)) → IsRestBack r octets words → AreBack [] r octets words
of_rest r octets None h = tt
of_rest r octets (Some words) h = λ origin. h

pub fields_back : (fields : List Field) (r : Rest) (octets : List ℕ) → AreOctets octets → AreBack fields r octets (words_by fields r octets)
fields_back [] r octets h = of_rest r octets (rest_words r octets) (rest_back r octets h)
fields_back (f ∷ fields) r octets h =
    fields_by f fields r octets (word_at f octets) (word_back f octets h) (λ n. fields_back fields r (drop n octets) (All-drop (λ (c : ℕ). c < 256) n octets h))
