-- What the plain grammar reads is read alike: data.
use Rattle.std.proofs.Common.{◌≡◌, ℕ, Bool, true, false, cond, ◌&&◌, ◌==◌, nat_le, List, [], ◌∷◌, ◌++◌, drop, map, Option, Some, None, Result, Ok, Err, ok_or, refl, sym, ap, subst, ◌∙◌}
use Rattle.std.specs.Int.{to_be_bytes, w32}
use Rattle.std.specs.List.{find}
use Rattle.std.proofs.lemmas.Bool.Decides.{Decides-eqb}
use Rattle.dns_name.specs.Name.{wire_of}
use Rattle.record_text.specs.Data.{fields_of as plain_fields, field_of as plain_field, octets_of_words, as_data, as_own_data, data_of_words, surplus_of, form_of as plain_form}
use Rattle.record_text.specs.Generic.{are_generic, generic_of}
use Rattle.record_text.specs.NameWord.{name_of}
use Rattle.record_text.specs.Number.{are_digits, value_of, decimal_of, number_of, is_number}
use Rattle.record_text.specs.Reading.{on_ok, and_then}
use Rattle.record_text.specs.declared.cause.Cause.{Cause}
use Rattle.record_text.specs.declared.cause.Cause.TheVariants.{BadData, Number}
use Rattle.record_text.proofs.DataLemmas.{words_fields}
use Rattle.wide_text.proofs.GenericLemmas.{read_first, generic_is_data}
use Rattle.wide_text.specs.Data.{data_by, wide_data}
use Rattle.wide_text.specs.Fields.{field_of, fields_of}
use Rattle.wide_text.specs.Forms.{Form, forms, form_of}
use Rattle.wide_text.specs.Times.{seconds_of}
use Rattle.wide_text.specs.declared.forms.Field.{Field}
use Rattle.wide_text.specs.declared.forms.Field.TheVariants as field
use Rattle.wide_text.specs.declared.forms.Rest.TheVariants as rest
use Rattle.zone_lexing.specs.Word.{Written}
use Rattle.zone_lexing.specs.Word.Written.{Plain, Quoted, Unclosed}

pub read_on : {A B : Type 0} (r : Result A Cause) (f : A → B) (y : B) → on_ok f r ≡ Ok y → (x : A) × (r ≡ Ok x) × (f x ≡ y)
read_on (Ok x) f y e = (x, refl, cc)
read_on (Err cause) f y e = cc

-- a number is a time
digits_by : (most : ℕ) (text : List ℕ) (n : ℕ) (d : Bool) → are_digits text ≡ d → cond (d && nat_le (value_of text) most) (Some (value_of text)) None ≡ Some n → d ≡ true
digits_by most text n true e h = refl
digits_by most text n false e h = cc

digits_of_number : (most : ℕ) (text : List ℕ) (n : ℕ) → decimal_of most text ≡ Some n → are_digits text ≡ true
unfolding decimal_of
digits_of_number most text n e = digits_by most text n (are_digits text) refl e

ok_some : (o : Option ℕ) (n : ℕ) → ok_or o Number ≡ Ok n → o ≡ Some n
ok_some None n e = cc
ok_some (Some m) n e = cc

pub number_is_digits : (most : ℕ) (word : Written) (n : ℕ) → number_of most word ≡ Ok n → is_number word ≡ true
number_is_digits most (Plain text) n e = digits_of_number most text n (ok_some (decimal_of most text) n e)
number_is_digits most (Quoted text) n e = cc
number_is_digits most Unclosed n e = cc

pub number_is_time : (most : ℕ) (word : Written) (n : ℕ) → number_of most word ≡ Ok n → seconds_of most word ≡ Ok n
number_is_time most word n e = rw (number_is_digits most word n e) e

-- words that are read by readings in turn, one a word
abbrev Reading : Type 0
Reading = Written → Result (List ℕ) Cause

abbrev in_turn : List Reading → List Written → Result (List ℕ) Cause
in_turn [] [] = Ok []
in_turn [] (word ∷ words) = Err (surplus_of word)
in_turn (reading ∷ readings) [] = Err BadData
in_turn (reading ∷ readings) (word ∷ words) = and_then (reading word) (λ front. on_ok (λ more. front ++ more) (in_turn readings words))

-- so the plain grammar reads fields
plain_in_turn : (origin : List (List ℕ)) (fields : _) (words : List Written) → plain_fields origin fields words ≡ in_turn (map (plain_field origin) fields) words
plain_in_turn origin [] [] = refl
plain_in_turn origin [] (word ∷ words) = refl
plain_in_turn origin (f ∷ fields) [] = refl
plain_in_turn origin (f ∷ fields) (word ∷ words) =
    ap (λ (r : Result (List ℕ) Cause). and_then (plain_field origin f word) (λ (front : List ℕ). on_ok (λ (more : List ℕ). front ++ more) r)) (plain_in_turn origin fields words)

by_form : (rtype : ℕ) (origin : List (List ℕ)) (words : List Written) (fields : _) → false ≡ (rtype == 16) → plain_form rtype ≡ Some fields → octets_of_words rtype origin words ≡ in_turn (map (plain_field origin) fields) words
by_form rtype origin words fields e form = words_fields rtype origin words fields e form ∙ plain_in_turn origin fields words

-- a field of the table reads what a reading reads
abbrev Widens : List (List ℕ) → Reading × Field → Type 0
Widens origin pair = (word : Written) (octets : List ℕ) → pair.0 word ≡ Ok octets → field_of origin pair.1 word ≡ Ok octets

time_widens : (origin : List (List ℕ)) → Widens origin ((λ (word : Written). on_ok (to_be_bytes w32) (number_of 4294967295 word)), field.Time)
time_widens origin word octets e =
    let read = read_on (number_of 4294967295 word) (to_be_bytes w32) octets e in
    ap (on_ok (to_be_bytes w32)) (number_is_time 4294967295 word read.0 read.1) ∙ ap Ok read.2

-- and so for lists of them
abbrev AllWiden : List (List ℕ) → List (Reading × Field) → Type 0
AllWiden origin [] = Unit {0}
AllWiden origin (pair ∷ more) = Widens origin pair × AllWiden origin more

widened : (origin : List (List ℕ)) (pairs : List (Reading × Field)) → AllWiden origin pairs → (words : List Written) (octets : List ℕ) → in_turn (map (λ (p : Reading × Field). p.0) pairs) words ≡ Ok octets
    → fields_of origin (map (λ (p : Reading × Field). p.1) pairs) rest.Nothing words ≡ Ok octets
widened origin [] h [] octets e = e
widened origin [] h (word ∷ words) octets e = cc
widened origin (p ∷ pairs) h [] octets e = cc
widened origin (p ∷ pairs) h (word ∷ words) octets e =
    let first = read_first (p.0 word) (λ front. on_ok (λ more. front ++ more) (in_turn (map (λ (q : Reading × Field). q.0) pairs) words)) octets e in
    let more = read_on (in_turn (map (λ (q : Reading × Field). q.0) pairs) words) (λ more. first.0 ++ more) octets first.2 in
    let wide = h.0 word first.0 first.1 in
    let others = widened origin pairs h.1 words more.0 more.1 in
    rw (wide, others) (ap Ok more.2)

-- a line of the table reads what the plain grammar reads for its type
abbrev ReadsPlain : Form → Type 0
ReadsPlain form = (origin : List (List ℕ)) (words : List Written) (octets : List ℕ) → octets_of_words form.rtype origin words ≡ Ok octets → fields_of origin form.fields form.rest words ≡ Ok octets

abbrev AllReadPlain : List Form → Type 0
AllReadPlain [] = Unit {0}
AllReadPlain (form ∷ more) = ReadsPlain form × AllReadPlain more

-- the fields of an SOA
abbrev a_name : List (List ℕ) → Reading
a_name origin = λ word. on_ok wire_of (name_of origin word)

abbrev a_long : Reading
a_long = λ word. on_ok (to_be_bytes w32) (number_of 4294967295 word)

abbrev soa_pairs : List (List ℕ) → List (Reading × Field)
soa_pairs origin = (a_name origin, field.Name) ∷ (a_name origin, field.Name) ∷ (a_long, field.Long) ∷ (a_long, field.Time) ∷ (a_long, field.Time) ∷ (a_long, field.Time) ∷ (a_long, field.Time) ∷ []

soa_reads : (origin : List (List ℕ)) (words : List Written) (octets : List ℕ) → octets_of_words 6 origin words ≡ Ok octets
    → fields_of origin (field.Name ∷ field.Name ∷ field.Long ∷ field.Time ∷ field.Time ∷ field.Time ∷ field.Time ∷ []) rest.Nothing words ≡ Ok octets
unfolding octets_of_words plain_form
soa_reads origin words octets e =
    widened origin (soa_pairs origin) ((λ word own k. k), ((λ word own k. k), ((λ word own k. k), (time_widens origin, (time_widens origin, (time_widens origin, (time_widens origin, tt))))))) words octets (sym (by_form 6 origin words _ refl refl) ∙ e)

-- and types of which the plain grammar has no words
all_read_plain : AllReadPlain forms
unfolding forms octets_of_words plain_form
all_read_plain =
    (soa_reads, (λ o w s e. cc, (λ o w s e. cc, (λ o w s e. cc, (λ o w s e. cc, (λ o w s e. cc, (λ o w s e. cc, (λ o w s e. cc, (λ o w s e. cc, (λ o w s e. cc, (λ o w s e. cc, (λ o w s e. cc, (λ o w s e. cc, (λ o w s e. cc, (λ o w s e. cc, (λ o w s e. cc, (λ o w s e. cc, (λ o w s e. cc, (λ o w s e. cc, (λ o w s e. cc, (λ o w s e. cc, (λ o w s e. cc, (λ o w s e. cc, (λ o w s e. cc, (λ o w s e. cc, tt)))))))))))))))))))))))))

-- what a line reads for a type
abbrev ReadsFor : ℕ → Form → Type 0
ReadsFor rtype form = (origin : List (List ℕ)) (words : List Written) (octets : List ℕ) → octets_of_words rtype origin words ≡ Ok octets → fields_of origin form.fields form.rest words ≡ Ok octets

found_by : (rtype : ℕ) (first form : Form) (later : Option Form) (b : Bool) → ReadsPlain first → (later ≡ Some form → ReadsFor rtype form) → (first.rtype == rtype) ≡ b → cond b (Some first) later ≡ Some form → ReadsFor rtype form
found_by rtype first form later true reads more k f =
    let same : first ≡ form = cc in
    let number = (Decides-eqb first.rtype rtype).0 k in
    λ origin words octets h. subst (λ (x : Form). fields_of origin x.fields x.rest words ≡ Ok octets) same (reads origin words octets (ap (λ (n : ℕ). octets_of_words n origin words) number ∙ h))
found_by rtype first form later false reads more k f = more f

found_reads : (rtype : ℕ) (table : List Form) (form : Form) → AllReadPlain table → find (λ (f : Form). f.rtype == rtype) table ≡ Some form → ReadsFor rtype form
found_reads rtype [] form all e = cc
found_reads rtype (first ∷ table) form all e = found_by rtype first form (find (λ (f : Form). f.rtype == rtype) table) (first.rtype == rtype) all.0 (found_reads rtype table form all.1) refl e

data_widens : (rtype : ℕ) (o : Option Form) → form_of rtype ≡ o → (origin : List (List ℕ)) (words : List Written) (octets : List ℕ) → are_generic words ≡ false → data_of_words rtype origin words ≡ Ok octets → data_by o rtype origin words ≡ Ok octets
data_widens rtype None e origin words octets g h = h
data_widens rtype (Some form) e origin words octets g h =
    let own : and_then (octets_of_words rtype origin words) (as_data rtype) ≡ Ok octets = (rw g at h) in
    let read = read_first (octets_of_words rtype origin words) (as_data rtype) octets own in
    let wide = found_reads rtype forms form all_read_plain e origin words read.0 read.1 in
    ap (λ (r : Result (List ℕ) Cause). and_then r (as_data rtype)) wide ∙ read.2

-- what the plain grammar reads as data is read so
by_mark : (rtype : ℕ) (origin : List (List ℕ)) (words : List Written) (octets : List ℕ) (b : Bool) → are_generic words ≡ b → data_of_words rtype origin words ≡ Ok octets → cond b (and_then (generic_of (drop 1 words)) (as_data rtype)) (data_by (form_of rtype) rtype origin words) ≡ Ok octets
by_mark rtype origin words octets true g h =
    let own : and_then (generic_of (drop 1 words)) (as_own_data rtype) ≡ Ok octets = (rw g at h) in
    generic_is_data rtype (drop 1 words) octets own
by_mark rtype origin words octets false g h = data_widens rtype (form_of rtype) refl origin words octets g h

pub plain_data_is_wide : (rtype : ℕ) (origin : List (List ℕ)) (words : List Written) (octets : List ℕ) → data_of_words rtype origin words ≡ Ok octets → wide_data rtype origin words ≡ Ok octets
plain_data_is_wide rtype origin words octets h = by_mark rtype origin words octets (are_generic words) refl h
