-- Data of each type's form is of its fields, and the words that are written of it are read as it.
use Rattle.std.proofs.Common.{◌≡◌, ℕ, zero, suc, ◌*◌, ◌<◌, ◌≤◌, Bool, true, false, cond, ◌&&◌, ◌==◌, nat_lt, nat_le, List, [], ◌∷◌, ◌++◌, length, drop, All, Some, Ok, refl, sym, ap, subst, ◌∙◌, arith}
use Rattle.std.proofs.lemmas.Bool.Decides.{nat_tests, Decides-eqb}
use Rattle.std.proofs.lemmas.List.{nil_from_length, length-drop}
use Rattle.std.proofs.lemmas.List.Elements.{All-nil, All-cons, All-head, All-tail, All-drop}
use Rattle.dns_name.specs.Name.{wire_of, name_in}
use Rattle.dns_name.proofs.LawLemmas.{name_in-is_present}
use Rattle.dns_rdata.specs.Layout.{layout_of}
use Rattle.dns_rdata.specs.Data.{names_then, parts, are_strings, data_of}
use Rattle.dns_rdata.proofs.StringLemmas.{are_strings-behind}
use Rattle.dns_rdata.proofs.NameLemmas.{map_some, and_then_some, cond_some}
use Rattle.record_text.specs.declared.data.Field.{Field}
use Rattle.record_text.specs.declared.data.Field.TheVariants as field
use Rattle.record_text.specs.Data.{form_of, octets_of_words, as_data, as_own_data, data_of_words, text_of}
use Rattle.record_text.specs.Generic.{are_generic, generic_of, generic_words}
use Rattle.record_text.specs.Reading.{and_then}
use Rattle.record_text.specs.Strings.{strings_of}
use Rattle.record_text.specs.Text.{strings_in, words_at, words_of}
use Rattle.zone_lexing.specs.Word.{Written}
use Rattle.record_text.proofs.BackLemmas.{AreOctets, strings_back, string_words}
use Rattle.record_text.proofs.DataLemmas.{data_of_words-ok}
use Rattle.record_text.proofs.GenericBack.{generic_back}
use Rattle.record_text.proofs.MarkLemmas.{fields_other, strings_other}
use Rattle.record_text.proofs.TypeLemmas.{IsNumbered, by_word, form_numbered}
use Rattle.record_text.proofs.FieldLemmas.{HasFront, HasFields, fields_back, address_front, short_front, long_front, name_front, address6_front}

all_front : (xs ys : List ℕ) → AreOctets (xs ++ ys) → AreOctets xs
all_front [] ys h = All-nil (λ (c : ℕ). c < 256)
all_front (x ∷ xs) ys h =
    All-cons (λ (c : ℕ). c < 256) x xs (All-head (λ (c : ℕ). c < 256) x (xs ++ ys) h) (all_front xs ys (All-tail (λ (c : ℕ). c < 256) x (xs ++ ys) h))

all_back : (xs ys : List ℕ) → AreOctets (xs ++ ys) → AreOctets ys
all_back [] ys h = h
all_back (x ∷ xs) ys h = all_back xs ys (All-tail (λ (c : ℕ). c < 256) x (xs ++ ys) h)

-- the octets of a name's labels are octets
labels_octets : (name : List (List ℕ)) → AreOctets (wire_of name) → All (All (λ c. c < 256)) name
labels_octets [] h = All-nil (All (λ (c : ℕ). c < 256))
labels_octets (label ∷ name) h =
    let tail = All-tail (λ (c : ℕ). c < 256) (length label) (label ++ wire_of name) h in
    All-cons (All (λ (c : ℕ). c < 256)) label name (all_front label (wire_of name) tail) (labels_octets name (all_back label (wire_of name) tail))

-- so many names in front of fields
abbrev names_before : ℕ → List Field → List Field
names_before zero fields = fields
names_before (suc names) fields = field.Name ∷ names_before names fields

names_has : (names back : ℕ) (fields : List Field) (octets own : List ℕ) → names_then names back octets ≡ Some own → AreOctets octets → ((rest : List ℕ) → length rest ≡ back → AreOctets rest → HasFields fields rest) → HasFields (names_before names fields) octets
names_has zero back fields octets own e all behind =
    let test = cond_some (length octets == back) (Some octets) own e in
    behind octets ((Decides-eqb (length octets) back).0 test.0) all
names_has (suc names) back fields octets own e all behind =
    let name = and_then_some _ (name_in octets) own e in
    let is_present = name_in-is_present octets name.0 name.1 in
    let rest = drop (length (wire_of name.0)) octets in
    let more = map_some _ (names_then names back rest) own name.2 in
    let whole = subst AreOctets is_present.1 all in
    let front = name_front name.0 rest is_present.0 (labels_octets name.0 (all_front (wire_of name.0) rest whole)) in
    (rest, subst (λ (os : List ℕ). HasFront field.Name os rest) (sym is_present.1) front, names_has names back fields rest more.0 more.1 (all_back (wire_of name.0) rest whole) behind)

-- what a form of parts says
record AreParts (front names back : ℕ) (octets : List ℕ) : Type 0 where
  long : front ≤ length octets
  behind : List ℕ
  rest : names_then names back (drop front octets) ≡ Some behind

AreParts-from : (front names back : ℕ) (octets own : List ℕ) → parts front names back octets ≡ Some own → AreParts front names back octets
AreParts-from front names back octets own e =
    let test = cond_some (nat_le front (length octets)) _ own e in
    let long : front ≤ length octets = let t = test.0 in grind (arith, nat_tests) in
    let rest = map_some _ (names_then names back (drop front octets)) own test.1 in
    record { long = long; behind = rest.0; rest = rest.1 }

no_fields : (rest : List ℕ) → length rest ≡ 0 → AreOctets rest → HasFields [] rest
no_fields rest e h = nil_from_length rest e

first_address : (octets : List ℕ) (fields : List Field) → 4 ≤ length octets → AreOctets octets → HasFields fields (drop 4 octets) → HasFields (field.Address ∷ fields) octets
first_address [] fields h all more = absurd (omega arith)
first_address (a ∷ []) fields h all more = absurd (omega arith)
first_address (a ∷ b ∷ []) fields h all more = absurd (omega arith)
first_address (a ∷ b ∷ c ∷ []) fields h all more = absurd (omega arith)
first_address (a ∷ b ∷ c ∷ d ∷ rest) fields h all more = (rest, address_front a b c d rest all, more)

first_short : (octets : List ℕ) (fields : List Field) → 2 ≤ length octets → AreOctets octets → HasFields fields (drop 2 octets) → HasFields (field.Short ∷ fields) octets
first_short [] fields h all more = absurd (omega arith)
first_short (a ∷ []) fields h all more = absurd (omega arith)
first_short (a ∷ b ∷ rest) fields h all more = (rest, short_front a b rest all, more)

first_long : (octets : List ℕ) (fields : List Field) → 4 ≤ length octets → AreOctets octets → HasFields fields (drop 4 octets) → HasFields (field.Long ∷ fields) octets
first_long [] fields h all more = absurd (omega arith)
first_long (a ∷ []) fields h all more = absurd (omega arith)
first_long (a ∷ b ∷ []) fields h all more = absurd (omega arith)
first_long (a ∷ b ∷ c ∷ []) fields h all more = absurd (omega arith)
first_long (a ∷ b ∷ c ∷ d ∷ rest) fields h all more = (rest, long_front a b c d rest all, more)

-- so many numbers of four octets
abbrev longs : ℕ → List Field
longs zero = []
longs (suc n) = field.Long ∷ longs n

longs_has : (n : ℕ) (octets : List ℕ) → length octets ≡ n * 4 → AreOctets octets → HasFields (longs n) octets
longs_has zero octets e all = nil_from_length octets e
longs_has (suc n) octets e all =
    let left = length-drop 4 octets in
    first_long octets (longs n) (omega arith) all (longs_has n (drop 4 octets) (omega arith) (All-drop (λ (c : ℕ). c < 256) 4 octets all))

drop_two : (octets : List ℕ) → drop 2 (drop 2 (drop 2 octets)) ≡ drop 6 octets
drop_two [] = refl
drop_two (a ∷ []) = refl
drop_two (a ∷ b ∷ []) = refl
drop_two (a ∷ b ∷ c ∷ []) = refl
drop_two (a ∷ b ∷ c ∷ d ∷ []) = refl
drop_two (a ∷ b ∷ c ∷ d ∷ e ∷ []) = refl
drop_two (a ∷ b ∷ c ∷ d ∷ e ∷ f ∷ octets) = refl

address_has : (octets own : List ℕ) → parts 4 0 0 octets ≡ Some own → AreOctets octets → HasFields (field.Address ∷ []) octets
address_has octets own e all =
    let are = AreParts-from 4 0 0 octets own e in
    first_address octets [] are.long all (names_has 0 0 [] (drop 4 octets) are.behind are.rest (All-drop (λ (c : ℕ). c < 256) 4 octets all) no_fields)

address6_has : (octets own : List ℕ) → parts 16 0 0 octets ≡ Some own → AreOctets octets → HasFields (field.Address6 ∷ []) octets
address6_has octets own e all =
    let are = AreParts-from 16 0 0 octets own e in
    (drop 16 octets, address6_front octets are.long all, names_has 0 0 [] (drop 16 octets) are.behind are.rest (All-drop (λ (c : ℕ). c < 256) 16 octets all) no_fields)

name_has : (octets own : List ℕ) → parts 0 1 0 octets ≡ Some own → AreOctets octets → HasFields (field.Name ∷ []) octets
name_has octets own e all =
    let are = AreParts-from 0 1 0 octets own e in
    names_has 1 0 [] octets are.behind are.rest all no_fields

soa_has : (octets own : List ℕ) → parts 0 2 20 octets ≡ Some own → AreOctets octets → HasFields (field.Name ∷ field.Name ∷ longs 5) octets
soa_has octets own e all =
    let are = AreParts-from 0 2 20 octets own e in
    names_has 2 20 (longs 5) octets are.behind are.rest all (longs_has 5)

mx_has : (octets own : List ℕ) → parts 2 1 0 octets ≡ Some own → AreOctets octets → HasFields (field.Short ∷ field.Name ∷ []) octets
mx_has octets own e all =
    let are = AreParts-from 2 1 0 octets own e in
    first_short octets (field.Name ∷ []) are.long all (names_has 1 0 [] (drop 2 octets) are.behind are.rest (All-drop (λ (c : ℕ). c < 256) 2 octets all) no_fields)

srv_has : (octets own : List ℕ) → parts 6 1 0 octets ≡ Some own → AreOctets octets → HasFields (field.Short ∷ field.Short ∷ field.Short ∷ field.Name ∷ []) octets
srv_has octets own e all =
    let are = AreParts-from 6 1 0 octets own e in
    let long = are.long in
    let second = All-drop (λ (c : ℕ). c < 256) 2 octets all in
    let third = All-drop (λ (c : ℕ). c < 256) 2 (drop 2 octets) second in
    let left = length-drop 2 octets in
    let less = length-drop 2 (drop 2 octets) in
    let name = names_has 1 0 [] (drop 6 octets) are.behind are.rest (All-drop (λ (c : ℕ). c < 256) 6 octets all) no_fields in
    first_short octets (field.Short ∷ field.Short ∷ field.Name ∷ []) (omega arith) all
    (first_short (drop 2 octets) (field.Short ∷ field.Name ∷ []) (omega arith) second
    (first_short (drop 2 (drop 2 octets)) (field.Name ∷ []) (omega arith) third
    (subst (HasFields (field.Name ∷ [])) (sym (drop_two octets)) name)))

-- the words of octets are read as them, type by type
abbrev IsBack : List (List ℕ) → ℕ → Type 0
IsBack origin rtype = (octets : List ℕ) → data_of rtype octets ≡ Some octets → length octets ≤ 4096 → AreOctets octets → data_of_words rtype origin (words_of rtype octets) ≡ Ok octets

-- words in the type's own form
in_words : (rtype : ℕ) (origin : List (List ℕ)) (octets : List ℕ) (words : List Written) → are_generic words ≡ false → octets_of_words rtype origin words ≡ Ok octets → data_of rtype octets ≡ Some octets → length octets ≤ 4096 → data_of_words rtype origin words ≡ Ok octets
in_words rtype origin octets words own read e short =
    ap (λ (b : Bool). cond b (and_then (generic_of (drop 1 words)) (as_own_data rtype)) (and_then (octets_of_words rtype origin words) (as_data rtype))) own
    ∙ data_of_words-ok rtype octets octets (octets_of_words rtype origin words) read e short

address_back : (origin : List (List ℕ)) → IsBack origin 1
unfolding data_of layout_of octets_of_words words_of form_of
address_back origin octets e short all =
    in_words 1 origin octets (words_at (field.Address ∷ []) octets) (fields_other (field.Address ∷ []) octets all) (fields_back origin (field.Address ∷ []) octets (address_has octets octets e all)) e short

ns_back : (origin : List (List ℕ)) → IsBack origin 2
unfolding data_of layout_of octets_of_words words_of form_of
ns_back origin octets e short all =
    in_words 2 origin octets (words_at (field.Name ∷ []) octets) (fields_other (field.Name ∷ []) octets all) (fields_back origin (field.Name ∷ []) octets (name_has octets octets e all)) e short

cname_back : (origin : List (List ℕ)) → IsBack origin 5
unfolding data_of layout_of octets_of_words words_of form_of
cname_back origin octets e short all =
    in_words 5 origin octets (words_at (field.Name ∷ []) octets) (fields_other (field.Name ∷ []) octets all) (fields_back origin (field.Name ∷ []) octets (name_has octets octets e all)) e short

soa_back : (origin : List (List ℕ)) → IsBack origin 6
unfolding data_of layout_of octets_of_words words_of form_of
soa_back origin octets e short all =
    in_words 6 origin octets (words_at (field.Name ∷ field.Name ∷ longs 5) octets) (fields_other (field.Name ∷ field.Name ∷ longs 5) octets all) (fields_back origin (field.Name ∷ field.Name ∷ longs 5) octets (soa_has octets octets e all)) e short

ptr_back : (origin : List (List ℕ)) → IsBack origin 12
unfolding data_of layout_of octets_of_words words_of form_of
ptr_back origin octets e short all =
    in_words 12 origin octets (words_at (field.Name ∷ []) octets) (fields_other (field.Name ∷ []) octets all) (fields_back origin (field.Name ∷ []) octets (name_has octets octets e all)) e short

mx_back : (origin : List (List ℕ)) → IsBack origin 15
unfolding data_of layout_of octets_of_words words_of form_of
mx_back origin octets e short all =
    in_words 15 origin octets (words_at (field.Short ∷ field.Name ∷ []) octets) (fields_other (field.Short ∷ field.Name ∷ []) octets all) (fields_back origin (field.Short ∷ field.Name ∷ []) octets (mx_has octets octets e all)) e short

aaaa_back : (origin : List (List ℕ)) → IsBack origin 28
unfolding data_of layout_of octets_of_words words_of form_of
aaaa_back origin octets e short all =
    in_words 28 origin octets (words_at (field.Address6 ∷ []) octets) (fields_other (field.Address6 ∷ []) octets all) (fields_back origin (field.Address6 ∷ []) octets (address6_has octets octets e all)) e short

srv_back : (origin : List (List ℕ)) → IsBack origin 33
unfolding data_of layout_of octets_of_words words_of form_of
srv_back origin octets e short all =
    in_words 33 origin octets (words_at (field.Short ∷ field.Short ∷ field.Short ∷ field.Name ∷ []) octets) (fields_other (field.Short ∷ field.Short ∷ field.Short ∷ field.Name ∷ []) octets all) (fields_back origin (field.Short ∷ field.Short ∷ field.Short ∷ field.Name ∷ []) octets (srv_has octets octets e all)) e short

second_true : (a b : Bool) → (a && b) ≡ true → b ≡ true
second_true true b e = e
second_true false b e = cc

-- strings are one or more
some_strings : (octets : List ℕ) → 0 < length octets → text_of (string_words (strings_in 0 octets)) ≡ strings_of (string_words (strings_in 0 octets))
some_strings [] h = absurd (omega arith)
some_strings (n ∷ octets) h = refl

txt_back : (origin : List (List ℕ)) → IsBack origin 16
unfolding data_of layout_of octets_of_words words_of
txt_back origin octets e short all =
    let test = cond_some (nat_lt 0 (length octets) && are_strings octets) (Some octets) octets e in
    let some : 0 < length octets = let t = test.0 in grind (arith, nat_tests) in
    in_words 16 origin octets (string_words (strings_in 0 octets)) (strings_other (strings_in 0 octets))
    (some_strings octets some ∙ strings_back 0 octets (sym (are_strings-behind octets) ∙ second_true (nat_lt 0 (length octets)) (are_strings octets) test.0) all) e short

-- a type that has no word is written behind `\#`
words_numbered : (rtype : ℕ) (octets : List ℕ) → IsNumbered rtype → words_of rtype octets ≡ generic_words octets
unfolding words_of
words_numbered rtype octets n = let form = form_numbered rtype n in let text = n.txt in rw (text, form) refl

numbered_back : (origin : List (List ℕ)) (rtype : ℕ) → IsNumbered rtype → IsBack origin rtype
numbered_back origin rtype n octets e short all = ap (data_of_words rtype origin) (words_numbered rtype octets n) ∙ generic_back rtype octets e short all

at_type : (origin : List (List ℕ)) (rtype n : ℕ) → IsBack origin n → (rtype == n) ≡ true → IsBack origin rtype
at_type origin rtype n back e = subst (IsBack origin) (sym ((Decides-eqb rtype n).0 e)) back

words_back : (origin : List (List ℕ)) (rtype : ℕ) → IsBack origin rtype
words_back origin rtype =
    by_word (IsBack origin rtype) rtype (at_type origin rtype 1 (address_back origin)) (at_type origin rtype 2 (ns_back origin)) (at_type origin rtype 5 (cname_back origin)) (at_type origin rtype 6 (soa_back origin))
    (at_type origin rtype 12 (ptr_back origin)) (at_type origin rtype 15 (mx_back origin)) (at_type origin rtype 16 (txt_back origin)) (at_type origin rtype 28 (aaaa_back origin)) (at_type origin rtype 33 (srv_back origin))
    (numbered_back origin rtype)

-- the words of data are read as it
pub data_back : (rtype : ℕ) (octets : List ℕ) (origin : List (List ℕ)) → data_of rtype octets ≡ Some octets → length octets ≤ 4096 → AreOctets octets → data_of_words rtype origin (words_of rtype octets) ≡ Ok octets
data_back rtype octets origin e short all = words_back origin rtype octets e short all
