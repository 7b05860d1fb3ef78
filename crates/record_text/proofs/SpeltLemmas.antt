-- What is written of a record is spelt: each word is a run to its end.
use Rattle.std.proofs.Common.{◌≡◌, ℕ, ◌+◌, ◌*◌, ◌/◌, ◌%◌, ◌<◌, ◌≤◌, ◌^◌, Bool, true, false, cond, ◌||◌, ◌==◌, nat_lt, nat_le, List, [], ◌∷◌, ◌++◌, length, map, take, drop, flat_map, codes, decimal, Option, Some, None, option_map, All, refl, sym, ap, ◌∙◌, arith}
use Rattle.std.specs.List.{list_all}
use Rattle.std.specs.Char.{digit_value}
use Rattle.std.specs.Int.{from_be_bytes, w16, w32}
use Rattle.std.specs.Net.Addr.{segments_of}
use Rattle.std.specs.Net.Text.{dotted_text}
use Rattle.std.specs.Str.Parse.{AllDigits}
use Rattle.std.proofs.lemmas.Bool.Decides.{nat_tests, Decides-eqb}
use Rattle.std.proofs.lemmas.Fmt.{decimal_is_IsNumeral, digits_is_IsNumeral}
use Rattle.std.proofs.lemmas.List.{append-nil}
use Rattle.std.proofs.lemmas.List.Elements.{All-nil, All-cons, All-head, All-tail, All-drop, All-take, All-get_or}
use Rattle.dns_name.specs.Name.{wire_of, name_in}
use Rattle.dns_name.specs.Text.{digits_of, is_special, octet_text, label_text, text_of}
use Rattle.hex.specs.Hex.{encode_with, encode_lower}
use Rattle.zone_lexing.specs.Spelling.{is_run, is_spelt}
use Rattle.zone_lexing.specs.Word.{Written}
use Rattle.zone_lexing.specs.Word.Written.{Plain, Quoted}
use Rattle.zone_lexing.proofs.RunLemmas.{ARun, of_word, of_string, Passes, both_pass, each_passes, octet_passes, escaped_passes, digit_passes, spelt_plain}
use Rattle.record_text.specs.Data.{form_of}
use Rattle.record_text.specs.Generic.{generic_mark, hex_words, generic_words}
use Rattle.record_text.specs.Mnemonics.{type_word}
use Rattle.record_text.specs.Text.{word_at, words_at, words_of, strings_in, group_text, groups_text, string_octet}
use Rattle.record_text.specs.declared.data.Field.{Field}
use Rattle.record_text.specs.declared.data.Field.TheVariants as field
use Rattle.record_text.proofs.BackLemmas.{AreOctets}
use Rattle.record_text.proofs.GenericLemmas.{decimal_digits, decimal_some, digits_pass as octets_pass}
use Rattle.record_text.proofs.NumberLemmas.{by_test}
use Rattle.record_text.proofs.TypeLemmas.{IsNumbered, by_word, word_numbered}

pub digits_pass : (run : ARun) (c : ℕ) → Passes run (92 ∷ digits_of c)
digits_pass run c =
    let a = 48 + c / 100 in
    let b = 48 + c / 10 % 10 in
    let d = 48 + c % 10 in
    both_pass run (92 ∷ a ∷ []) (b ∷ d ∷ []) (escaped_passes run a (grind (arith, nat_tests)) (grind (arith, nat_tests)))
    (both_pass run (b ∷ []) (d ∷ []) (digit_passes run b (omega arith) (omega arith)) (digit_passes run d (omega arith) (omega arith)))

special_no_end : (c : ℕ) → is_special c ≡ true → ((c == 10) ≡ false) × ((c == 13) ≡ false)
special_no_end c e = (grind (arith, nat_tests), grind (arith, nat_tests))

printed_passes : (c : ℕ) → (nat_lt c 33 || nat_lt 126 c) ≡ false → is_special c ≡ false → Passes of_word (c ∷ [])
printed_passes c inside e = octet_passes of_word c (grind (arith, nat_tests)) (grind (arith, nat_tests)) (grind (arith, nat_tests)) (grind (arith, nat_tests))

pub octet_text-passes : (c : ℕ) → Passes of_word (octet_text c)
octet_text-passes c =
    by_test (λ b. Passes of_word (cond b (92 ∷ digits_of c) (cond (is_special c) (92 ∷ c ∷ []) (c ∷ [])))) (nat_lt c 33 || nat_lt 126 c) (λ _. digits_pass of_word c)
    (λ inside. by_test (λ b. Passes of_word (cond b (92 ∷ c ∷ []) (c ∷ []))) (is_special c)
    (λ e. escaped_passes of_word c (special_no_end c e).0 (special_no_end c e).1)
    (λ e. printed_passes c inside e))

label_passes : (label : List ℕ) → Passes of_word (label_text label)
label_passes label = both_pass of_word (flat_map octet_text label) (46 ∷ []) (each_passes of_word octet_text octet_text-passes label) (λ more. refl)

pub name_passes : (name : List (List ℕ)) → Passes of_word (text_of name)
name_passes [] = λ more. refl
name_passes (label ∷ name) = each_passes of_word label_text label_passes (label ∷ name)

-- an octet of a string
quote_no_end : (c : ℕ) → (c == 34 || c == 92) ≡ true → ((c == 10) ≡ false) × ((c == 13) ≡ false)
quote_no_end c e = (grind (arith, nat_tests), grind (arith, nat_tests))

inner_passes : (c : ℕ) → (nat_lt c 32 || nat_lt 126 c) ≡ false → (c == 34 || c == 92) ≡ false → Passes of_string (c ∷ [])
inner_passes c inside e = octet_passes of_string c (grind (arith, nat_tests)) (grind (arith, nat_tests)) (grind (arith, nat_tests)) (grind (arith, nat_tests))

pub string_octet-passes : (c : ℕ) → Passes of_string (string_octet c)
string_octet-passes c =
    by_test (λ b. Passes of_string (cond b (92 ∷ digits_of c) (cond (c == 34 || c == 92) (92 ∷ c ∷ []) (c ∷ [])))) (nat_lt c 32 || nat_lt 126 c) (λ _. digits_pass of_string c)
    (λ inside. by_test (λ b. Passes of_string (cond b (92 ∷ c ∷ []) (c ∷ []))) (c == 34 || c == 92)
    (λ e. escaped_passes of_string c (quote_no_end c e).0 (quote_no_end c e).1)
    (λ e. inner_passes c inside e))

-- digits
a_digit_passes : (c : ℕ) → digit_value c < 16 → Passes of_word (c ∷ [])
a_digit_passes c h = octet_passes of_word c (grind (arith, nat_tests)) (grind (arith, nat_tests)) (grind (arith, nat_tests)) (grind (arith, nat_tests))

all_digits_pass : (radix : ℕ) (text : List ℕ) → radix ≤ 16 → AllDigits radix text → Passes of_word text
all_digits_pass radix [] small h = λ more. refl
all_digits_pass radix (c ∷ text) small h =
    let first = h.0 in
    both_pass of_word (c ∷ []) text (a_digit_passes c (omega arith)) (all_digits_pass radix text small h.1)

pub decimal_passes : (n : ℕ) → n < 2 ^ 64 → Passes of_word (decimal n)
decimal_passes n h = all_digits_pass 10 (decimal n) (omega arith) (decimal_is_IsNumeral n h).0.1

small_group : (n : ℕ) → n < 65536 → n < 16 ^ 64
small_group n h = omega arith

pub group_passes : (n : ℕ) → n < 65536 → Passes of_word (group_text n)
group_passes n h = all_digits_pass 16 (group_text n) (omega arith) (digits_is_IsNumeral 16 false (omega arith) (omega arith) n (small_group n h)).0.1

pub group_some : (n : ℕ) → n < 65536 → 0 < length (group_text n)
group_some n h = (digits_is_IsNumeral 16 false (omega arith) (omega arith) n (small_group n h)).0.0

-- words that are written are spelt
abbrev pub AreSpelt : List Written → Type 0
AreSpelt words = list_all is_spelt words ≡ true

pub first_spelt : (word : Written) (words : List Written) → is_spelt word ≡ true → AreSpelt words → AreSpelt (word ∷ words)
first_spelt word words e h = rw (e, h) refl

string_spelt : (string : List ℕ) → is_spelt (Quoted (flat_map string_octet string)) ≡ true
string_spelt string = ap (is_run of_string false) (sym (append-nil (flat_map string_octet string))) ∙ each_passes of_string string_octet string_octet-passes string []

strings_spelt : (strings : List (List ℕ)) → AreSpelt (map (λ string. Quoted (flat_map string_octet string)) strings)
strings_spelt [] = refl
strings_spelt (string ∷ strings) = first_spelt (Quoted (flat_map string_octet string)) (map (λ (s : List ℕ). Quoted (flat_map string_octet s)) strings) (string_spelt string) (strings_spelt strings)

colon_passes : Passes of_word (58 ∷ [])
colon_passes = λ more. refl

dot_passes : Passes of_word (46 ∷ [])
dot_passes = λ more. refl

some_front : (xs ys : List ℕ) → 0 < length xs → 0 < length (xs ++ ys)
some_front [] ys h = absurd (omega arith)
some_front (x ∷ xs) ys h = omega arith

some_back : (xs ys : List ℕ) → 0 < length ys → 0 < length (xs ++ ys)
some_back [] ys h = h
some_back (x ∷ xs) ys h = omega arith

-- whether the word of a field is spelt, where there is one
abbrev SpeltWord : Option (List ℕ × ℕ) → Type 0
SpeltWord None = Unit {0}
SpeltWord (Some word) = is_spelt (Plain word.0) ≡ true

-- a name
name_some : (name : List (List ℕ)) → 0 < length (text_of name)
name_some [] = omega arith
name_some (label ∷ name) = some_front (label_text label) (flat_map label_text name) (some_back (flat_map octet_text label) (46 ∷ []) (omega arith))

pub name_spelt : (name : List (List ℕ)) → is_spelt (Plain (text_of name)) ≡ true
name_spelt name = spelt_plain (text_of name) (name_some name) (name_passes name)

-- numbers
pub decimal_spelt : (n : ℕ) → n < 2 ^ 64 → is_spelt (Plain (decimal n)) ≡ true
decimal_spelt n h = spelt_plain (decimal n) (decimal_is_IsNumeral n h).0.0 (decimal_passes n h)

dotted_spelt : (a b c d : ℕ) → a < 256 → b < 256 → c < 256 → d < 256 → is_spelt (Plain (dotted_text a b c d)) ≡ true
dotted_spelt a b c d ha hb hc hd =
    let pa = decimal_passes a (omega arith) in
    let pb = decimal_passes b (omega arith) in
    let pc = decimal_passes c (omega arith) in
    let pd = decimal_passes d (omega arith) in
    let dot : List ℕ = 46 ∷ [] in
    let front = both_pass of_word (decimal a ++ dot) (decimal b) (both_pass of_word (decimal a) dot pa dot_passes) pb in
    let more = both_pass of_word (decimal a ++ dot ++ decimal b ++ dot) (decimal c) (both_pass of_word (decimal a ++ dot ++ decimal b) dot front dot_passes) pc in
    let all = both_pass of_word (decimal a ++ dot ++ decimal b ++ dot ++ decimal c ++ dot) (decimal d) (both_pass of_word (decimal a ++ dot ++ decimal b ++ dot ++ decimal c) dot more dot_passes) pd in
    let some = some_back (decimal a ++ dot ++ decimal b ++ dot ++ decimal c ++ dot) (decimal d) (decimal_is_IsNumeral d (omega arith)).0.0 in
    spelt_plain (dotted_text a b c d) some all

-- groups
groups_pass : (groups : List ℕ) → All (λ n. n < 65536) groups → Passes of_word (flat_map (λ next. 58 ∷ group_text next) groups)
groups_pass [] h = λ more. refl
groups_pass (n ∷ groups) h =
    both_pass of_word (58 ∷ group_text n) (flat_map (λ (next : ℕ). 58 ∷ group_text next) groups)
    (both_pass of_word (58 ∷ []) (group_text n) colon_passes (group_passes n (All-head (λ (x : ℕ). x < 65536) n groups h)))
    (groups_pass groups (All-tail (λ (x : ℕ). x < 65536) n groups h))

pub segments_small : (octets : List ℕ) → AreOctets octets → All (λ n. n < 65536) (segments_of octets)
segments_small [] h = All-nil (λ (n : ℕ). n < 65536)
segments_small (a ∷ []) h = All-nil (λ (n : ℕ). n < 65536)
segments_small (a ∷ b ∷ octets) h =
    let tail = All-tail (λ (x : ℕ). x < 256) a (b ∷ octets) h in
    let high = All-head (λ (x : ℕ). x < 256) a (b ∷ octets) h in
    let low = All-head (λ (x : ℕ). x < 256) b octets tail in
    All-cons (λ (n : ℕ). n < 65536) (a * 256 + b) (segments_of octets) (omega arith) (segments_small octets (All-tail (λ (x : ℕ). x < 256) b octets tail))

groups_spelt : (a b : ℕ) (octets : List ℕ) → AreOctets (a ∷ b ∷ octets) → is_spelt (Plain (groups_text (segments_of (a ∷ b ∷ octets)))) ≡ true
groups_spelt a b octets h =
    let small = segments_small (a ∷ b ∷ octets) h in
    let n = a * 256 + b in
    let fits = All-head (λ (x : ℕ). x < 65536) n (segments_of octets) small in
    let behind = flat_map (λ (next : ℕ). 58 ∷ group_text next) (segments_of octets) in
    spelt_plain (group_text n ++ behind) (some_front (group_text n) behind (group_some n fits))
    (both_pass of_word (group_text n) behind (group_passes n fits) (groups_pass (segments_of octets) (All-tail (λ (x : ℕ). x < 65536) n (segments_of octets) small)))

-- fields
name_word : (name : Option (List (List ℕ))) → SpeltWord (option_map (λ (n : List (List ℕ)). (text_of n, length (wire_of n))) name)
name_word None = tt
name_word (Some name) = name_spelt name

address6_word : (long : Bool) (a b : ℕ) (octets : List ℕ) → AreOctets (a ∷ b ∷ octets) → SpeltWord (cond long (Some (groups_text (segments_of (take 16 (a ∷ b ∷ octets))), 16)) None)
address6_word true a b octets h = groups_spelt a b (take 14 octets) (All-take (λ (x : ℕ). x < 256) 16 (a ∷ b ∷ octets) h)
address6_word false a b octets h = tt

word_spelt : (f : Field) (octets : List ℕ) → AreOctets octets → SpeltWord (word_at f octets)
unfolding word_at
word_spelt field.Address (a ∷ b ∷ c ∷ d ∷ octets) h =
    let small = λ (i : ℕ) (l : i < length (a ∷ b ∷ c ∷ d ∷ octets)). All-get_or (λ (x : ℕ). x < 256) (a ∷ b ∷ c ∷ d ∷ octets) i 0 l h in
    dotted_spelt a b c d (small 0 (omega arith)) (small 1 (omega arith)) (small 2 (omega arith)) (small 3 (omega arith))
word_spelt field.Address [] h = tt
word_spelt field.Address (a ∷ []) h = tt
word_spelt field.Address (a ∷ b ∷ []) h = tt
word_spelt field.Address (a ∷ b ∷ c ∷ []) h = tt
word_spelt field.Address6 [] h = tt
word_spelt field.Address6 (a ∷ []) h = tt
word_spelt field.Address6 (a ∷ b ∷ octets) h = address6_word (nat_le 16 (length (a ∷ b ∷ octets))) a b octets h
word_spelt field.Name octets h = name_word (name_in octets)
word_spelt field.Short [] h = tt
word_spelt field.Short (a ∷ []) h = tt
word_spelt field.Short (a ∷ b ∷ octets) h =
    let first = All-head (λ (x : ℕ). x < 256) a (b ∷ octets) h in
    let second = All-head (λ (x : ℕ). x < 256) b octets (All-tail (λ (x : ℕ). x < 256) a (b ∷ octets) h) in
    decimal_spelt (from_be_bytes w16 (a ∷ b ∷ [])) (omega arith)
word_spelt field.Long (a ∷ b ∷ c ∷ d ∷ octets) h =
    let small = λ (i : ℕ) (l : i < length (a ∷ b ∷ c ∷ d ∷ octets)). All-get_or (λ (x : ℕ). x < 256) (a ∷ b ∷ c ∷ d ∷ octets) i 0 l h in
    let ha : a < 256 = small 0 (omega arith) in
    let hb : b < 256 = small 1 (omega arith) in
    let hc : c < 256 = small 2 (omega arith) in
    let hd : d < 256 = small 3 (omega arith) in
    decimal_spelt (from_be_bytes w32 (a ∷ b ∷ c ∷ d ∷ [])) (omega arith)
word_spelt field.Long [] h = tt
word_spelt field.Long (a ∷ []) h = tt
word_spelt field.Long (a ∷ b ∷ []) h = tt
word_spelt field.Long (a ∷ b ∷ c ∷ []) h = tt

behind_spelt : (word : Option (List ℕ × ℕ)) (behind : ℕ → List Written) → SpeltWord word → ((n : ℕ) → AreSpelt (behind n)) → AreSpelt (elim word [ None ↦ [] | Some w ↦ Plain w.0 ∷ behind w.1 ])
behind_spelt None behind h k = refl
behind_spelt (Some word) behind h k = first_spelt (Plain word.0) (behind word.1) h (k word.1)

fields_spelt : (fields : List Field) (octets : List ℕ) → AreOctets octets → AreSpelt (words_at fields octets)
fields_spelt [] octets h = refl
fields_spelt (f ∷ fields) octets h =
    behind_spelt (word_at f octets) (λ (n : ℕ). words_at fields (drop n octets)) (word_spelt f octets h) (λ n. fields_spelt fields (drop n octets) (All-drop (λ (x : ℕ). x < 256) n octets h))

-- octets behind `\#`
hex_spelt : (octets : List ℕ) → AreOctets octets → AreSpelt (hex_words octets)
unfolding encode_with
hex_spelt [] h = refl
hex_spelt (octet ∷ octets) h = first_spelt (Plain (encode_lower (octet ∷ octets))) [] (spelt_plain (encode_lower (octet ∷ octets)) (omega arith) (octets_pass (octet ∷ octets) h)) refl

generic_spelt : (octets : List ℕ) → AreOctets octets → AreSpelt (generic_words octets)
generic_spelt octets h =
    let size = length octets in
    first_spelt (Plain generic_mark) (Plain (decimal size) ∷ hex_words octets) refl
    (first_spelt (Plain (decimal size)) (hex_words octets) (spelt_plain (decimal size) (decimal_some size) (all_digits_pass 10 (decimal size) (omega arith) (decimal_digits size))) (hex_spelt octets h))

form_spelt : (form : Option (List Field)) (octets : List ℕ) → AreOctets octets → AreSpelt (elim form [ None ↦ generic_words octets | Some fields ↦ words_at fields octets ])
form_spelt None octets h = generic_spelt octets h
form_spelt (Some fields) octets h = fields_spelt fields octets h

pub words_spelt : (rtype : ℕ) (octets : List ℕ) → AreOctets octets → AreSpelt (words_of rtype octets)
unfolding words_of
words_spelt rtype octets h =
    by_test (λ b. AreSpelt (cond b (map (λ (string : List ℕ). Quoted (flat_map string_octet string)) (strings_in 0 octets)) (elim (form_of rtype) [ None ↦ generic_words octets | Some fields ↦ words_at fields octets ]))) (rtype == 16)
    (λ _. strings_spelt (strings_in 0 octets)) (λ _. form_spelt (form_of rtype) octets h)

-- the type
at_type : (rtype n : ℕ) → is_spelt (Plain (type_word n)) ≡ true → (rtype == n) ≡ true → is_spelt (Plain (type_word rtype)) ≡ true
at_type rtype n h e = ap (λ (t : ℕ). is_spelt (Plain (type_word t))) ((Decides-eqb rtype n).0 e) ∙ h

type_passes : Passes of_word (codes "TYPE")
type_passes = λ more. refl

numbered_spelt : (rtype : ℕ) → IsNumbered rtype → is_spelt (Plain (type_word rtype)) ≡ true
numbered_spelt rtype n =
    ap (λ (text : List ℕ). is_spelt (Plain text)) (word_numbered rtype n)
    ∙ spelt_plain (codes "TYPE" ++ decimal rtype) (some_front (codes "TYPE") (decimal rtype) (omega arith)) (both_pass of_word (codes "TYPE") (decimal rtype) type_passes (all_digits_pass 10 (decimal rtype) (omega arith) (decimal_digits rtype)))

pub type_spelt : (rtype : ℕ) → is_spelt (Plain (type_word rtype)) ≡ true
unfolding type_word
type_spelt rtype =
    let P : Type 0 = is_spelt (Plain (type_word rtype)) ≡ true in
    by_word P rtype (at_type rtype 1 refl) (at_type rtype 2 refl) (at_type rtype 5 refl) (at_type rtype 6 refl) (at_type rtype 12 refl) (at_type rtype 15 refl) (at_type rtype 16 refl) (at_type rtype 28 refl) (at_type rtype 33 refl) (numbered_spelt rtype)
