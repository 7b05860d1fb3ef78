-- What words of octets are read as is of octets.
use Rattle.std.proofs.Common.{◌≡◌, refl, sym, subst, ℕ, zero, suc, ◌-◌, ◌/◌, ◌%◌, ◌^◌, ◌<◌, ◌≤◌, inl, inr, Bool, true, false, cond, not, ◌&&◌, ◌==◌, nat_lt, nat_le, List, [], ◌∷◌, ◌++◌, length, drop, codes, bytes_eq, All, Option, Some, None, Result, Ok, Err, ok_or, option_map, arith, true≢false, lit≤}
use Rattle.std.specs.Prelude.{option_and_then, replicate, IfSome}
use Rattle.std.specs.Option.{is_some}
use Rattle.std.specs.Int.{to_be_bytes, w16, w32}
use Rattle.std.specs.Net.Addr.{octets_of}
use Rattle.std.specs.Net.Grammar.{IsDotted, IsGroup, IsGroupsAfter, IsElided, IsColonHex}
use Rattle.std.proofs.lemmas.Bool.Decides.{nat_tests}
use Rattle.std.proofs.lemmas.Int.Digits.{digits_value-lt}
use Rattle.std.proofs.lemmas.List.Elements.{All-nil, All-cons, All-head, All-tail, All-append}
use Rattle.hex.specs.Hex.{decode_of}
use Rattle.hex.specs.declared.error.FromHexError.{FromHexError}
use Rattle.dns_name.specs.Name.{wire_of, IsLabel}
use Rattle.dns_name.specs.Text.{octet_at, name_of_text}
use Rattle.dns_name.specs.declared.text.NameFault.{NameFault}
use Rattle.dns_name.proofs.NamedLemmas.{IsNamed, text_is_named, octet_small}
use Rattle.dns_rdata.specs.Data.{data_of}
use Rattle.dns_rdata.specs.declared.numbers.Ttl.{Ttl}
use Rattle.dns_rdata.proofs.DataLemmas.{data_octets}
use Rattle.zone_lexing.specs.Word.{Written}
use Rattle.zone_lexing.specs.Word.Written.{Plain, Quoted, Unclosed}
use Rattle.zone_lexing.proofs.OctetLemmas.{IsOfOctets, AreOfOctets}
use Rattle.record_text.specs.declared.cause.Cause.{Cause}
use Rattle.record_text.specs.declared.cause.Cause.TheVariants.{BadName, BadData, Number, Limit}
use Rattle.record_text.specs.declared.data.Field.{Field}
use Rattle.record_text.specs.declared.data.Field.TheVariants as field
use Rattle.record_text.specs.declared.front.Mark.{Mark}
use Rattle.record_text.specs.declared.front.Mark.TheVariants as mark
use Rattle.record_text.specs.Address.{dotted, colon_hex, address_of, address6_of}
use Rattle.record_text.specs.Data.{field_of, unmarked_of, fields_of, form_of, text_of, octets_of_words, as_data, as_own_data, data_of_words}
use Rattle.record_text.specs.Generic.{are_generic, size_of, hex_of, hexes_of, generic_of}
use Rattle.record_text.specs.Front.{Front, ttl_of, type_mark, mark_of, front_from, front_of}
use Rattle.record_text.specs.Private.{IsLasting}
use Rattle.record_text.specs.Mnemonics.{class_of, type_of}
use Rattle.record_text.specs.NameWord.{name_named, name_of, owner_of}
use Rattle.record_text.specs.Number.{are_digits, value_of, decimal_of, number_of, is_number}
use Rattle.record_text.specs.Reading.{on_ok, and_then}
use Rattle.record_text.specs.Strings.{unescaped_behind, unescaped, counted, string_in, string_of, strings_of}
use Rattle.record_text.proofs.AddressLemmas.{dotted-IsDotted, colon_hex-IsColonHex}
use Rattle.record_text.proofs.BackLemmas.{AreOctets}
use Rattle.record_text.proofs.GenericLemmas.{DecodesOctets, decode_octets}
use Rattle.record_text.proofs.SpeltLemmas.{segments_small}

-- what is read is of octets
abbrev pub GivesOctets : Result (List ℕ) Cause → Type 0
GivesOctets (Ok octets) = AreOctets octets
GivesOctets (Err cause) = Unit {0}

then_gives : (r : Result (List ℕ) Cause) (f : List ℕ → Result (List ℕ) Cause) → GivesOctets r → ((octets : List ℕ) → AreOctets octets → GivesOctets (f octets)) → GivesOctets (and_then r f)
then_gives (Ok octets) f h k = k octets h
then_gives (Err cause) f h k = tt

front_gives : (front : List ℕ) (r : Result (List ℕ) Cause) → AreOctets front → GivesOctets r → GivesOctets (on_ok (λ rest. front ++ rest) r)
front_gives front (Ok rest) h k = All-append (λ c. c < 256) front rest h k
front_gives front (Err cause) h k = tt

-- addresses
dotted_gives : (o : Option (List ℕ)) → ((octets : List ℕ) → o ≡ Some octets → AreOctets octets) → GivesOctets (ok_or o BadData)
dotted_gives None h = tt
dotted_gives (Some octets) h = h octets refl

four : (a b c d : ℕ) → a < 256 → b < 256 → c < 256 → d < 256 → AreOctets (a ∷ b ∷ c ∷ d ∷ [])
four a b c d ha hb hc hd = All-cons (λ x. x < 256) a (b ∷ c ∷ d ∷ []) ha (All-cons (λ x. x < 256) b (c ∷ d ∷ []) hb (All-cons (λ x. x < 256) c (d ∷ []) hc (All-cons (λ x. x < 256) d [] hd (All-nil (λ x. x < 256)))))

dotted_octets : (text octets : List ℕ) → IsDotted text octets → AreOctets octets
dotted_octets text octets h = subst (λ (os : List ℕ). AreOctets os) (sym h.value) (four h.a h.b h.c h.d h.fit.0 h.fit.1 h.fit.2 h.fit.3)

power_small : (k : ℕ) → k ≤ 4 → 16 ^ k ≤ 65536
power_small zero h = lit≤ tt
power_small (suc zero) h = lit≤ tt
power_small (suc (suc zero)) h = lit≤ tt
power_small (suc (suc (suc zero))) h = lit≤ tt
power_small (suc (suc (suc (suc zero)))) h = lit≤ tt
power_small (suc (suc (suc (suc (suc k))))) h = absurd (omega arith)

group_small : (text : List ℕ) (s : ℕ) → IsGroup text s → s < 65536
group_small text s h =
    let below = digits_value-lt 16 text h.0.0.1 in
    let few = power_small (length text) h.1 in
    let same = h.0.1 in
    omega arith

groups_small : (ipv4 : Bool) (lead text groups : List ℕ) → IsGroupsAfter ipv4 lead text groups → All (λ n. n < 65536) groups
groups_small ipv4 lead text [] h = All-nil (λ n. n < 65536)
groups_small ipv4 lead text (s ∷ groups) (inl g) = All-cons (λ n. n < 65536) s groups (group_small g.0 s g.3) (groups_small ipv4 (codes ":") g.1 groups g.4)
groups_small ipv4 lead text (s ∷ groups) (inr g) = subst (λ (ns : List ℕ). All (λ n. n < 65536) ns) (sym g.5) (segments_small g.1 (dotted_octets g.0 g.1 g.4))

zeros_small : (n : ℕ) → All (λ m. m < 65536) (replicate n 0)
zeros_small zero = All-nil (λ m. m < 65536)
zeros_small (suc n) = All-cons (λ m. m < 65536) 0 (replicate n 0) (omega arith) (zeros_small n)

elided_small : (text groups : List ℕ) → IsElided text groups → All (λ n. n < 65536) groups
elided_small text groups h =
    let zeros = replicate (8 - length h.head - length h.tail) 0 in
    subst (λ (ns : List ℕ). All (λ n. n < 65536) ns) (sym h.value)
    (All-append (λ n. n < 65536) (h.head ++ zeros) h.tail (All-append (λ n. n < 65536) h.head zeros (groups_small false [] h.head_text h.head h.head_groups) (zeros_small (8 - length h.head - length h.tail))) (groups_small true [] h.tail_text h.tail h.tail_groups))

colon_small : (text groups : List ℕ) → IsColonHex text groups → All (λ n. n < 65536) groups
colon_small text groups (inl h) = groups_small true [] text groups h.0
colon_small text groups (inr h) = elided_small text groups h

pairs_small : (groups : List ℕ) → All (λ n. n < 65536) groups → AreOctets (octets_of groups)
pairs_small [] h = All-nil (λ c. c < 256)
pairs_small (s ∷ groups) h =
    let small = All-head (λ n. n < 65536) s groups h in
    All-cons (λ c. c < 256) (s / 256) ((s % 256) ∷ octets_of groups) (omega arith) (All-cons (λ c. c < 256) (s % 256) (octets_of groups) (omega arith) (pairs_small groups (All-tail (λ n. n < 65536) s groups h)))

address_gives : (word : Written) → GivesOctets (address_of word)
address_gives (Plain text) = dotted_gives (dotted text) (λ octets e. dotted_octets text octets (dotted-IsDotted text octets e))
address_gives (Quoted text) = tt
address_gives Unclosed = tt

address6_gives : (word : Written) → GivesOctets (address6_of word)
address6_gives (Plain text) = dotted_gives (colon_hex text) (λ octets e. let is = colon_hex-IsColonHex text octets e in subst (λ (os : List ℕ). AreOctets os) (sym is.2) (pairs_small is.0 (colon_small text is.0 is.1)))
address6_gives (Quoted text) = tt
address6_gives Unclosed = tt

-- names
abbrev pub GivesName : Result (List (List ℕ)) Cause → Type 0
GivesName (Ok name) = IsNamed name
GivesName (Err cause) = Unit {0}

named_gives : (r : Result (List (List ℕ)) NameFault) → ((name : List (List ℕ)) → r ≡ Ok name → IsNamed name) → GivesName (elim r as (λ _. Result (List (List ℕ)) Cause) [ Ok name ↦ Ok name | Err fault ↦ Err BadName ])
named_gives (Ok name) h = h name refl
named_gives (Err fault) h = tt

text_gives : (text : List ℕ) (origin : List (List ℕ)) → AreOctets text → IsNamed origin → GivesName (name_named text origin)
unfolding name_named
text_gives text origin h k = named_gives (name_of_text text origin) (λ name e. text_is_named text origin name h k e)

pub name_gives : (origin : List (List ℕ)) (word : Written) → IsNamed origin → IsOfOctets word → GivesName (name_of origin word)
name_gives origin (Plain text) h k = text_gives text origin k h
name_gives origin (Quoted text) h k = tt
name_gives origin Unclosed h k = tt

pub owner_gives : (origin : List (List ℕ)) (word : Written) → IsNamed origin → IsOfOctets word → GivesName (owner_of origin word)
owner_gives origin (Plain text) h k = text_gives text origin k h
owner_gives origin (Quoted text) h k = tt
owner_gives origin Unclosed h k = tt

wire_small : (name : List (List ℕ)) → All IsLabel name → All AreOctets name → AreOctets (wire_of name)
wire_small [] h k = All-cons (λ c. c < 256) 0 [] (omega arith) (All-nil (λ c. c < 256))
wire_small (label ∷ name) h k =
    let is = All-head IsLabel label name h in
    let short = is.short in
    All-cons (λ c. c < 256) (length label) (label ++ wire_of name) (omega arith)
    (All-append (λ c. c < 256) label (wire_of name) (All-head AreOctets label name k) (wire_small name (All-tail IsLabel label name h) (All-tail AreOctets label name k)))

wire_gives : (r : Result (List (List ℕ)) Cause) → GivesName r → GivesOctets (on_ok wire_of r)
wire_gives (Ok name) h = wire_small name h.is.labels h.octets
wire_gives (Err cause) h = tt

-- numbers
short_gives : (r : Result ℕ Cause) → GivesOctets (on_ok (to_be_bytes w16) r)
short_gives (Ok n) = All-cons (λ c. c < 256) (n / 256 ^ 1 % 256) ((n % 256) ∷ []) (omega arith) (All-cons (λ c. c < 256) (n % 256) [] (omega arith) (All-nil (λ c. c < 256)))
short_gives (Err cause) = tt

long_gives : (r : Result ℕ Cause) → GivesOctets (on_ok (to_be_bytes w32) r)
long_gives (Ok n) = four (n / 256 ^ 3 % 256) (n / 256 ^ 2 % 256) (n / 256 ^ 1 % 256) (n % 256) (omega arith) (omega arith) (omega arith) (omega arith)
long_gives (Err cause) = tt

-- strings
abbrev HasOctets : Option (List ℕ) → Type 0
HasOctets None = Unit {0}
HasOctets (Some octets) = AreOctets octets

more_octets : (o : Option (ℕ × ℕ)) (more : ℕ → Option (List ℕ)) → ((c n : ℕ) → o ≡ Some (c, n) → c < 256) → ((n : ℕ) → HasOctets (more n)) → HasOctets (option_and_then (λ spelt. option_map (λ octets. spelt.0 ∷ octets) (more spelt.1)) o)
more_octets None more h k = tt
more_octets (Some spelt) more h k = in_front (more spelt.1) (k spelt.1)
  where
    in_front : (os : Option (List ℕ)) → HasOctets os → HasOctets (option_map (λ octets. spelt.0 ∷ octets) os)
    in_front None j = tt
    in_front (Some octets) j = All-cons (λ c. c < 256) spelt.0 octets (h spelt.0 spelt.1 refl) j

unescaped_octets : (k : ℕ) (text : List ℕ) → AreOctets text → HasOctets (unescaped_behind k text)
unescaped_octets k [] h = All-nil (λ c. c < 256)
unescaped_octets zero (c ∷ text) h =
    more_octets (octet_at (c ∷ text)) (λ n. unescaped_behind (n - 1) text) (λ d n e. octet_small (c ∷ text) d n h e) (λ n. unescaped_octets (n - 1) text (All-tail (λ x. x < 256) c text h))
unescaped_octets (suc k) (c ∷ text) h = unescaped_octets k text (All-tail (λ x. x < 256) c text h)

counted_by : (b : Bool) (octets : List ℕ) → nat_le (length octets) 255 ≡ b → AreOctets octets → GivesOctets (cond b (Ok (length octets ∷ octets)) (Err BadData))
counted_by true octets e h = All-cons (λ c. c < 256) (length octets) octets (grind (arith, nat_tests)) h
counted_by false octets e h = tt

string_by : (o : Option (List ℕ)) → HasOctets o → GivesOctets (elim o as (λ _. Result (List ℕ) Cause) [ None ↦ Err BadData | Some octets ↦ counted octets ])
string_by None h = tt
string_by (Some octets) h = counted_by (nat_le (length octets) 255) octets refl h

string_gives : (text : List ℕ) → AreOctets text → GivesOctets (string_in text)
unfolding string_in unescaped
string_gives text h = string_by (unescaped_behind 0 text) (unescaped_octets 0 text h)

word_gives : (word : Written) → IsOfOctets word → GivesOctets (string_of word)
word_gives (Plain text) h = string_gives text h
word_gives (Quoted text) h = string_gives text h
word_gives Unclosed h = tt

strings_gives : (words : List Written) → AreOfOctets words → GivesOctets (strings_of words)
strings_gives [] h = All-nil (λ c. c < 256)
strings_gives (word ∷ words) h = then_gives (string_of word) (λ front. on_ok (λ rest. front ++ rest) (strings_of words)) (word_gives word h.0) (λ front k. front_gives front (strings_of words) k (strings_gives words h.1))

text_of_gives : (words : List Written) → AreOfOctets words → GivesOctets (text_of words)
text_of_gives [] h = tt
text_of_gives (word ∷ words) h = strings_gives (word ∷ words) h

-- data
field_gives : (origin : List (List ℕ)) (f : Field) (word : Written) → IsNamed origin → IsOfOctets word → GivesOctets (field_of origin f word)
field_gives origin field.Address word h k = address_gives word
field_gives origin field.Address6 word h k = address6_gives word
field_gives origin field.Name word h k = wire_gives (name_of origin word) (name_gives origin word h k)
field_gives origin field.Short word h k = short_gives (number_of 65535 word)
field_gives origin field.Long word h k = long_gives (number_of 4294967295 word)

fields_gives : (origin : List (List ℕ)) (fields : List Field) (words : List Written) → IsNamed origin → AreOfOctets words → GivesOctets (fields_of origin fields words)
fields_gives origin [] [] h k = All-nil (λ c. c < 256)
fields_gives origin [] (word ∷ words) h k = tt
fields_gives origin (f ∷ fields) [] h k = tt
fields_gives origin (f ∷ fields) (word ∷ words) h k =
    then_gives (field_of origin f word) (λ front. on_ok (λ rest. front ++ rest) (fields_of origin fields words)) (field_gives origin f word h k.0) (λ front j. front_gives front (fields_of origin fields words) j (fields_gives origin fields words h k.1))

form_gives : (form : Option (List Field)) (origin : List (List ℕ)) (words : List Written) → IsNamed origin → AreOfOctets words → GivesOctets (elim form as (λ _. Result (List ℕ) Cause) [ None ↦ Err (unmarked_of words) | Some fields ↦ fields_of origin fields words ])
form_gives None origin words h k = tt
form_gives (Some fields) origin words h k = fields_gives origin fields words h k

either_gives : (b : Bool) (r s : Result (List ℕ) Cause) → GivesOctets r → GivesOctets s → GivesOctets (cond b r s)
either_gives true r s h k = h
either_gives false r s h k = k

words_give : (rtype : ℕ) (origin : List (List ℕ)) (words : List Written) → IsNamed origin → AreOfOctets words → GivesOctets (octets_of_words rtype origin words)
unfolding octets_of_words
words_give rtype origin words h k = either_gives (rtype == 16) (text_of words) (elim (form_of rtype) as (λ _. Result (List ℕ) Cause) [ None ↦ Err (unmarked_of words) | Some fields ↦ fields_of origin fields words ]) (text_of_gives words k) (form_gives (form_of rtype) origin words h k)

own_gives : (o : Option (List ℕ)) (b : Bool) → ((own : List ℕ) → o ≡ Some own → AreOctets own) → GivesOctets (elim o as (λ _. Result (List ℕ) Cause) [ None ↦ Err BadData | Some own ↦ cond b (Err Limit) (Ok own) ])
own_gives None b h = tt
own_gives (Some own) true h = tt
own_gives (Some own) false h = h own refl

as_gives : (rtype : ℕ) (octets : List ℕ) → AreOctets octets → GivesOctets (as_data rtype octets)
unfolding as_data
as_gives rtype octets h = own_gives (data_of rtype octets) (nat_lt 4096 (length octets)) (λ own e. data_octets rtype octets own e h)

-- octets behind `\#`
decoded_gives : (r : Result (List ℕ) FromHexError) → DecodesOctets r → GivesOctets (elim r as (λ _. Result (List ℕ) Cause) [ Ok octets ↦ Ok octets | Err fault ↦ Err BadData ])
decoded_gives (Ok octets) h = h
decoded_gives (Err fault) h = tt

hex_gives : (word : Written) → GivesOctets (hex_of word)
hex_gives (Plain text) = decoded_gives (decode_of text) (decode_octets text)
hex_gives (Quoted text) = tt
hex_gives Unclosed = tt

hexes_give : (words : List Written) → GivesOctets (hexes_of words)
hexes_give [] = All-nil (λ c. c < 256)
hexes_give (word ∷ words) = then_gives (hex_of word) (λ front. on_ok (λ rest. front ++ rest) (hexes_of words)) (hex_gives word) (λ front k. front_gives front (hexes_of words) k (hexes_give words))

sized_gives : (r : Result ℕ Cause) (f : ℕ → Result (List ℕ) Cause) → ((size : ℕ) → GivesOctets (f size)) → GivesOctets (and_then r f)
sized_gives (Ok size) f h = h size
sized_gives (Err cause) f h = tt

generic_gives : (words : List Written) → GivesOctets (generic_of words)
unfolding generic_of
generic_gives [] = tt
generic_gives (word ∷ words) =
    sized_gives (size_of word) (λ size. and_then (hexes_of words) (λ octets. cond (length octets == size) (Ok octets) (Err BadData))) (λ size.
    then_gives (hexes_of words) (λ octets. cond (length octets == size) (Ok octets) (Err BadData)) (hexes_give words) (λ octets k.
    either_gives (length octets == size) (Ok octets) (Err BadData) k tt))

same_gives : (o : Option (List ℕ)) (octets : List ℕ) → ((own : List ℕ) → o ≡ Some own → AreOctets own) → GivesOctets (elim o as (λ _. Result (List ℕ) Cause) [ None ↦ Err BadData | Some own ↦ cond (bytes_eq own octets) (Ok own) (Err BadData) ])
same_gives None octets h = tt
same_gives (Some own) octets h = either_gives (bytes_eq own octets) (Ok own) (Err BadData) (h own refl) tt

own_data_gives : (rtype : ℕ) (octets : List ℕ) → AreOctets octets → GivesOctets (as_own_data rtype octets)
unfolding as_own_data
own_data_gives rtype octets h = same_gives (data_of rtype octets) octets (λ own e. data_octets rtype octets own e h)

pub data_gives : (rtype : ℕ) (origin : List (List ℕ)) (words : List Written) → IsNamed origin → AreOfOctets words → GivesOctets (data_of_words rtype origin words)
data_gives rtype origin words h k =
    either_gives (are_generic words) (and_then (generic_of (drop 1 words)) (as_own_data rtype)) (and_then (octets_of_words rtype origin words) (as_data rtype))
    (then_gives (generic_of (drop 1 words)) (as_own_data rtype) (generic_gives (drop 1 words)) (λ octets j. own_data_gives rtype octets j))
    (then_gives (octets_of_words rtype origin words) (as_data rtype) (words_give rtype origin words h k) (λ octets j. as_gives rtype octets j))

-- what stands in front of the data
abbrev pub GivesTtl : Result Ttl Cause → Type 0
GivesTtl (Ok ttl) = ttl.0 < 2 ^ 31
GivesTtl (Err cause) = Unit {0}

decimal_by : (b : Bool) (n : ℕ) → (b ≡ true → n < 2 ^ 31) → GivesTtl (on_ok (λ (seconds : ℕ). record { 0 = seconds }) (ok_or (cond b (Some n) None) Number))
decimal_by true n h = h refl
decimal_by false n h = tt

last_true : (a b : Bool) → (a && b) ≡ true → b ≡ true
last_true true b e = e
last_true false b e = absurd (true≢false (sym e))

below : (n : ℕ) → nat_le n 2147483647 ≡ true → n < 2 ^ 31
below n e = grind (arith, nat_tests)

pub ttl_gives : (word : Written) → GivesTtl (ttl_of word)
unfolding decimal_of
ttl_gives (Plain text) = decimal_by (are_digits text && nat_le (value_of text) 2147483647) (value_of text) (λ e. below (value_of text) (last_true (are_digits text) (nat_le (value_of text) 2147483647) e))
ttl_gives (Quoted text) = tt
ttl_gives Unclosed = tt

abbrev GivesMark : Result Mark Cause → Type 0
GivesMark (Ok m) = IsLasting m
GivesMark (Err cause) = Unit {0}

ttl_mark : (r : Result Ttl Cause) → GivesTtl r → GivesMark (on_ok mark.Ttl r)
ttl_mark (Ok ttl) h = h
ttl_mark (Err cause) h = tt

type_gives : (r : Result ℕ Cause) → GivesMark (on_ok (λ (rtype : ℕ). mark.Type (record { 0 = rtype })) r)
type_gives (Ok rtype) = tt
type_gives (Err cause) = tt

class_gives : (r : Result Bool Cause) (other : Result Mark Cause) → GivesMark other → GivesMark (and_then r (λ is_class. cond is_class (Ok mark.Class) other))
class_gives (Ok true) other h = tt
class_gives (Ok false) other h = h
class_gives (Err cause) other h = tt

either_mark : (b : Bool) (r s : Result Mark Cause) → GivesMark r → GivesMark s → GivesMark (cond b r s)
either_mark true r s h k = h
either_mark false r s h k = k

mark_gives : (timed classed : Bool) (word : Written) → GivesMark (mark_of timed classed word)
mark_gives timed classed word =
    either_mark (not timed && is_number word) (on_ok mark.Ttl (ttl_of word)) (cond classed (type_mark word) (and_then (class_of word) (λ is_class. cond is_class (Ok mark.Class) (type_mark word)))) (ttl_mark (ttl_of word) (ttl_gives word))
    (either_mark classed (type_mark word) (and_then (class_of word) (λ is_class. cond is_class (Ok mark.Class) (type_mark word))) (type_gives (type_of word)) (class_gives (class_of word) (type_mark word) (type_gives (type_of word))))

pub record IsFront (front : Front) : Type 0 where
  pub words : AreOfOctets front.words
  pub ttl : IfSome front.ttl (λ ttl. ttl.0 < 2 ^ 31)

abbrev pub GivesFront : Result Front Cause → Type 0
GivesFront (Ok front) = IsFront front
GivesFront (Err cause) = Unit {0}

next_gives : (ttl : Option Ttl) (classed : Bool) (words : List Written) (m : Result Mark Cause) → GivesMark m → AreOfOctets words → IfSome ttl (λ t. t.0 < 2 ^ 31) → ((t : Option Ttl) (c : Bool) → IfSome t (λ x. x.0 < 2 ^ 31) → GivesFront (front_from t c words)) → GivesFront (and_then m (λ m. elim m [
  | mark.Ttl own ↦ front_from (Some own) classed words
  | mark.Class ↦ front_from ttl true words
  | mark.Type rtype ↦ Ok (record { ttl = ttl; rtype = rtype.0; words = words })
]))
next_gives ttl classed words (Err cause) h k l more = tt
next_gives ttl classed words (Ok (mark.Ttl own)) h k l more = more (Some own) classed h
next_gives ttl classed words (Ok mark.Class) h k l more = more ttl true l
next_gives ttl classed words (Ok (mark.Type rtype)) h k l more = record { words = k; ttl = l }

front_gives_from : (ttl : Option Ttl) (classed : Bool) (words : List Written) → AreOfOctets words → IfSome ttl (λ t. t.0 < 2 ^ 31) → GivesFront (front_from ttl classed words)
front_gives_from ttl classed [] h k = tt
front_gives_from ttl classed (word ∷ words) h k = next_gives ttl classed words (mark_of (is_some ttl) classed word) (mark_gives (is_some ttl) classed word) h.1 k (λ t c l. front_gives_from t c words h.1 l)

pub front_of_gives : (words : List Written) → AreOfOctets words → GivesFront (front_of words)
front_of_gives words h = front_gives_from None false words h tt
