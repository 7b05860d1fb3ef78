-- No reading tells want of memory.
use Rattle.std.proofs.Common.{ℕ, Bool, true, false, cond, not, ◌&&◌, ◌==◌, nat_lt, nat_le, List, [], ◌∷◌, ◌++◌, length, drop, codes, bytes_eq, Option, Some, None, Result, Ok, Err, ok_or}
use Rattle.std.specs.Option.{is_some}
use Rattle.std.specs.Int.{to_be_bytes, w16, w32}
use Rattle.hex.specs.Hex.{decode_of}
use Rattle.hex.specs.declared.error.FromHexError.{FromHexError}
use Rattle.dns_name.specs.Name.{wire_of}
use Rattle.dns_name.specs.Text.{name_of_text}
use Rattle.dns_name.specs.declared.text.NameFault.{NameFault}
use Rattle.dns_rdata.specs.Data.{data_of}
use Rattle.dns_rdata.specs.declared.numbers.Ttl.{Ttl}
use Rattle.zone_lexing.specs.Word.{Written}
use Rattle.zone_lexing.specs.Word.Written.{Plain, Quoted, Unclosed}
use Rattle.record_text.specs.declared.cause.Cause.{Cause}
use Rattle.record_text.specs.declared.cause.Cause.TheVariants.{BadName, Number, BadClass, UnknownType, BadData, Limit, NoMemory}
use Rattle.record_text.specs.declared.data.Field.{Field}
use Rattle.record_text.specs.declared.data.Field.TheVariants as field
use Rattle.record_text.specs.declared.front.Mark.{Mark}
use Rattle.record_text.specs.declared.front.Mark.TheVariants as mark
use Rattle.record_text.specs.Address.{dotted, colon_hex, address_of, address6_of}
use Rattle.record_text.specs.Data.{field_of, surplus_of, unmarked_of, fields_of, form_of, text_of, octets_of_words, as_data, as_own_data, data_of_words}
use Rattle.record_text.specs.Generic.{are_generic, size_of, hex_of, hexes_of, generic_of}
use Rattle.record_text.specs.Front.{ttl_of, type_mark, mark_of, front_from, front_of}
use Rattle.record_text.specs.Mnemonics.{is_word, type_named, type_of, is_class_number, class_named, class_of}
use Rattle.record_text.specs.NameWord.{name_named, name_of, owner_of}
use Rattle.record_text.specs.Number.{are_digits, value_of, decimal_of, number_of, is_number}
use Rattle.record_text.specs.Reading.{on_ok, and_then}
use Rattle.record_text.specs.Strings.{unescaped, counted, string_in, string_of, strings_of}

-- a fault of a text's own
abbrev pub IsOwnCause : Cause → Type 0
IsOwnCause NoMemory = ⊥
IsOwnCause cause = Unit {0}

abbrev pub TellsOwn : {A : Type 0} → Result A Cause → Type 0
TellsOwn (Ok x) = Unit {0}
TellsOwn (Err cause) = IsOwnCause cause

pub own_or : {A : Type 0} (o : Option A) (c : Cause) → IsOwnCause c → TellsOwn (ok_or o c)
own_or None c h = h
own_or (Some x) c h = tt

pub on_own : {A B : Type 0} (f : A → B) (r : Result A Cause) → TellsOwn r → TellsOwn (on_ok f r)
on_own f (Ok x) h = tt
on_own f (Err c) h = h

pub then_own : {A B : Type 0} (r : Result A Cause) (f : A → Result B Cause) → TellsOwn r → ((x : A) → TellsOwn (f x)) → TellsOwn (and_then r f)
then_own (Ok x) f h k = k x
then_own (Err c) f h k = h

pub cond_own : {A : Type 0} (b : Bool) (r s : Result A Cause) → TellsOwn r → TellsOwn s → TellsOwn (cond b r s)
cond_own true r s h k = h
cond_own false r s h k = k

address_own : (word : Written) → TellsOwn (address_of word)
address_own (Plain text) = own_or (dotted text) BadData tt
address_own (Quoted text) = tt
address_own Unclosed = tt

address6_own : (word : Written) → TellsOwn (address6_of word)
address6_own (Plain text) = own_or (colon_hex text) BadData tt
address6_own (Quoted text) = tt
address6_own Unclosed = tt

number_own : (most : ℕ) (word : Written) → TellsOwn (number_of most word)
number_own most (Plain text) = own_or (decimal_of most text) Number tt
number_own most (Quoted text) = tt
number_own most Unclosed = tt

named_own : (r : Result (List (List ℕ)) NameFault) → TellsOwn (elim r as (λ _. Result (List (List ℕ)) Cause) [ Ok name ↦ Ok name | Err fault ↦ Err BadName ])
named_own (Ok name) = tt
named_own (Err fault) = tt

text_own : (text : List ℕ) (origin : List (List ℕ)) → TellsOwn (name_named text origin)
unfolding name_named
text_own text origin = named_own (name_of_text text origin)

name_own : (origin : List (List ℕ)) (word : Written) → TellsOwn (name_of origin word)
name_own origin (Plain text) = text_own text origin
name_own origin (Quoted text) = tt
name_own origin Unclosed = tt

pub owner_own : (origin : List (List ℕ)) (word : Written) → TellsOwn (owner_of origin word)
owner_own origin (Plain text) = text_own text origin
owner_own origin (Quoted text) = tt
owner_own origin Unclosed = tt

type_own : (word : Written) → TellsOwn (type_of word)
type_own (Plain text) = own_or (type_named text) UnknownType tt
type_own (Quoted text) = tt
type_own Unclosed = tt

class_named_own : (text : List ℕ) → TellsOwn (class_named text)
unfolding class_named
class_named_own text =
    let numbered : Result Bool Cause = cond (is_class_number text) (cond (bytes_eq (drop 5 text) (codes "1")) (Ok true) (Err BadClass)) (Ok false) in
    cond_own (is_word text (codes "IN")) (Ok true) (cond (is_word text (codes "CS")) (Err BadClass) (cond (is_word text (codes "CH")) (Err BadClass) (cond (is_word text (codes "HS")) (Err BadClass) numbered))) tt
    (cond_own (is_word text (codes "CS")) (Err BadClass) (cond (is_word text (codes "CH")) (Err BadClass) (cond (is_word text (codes "HS")) (Err BadClass) numbered)) tt
    (cond_own (is_word text (codes "CH")) (Err BadClass) (cond (is_word text (codes "HS")) (Err BadClass) numbered) tt
    (cond_own (is_word text (codes "HS")) (Err BadClass) numbered tt
    (cond_own (is_class_number text) (cond (bytes_eq (drop 5 text) (codes "1")) (Ok true) (Err BadClass)) (Ok false)
    (cond_own (bytes_eq (drop 5 text) (codes "1")) (Ok true) (Err BadClass) tt tt) tt))))

class_own : (word : Written) → TellsOwn (class_of word)
class_own (Plain text) = class_named_own text
class_own (Quoted text) = tt
class_own Unclosed = tt

string_by : (o : Option (List ℕ)) → TellsOwn (elim o as (λ _. Result (List ℕ) Cause) [ None ↦ Err BadData | Some octets ↦ counted octets ])
string_by None = tt
string_by (Some octets) = cond_own (nat_le (length octets) 255) (Ok (length octets ∷ octets)) (Err BadData) tt tt

string_own : (text : List ℕ) → TellsOwn (string_in text)
unfolding string_in
string_own text = string_by (unescaped text)

word_own : (word : Written) → TellsOwn (string_of word)
word_own (Plain text) = string_own text
word_own (Quoted text) = string_own text
word_own Unclosed = tt

strings_own : (words : List Written) → TellsOwn (strings_of words)
strings_own [] = tt
strings_own (word ∷ words) = then_own (string_of word) (λ front. on_ok (λ rest. front ++ rest) (strings_of words)) (word_own word) (λ front. on_own (λ (rest : List ℕ). front ++ rest) (strings_of words) (strings_own words))

text_of_own : (words : List Written) → TellsOwn (text_of words)
text_of_own [] = tt
text_of_own (word ∷ words) = strings_own (word ∷ words)

pub surplus_own : (word : Written) → IsOwnCause (surplus_of word)
surplus_own (Plain text) = tt
surplus_own (Quoted text) = tt
surplus_own Unclosed = tt

field_own : (origin : List (List ℕ)) (f : Field) (word : Written) → TellsOwn (field_of origin f word)
field_own origin field.Address word = address_own word
field_own origin field.Address6 word = address6_own word
field_own origin field.Name word = on_own wire_of (name_of origin word) (name_own origin word)
field_own origin field.Short word = on_own (to_be_bytes w16) (number_of 65535 word) (number_own 65535 word)
field_own origin field.Long word = on_own (to_be_bytes w32) (number_of 4294967295 word) (number_own 4294967295 word)

fields_own : (origin : List (List ℕ)) (fields : List Field) (words : List Written) → TellsOwn (fields_of origin fields words)
fields_own origin [] [] = tt
fields_own origin [] (word ∷ words) = surplus_own word
fields_own origin (f ∷ fields) [] = tt
fields_own origin (f ∷ fields) (word ∷ words) =
    then_own (field_of origin f word) (λ front. on_ok (λ rest. front ++ rest) (fields_of origin fields words)) (field_own origin f word) (λ front. on_own (λ (rest : List ℕ). front ++ rest) (fields_of origin fields words) (fields_own origin fields words))

form_own : (form : Option (List Field)) (origin : List (List ℕ)) (words : List Written) → TellsOwn (elim form as (λ _. Result (List ℕ) Cause) [ None ↦ Err (unmarked_of words) | Some fields ↦ fields_of origin fields words ])
form_own None origin [] = tt
form_own None origin (word ∷ words) = surplus_own word
form_own (Some fields) origin words = fields_own origin fields words

words_own : (rtype : ℕ) (origin : List (List ℕ)) (words : List Written) → TellsOwn (octets_of_words rtype origin words)
unfolding octets_of_words
words_own rtype origin words = cond_own (rtype == 16) (text_of words) (elim (form_of rtype) as (λ _. Result (List ℕ) Cause) [ None ↦ Err (unmarked_of words) | Some fields ↦ fields_of origin fields words ]) (text_of_own words) (form_own (form_of rtype) origin words)

data_by : (o : Option (List ℕ)) (b : Bool) → TellsOwn (elim o as (λ _. Result (List ℕ) Cause) [ None ↦ Err BadData | Some own ↦ cond b (Err Limit) (Ok own) ])
data_by None b = tt
data_by (Some own) b = cond_own b (Err Limit) (Ok own) tt tt

as_own : (rtype : ℕ) (octets : List ℕ) → TellsOwn (as_data rtype octets)
unfolding as_data
as_own rtype octets = data_by (data_of rtype octets) (nat_lt 4096 (length octets))

-- octets behind `\#`
size_own : (word : Written) → TellsOwn (size_of word)
size_own (Plain text) =
    cond_own (are_digits text) (cond (nat_le (value_of text) 4096) (Ok (value_of text)) (Err Limit)) (Err Number) (cond_own (nat_le (value_of text) 4096) (Ok (value_of text)) (Err Limit) tt tt) tt
size_own (Quoted text) = tt
size_own Unclosed = tt

decoded_own : (r : Result (List ℕ) FromHexError) → TellsOwn (elim r as (λ _. Result (List ℕ) Cause) [ Ok octets ↦ Ok octets | Err fault ↦ Err BadData ])
decoded_own (Ok octets) = tt
decoded_own (Err fault) = tt

hex_own : (word : Written) → TellsOwn (hex_of word)
hex_own (Plain text) = decoded_own (decode_of text)
hex_own (Quoted text) = tt
hex_own Unclosed = tt

hexes_own : (words : List Written) → TellsOwn (hexes_of words)
hexes_own [] = tt
hexes_own (word ∷ words) = then_own (hex_of word) (λ front. on_ok (λ rest. front ++ rest) (hexes_of words)) (hex_own word) (λ front. on_own (λ (rest : List ℕ). front ++ rest) (hexes_of words) (hexes_own words))

generic_own : (words : List Written) → TellsOwn (generic_of words)
unfolding generic_of
generic_own [] = tt
generic_own (word ∷ words) =
    then_own (size_of word) (λ size. and_then (hexes_of words) (λ octets. cond (length octets == size) (Ok octets) (Err BadData))) (size_own word) (λ size.
    then_own (hexes_of words) (λ octets. cond (length octets == size) (Ok octets) (Err BadData)) (hexes_own words) (λ octets.
    cond_own (length octets == size) (Ok octets) (Err BadData) tt tt))

same_own : (o : Option (List ℕ)) (octets : List ℕ) → TellsOwn (elim o as (λ _. Result (List ℕ) Cause) [ None ↦ Err BadData | Some own ↦ cond (bytes_eq own octets) (Ok own) (Err BadData) ])
same_own None octets = tt
same_own (Some own) octets = cond_own (bytes_eq own octets) (Ok own) (Err BadData) tt tt

own_own : (rtype : ℕ) (octets : List ℕ) → TellsOwn (as_own_data rtype octets)
unfolding as_own_data
own_own rtype octets = same_own (data_of rtype octets) octets

pub data_own : (rtype : ℕ) (origin : List (List ℕ)) (words : List Written) → TellsOwn (data_of_words rtype origin words)
data_own rtype origin words =
    cond_own (are_generic words) (and_then (generic_of (drop 1 words)) (as_own_data rtype)) (and_then (octets_of_words rtype origin words) (as_data rtype))
    (then_own (generic_of (drop 1 words)) (as_own_data rtype) (generic_own (drop 1 words)) (own_own rtype))
    (then_own (octets_of_words rtype origin words) (as_data rtype) (words_own rtype origin words) (as_own rtype))

pub ttl_own : (word : Written) → TellsOwn (ttl_of word)
ttl_own word = on_own (λ (seconds : ℕ). record { 0 = seconds }) (number_of 2147483647 word) (number_own 2147483647 word)

type_mark_own : (word : Written) → TellsOwn (type_mark word)
type_mark_own word = on_own (λ (rtype : ℕ). mark.Type (record { 0 = rtype })) (type_of word) (type_own word)

mark_own : (timed classed : Bool) (word : Written) → TellsOwn (mark_of timed classed word)
mark_own timed classed word =
    cond_own (not timed && is_number word) (on_ok mark.Ttl (ttl_of word)) (cond classed (type_mark word) (and_then (class_of word) (λ is_class. cond is_class (Ok mark.Class) (type_mark word)))) (on_own mark.Ttl (ttl_of word) (ttl_own word))
    (cond_own classed (type_mark word) (and_then (class_of word) (λ is_class. cond is_class (Ok mark.Class) (type_mark word))) (type_mark_own word)
    (then_own (class_of word) (λ is_class. cond is_class (Ok mark.Class) (type_mark word)) (class_own word) (λ is_class. cond_own is_class (Ok mark.Class) (type_mark word) tt (type_mark_own word))))

next_own : (ttl : Option Ttl) (classed : Bool) (words : List Written) (m : Result Mark Cause) → TellsOwn m → ((t : Option Ttl) (c : Bool) → TellsOwn (front_from t c words)) → TellsOwn (and_then m (λ m. elim m [
  | mark.Ttl own ↦ front_from (Some own) classed words
  | mark.Class ↦ front_from ttl true words
  | mark.Type rtype ↦ Ok (record { ttl = ttl; rtype = rtype.0; words = words })
]))
next_own ttl classed words (Err c) h more = h
next_own ttl classed words (Ok (mark.Ttl own)) h more = more (Some own) classed
next_own ttl classed words (Ok mark.Class) h more = more ttl true
next_own ttl classed words (Ok (mark.Type rtype)) h more = tt

front_own_from : (ttl : Option Ttl) (classed : Bool) (words : List Written) → TellsOwn (front_from ttl classed words)
front_own_from ttl classed [] = tt
front_own_from ttl classed (word ∷ words) = next_own ttl classed words (mark_of (is_some ttl) classed word) (mark_own (is_some ttl) classed word) (λ t c. front_own_from t c words)

pub front_own : (words : List Written) → TellsOwn (front_of words)
front_own words = front_own_from None false words
