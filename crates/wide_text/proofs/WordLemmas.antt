-- Words that are written of data are read as the same octets: field by field, and what stands after the fields.
use Rattle.std.proofs.Common.{◌≡◌, ℕ, zero, suc, ◌+◌, ◌^◌, ◌<◌, ◌≤◌, Bool, true, false, cond, ◌&&◌, nat_le, List, [], ◌∷◌, ◌++◌, flat_map, length, drop, take, get_or, decimal, All, Option, Some, None, option_map, Result, Ok, Err, ok_or, refl, sym, ap, subst, ◌∙◌, add-one, arith}
use Rattle.std.specs.Int.{from_be_bytes, to_be_bytes, w16, w32}
use Rattle.std.proofs.lemmas.Bool.Decides.{nat_tests}
use Rattle.std.proofs.lemmas.List.{length-take-le, take_all}
use Rattle.std.proofs.lemmas.List.Elements.{All-nil, All-cons, All-head, All-tail, All-take}
use Rattle.std.proofs.lemmas.Nat.{be_bytes_2, be_bytes_4}
use Rattle.dns_name.specs.Name.{wire_of, name_in}
use Rattle.dns_name.specs.Text.{text_of}
use Rattle.dns_name.proofs.LawLemmas.{name_in-is_present}
use Rattle.record_text.specs.Number.{number_of, is_number}
use Rattle.record_text.specs.Reading.{on_ok}
use Rattle.record_text.specs.Strings.{string_of}
use Rattle.record_text.specs.Text.{string_octet}
use Rattle.record_text.specs.declared.cause.Cause.{Cause}
use Rattle.record_text.specs.declared.cause.Cause.TheVariants.{BadData}
use Rattle.record_text.proofs.BackLemmas.{AreOctets, decimal_read, number_back}
use Rattle.record_text.proofs.FieldLemmas.{name_read}
use Rattle.record_text.proofs.StringLemmas.{string_some}
use Rattle.wide_text.specs.Fields.{field_of}
use Rattle.wide_text.specs.Texts.{is_tag}
use Rattle.wide_text.specs.Words.{octet_at, short_at, long_at, string_at, tag_at, quoted, pairs, word_at}
use Rattle.wide_text.specs.declared.forms.Field.{Field}
use Rattle.wide_text.specs.declared.forms.Field.TheVariants as field
use Rattle.wide_text.proofs.EuiLemmas.{taken_back}
use Rattle.wide_text.proofs.QuoteLemmas.{unescaped_back}
use Rattle.zone_lexing.specs.Word.{Written}
use Rattle.zone_lexing.specs.Word.Written.{Plain}

-- the word that octets begin with is read as them
abbrev pub IsBack : Field → List ℕ → Option (Written × ℕ) → Type 0
IsBack f octets None = Unit {0}
IsBack f octets (Some word) = (origin : List (List ℕ)) → field_of origin f word.0 ≡ Ok (take word.1 octets)

first_octet : (a : ℕ) (octets : List ℕ) → AreOctets (a ∷ octets) → a < 256
first_octet a octets h = All-head (λ (x : ℕ). x < 256) a octets h

more_octets : (a : ℕ) (octets : List ℕ) → AreOctets (a ∷ octets) → AreOctets octets
more_octets a octets h = All-tail (λ (x : ℕ). x < 256) a octets h

-- numbers in digits
is_decimal : (n : ℕ) → n < 2 ^ 64 → is_number (Plain (decimal n)) ≡ true
is_decimal n h = (decimal_read n h).digits

octet_number : (a : ℕ) → a < 256 → number_of 255 (Plain (decimal a)) ≡ Ok a
octet_number a h = number_back 255 a (omega arith) (omega arith)

octet_back : (octets : List ℕ) → AreOctets octets → IsBack field.Octet octets (octet_at octets)
octet_back [] h = tt
octet_back (a ∷ octets) h = λ origin. ap (on_ok (λ (n : ℕ). n ∷ [])) (octet_number a (first_octet a octets h))

two : (a b : ℕ) → a < 256 → b < 256 → (i : ℕ) → get_or (a ∷ b ∷ []) i 0 < 256
two a b ha hb zero = ha
two a b ha hb (suc zero) = hb
two a b ha hb (suc (suc i)) = omega arith

four : (a b c d : ℕ) → a < 256 → b < 256 → c < 256 → d < 256 → (i : ℕ) → get_or (a ∷ b ∷ c ∷ d ∷ []) i 0 < 256
four a b c d ha hb hc hd zero = ha
four a b c d ha hb hc hd (suc zero) = hb
four a b c d ha hb hc hd (suc (suc zero)) = hc
four a b c d ha hb hc hd (suc (suc (suc zero))) = hd
four a b c d ha hb hc hd (suc (suc (suc (suc i)))) = omega arith

-- a number of two octets, and of four, with its octets
record IsShort (a b : ℕ) : Type 0 where
  small : from_be_bytes w16 (a ∷ b ∷ []) < 65536
  back : to_be_bytes w16 (from_be_bytes w16 (a ∷ b ∷ [])) ≡ a ∷ b ∷ []

IsShort-from : (a b : ℕ) (octets : List ℕ) → AreOctets (a ∷ b ∷ octets) → IsShort a b
IsShort-from a b octets h =
    let first = first_octet a (b ∷ octets) h in
    let second = first_octet b octets (more_octets a (b ∷ octets) h) in
    record { small = omega arith; back = be_bytes_2 (a ∷ b ∷ []) (from_be_bytes w16 (a ∷ b ∷ [])) refl (two a b first second) refl }

record IsLong (a b c d : ℕ) : Type 0 where
  small : from_be_bytes w32 (a ∷ b ∷ c ∷ d ∷ []) < 4294967296
  back : to_be_bytes w32 (from_be_bytes w32 (a ∷ b ∷ c ∷ d ∷ [])) ≡ a ∷ b ∷ c ∷ d ∷ []

IsLong-from : (a b c d : ℕ) (octets : List ℕ) → AreOctets (a ∷ b ∷ c ∷ d ∷ octets) → IsLong a b c d
IsLong-from a b c d octets h =
    let two = more_octets a (b ∷ c ∷ d ∷ octets) h in
    let three = more_octets b (c ∷ d ∷ octets) two in
    let ha = first_octet a (b ∷ c ∷ d ∷ octets) h in
    let hb = first_octet b (c ∷ d ∷ octets) two in
    let hc = first_octet c (d ∷ octets) three in
    let hd = first_octet d octets (more_octets c (d ∷ octets) three) in
    record { small = omega arith; back = be_bytes_4 (a ∷ b ∷ c ∷ d ∷ []) (from_be_bytes w32 (a ∷ b ∷ c ∷ d ∷ [])) refl (four a b c d ha hb hc hd) refl }

short_number : (n : ℕ) → n < 65536 → number_of 65535 (Plain (decimal n)) ≡ Ok n
short_number n h = number_back 65535 n (omega arith) (omega arith)

long_number : (n : ℕ) → n < 4294967296 → number_of 4294967295 (Plain (decimal n)) ≡ Ok n
long_number n h = number_back 4294967295 n (omega arith) (omega arith)

short_back : (octets : List ℕ) → AreOctets octets → IsBack field.Short octets (short_at octets)
short_back [] h = tt
short_back (a ∷ []) h = tt
short_back (a ∷ b ∷ octets) h =
    let is = IsShort-from a b octets h in
    λ origin. ap (on_ok (to_be_bytes w16)) (short_number (from_be_bytes w16 (a ∷ b ∷ [])) is.small) ∙ ap Ok is.back

long_back : (octets : List ℕ) → AreOctets octets → IsBack field.Long octets (long_at octets)
long_back [] h = tt
long_back (a ∷ []) h = tt
long_back (a ∷ b ∷ []) h = tt
long_back (a ∷ b ∷ c ∷ []) h = tt
long_back (a ∷ b ∷ c ∷ d ∷ octets) h =
    let is = IsLong-from a b c d octets h in
    λ origin. ap (on_ok (to_be_bytes w32)) (long_number (from_be_bytes w32 (a ∷ b ∷ c ∷ d ∷ [])) is.small) ∙ ap Ok is.back

-- digits are no word of a table, and no number with a unit
by_number : (number named : Result ℕ Cause) (b : Bool) → b ≡ true → cond b number named ≡ number
by_number number named b e = rw e refl

time_back : (octets : List ℕ) → AreOctets octets → IsBack field.Time octets (long_at octets)
time_back [] h = tt
time_back (a ∷ []) h = tt
time_back (a ∷ b ∷ []) h = tt
time_back (a ∷ b ∷ c ∷ []) h = tt
time_back (a ∷ b ∷ c ∷ d ∷ octets) h =
    let is = IsLong-from a b c d octets h in
    let n = from_be_bytes w32 (a ∷ b ∷ c ∷ d ∷ []) in
    let small = is.small in
    λ origin. ap (on_ok (to_be_bytes w32)) (by_number _ _ (is_number (Plain (decimal n))) (is_decimal n (omega arith)) ∙ long_number n is.small) ∙ ap Ok is.back

algorithm_back : (octets : List ℕ) → AreOctets octets → IsBack field.Algorithm octets (octet_at octets)
algorithm_back [] h = tt
algorithm_back (a ∷ octets) h =
    let small = first_octet a octets h in
    λ origin. ap (on_ok (λ (n : ℕ). n ∷ [])) (by_number _ _ (is_number (Plain (decimal a))) (is_decimal a (omega arith)) ∙ octet_number a small)

certificate_back : (octets : List ℕ) → AreOctets octets → IsBack field.CertType octets (short_at octets)
certificate_back [] h = tt
certificate_back (a ∷ []) h = tt
certificate_back (a ∷ b ∷ octets) h =
    let is = IsShort-from a b octets h in
    let n = from_be_bytes w16 (a ∷ b ∷ []) in
    let small = is.small in
    λ origin. ap (on_ok (to_be_bytes w16)) (by_number _ _ (is_number (Plain (decimal n))) (is_decimal n (omega arith)) ∙ short_number n is.small) ∙ ap Ok is.back

-- strings, tags and texts
string_read : (string : List ℕ) → AreOctets string → length string < 256 → string_of (quoted string) ≡ Ok (length string ∷ string)
string_read string h short = string_some (flat_map string_octet string) string (unescaped_back string h) short

one_more : (n a : ℕ) (octets : List ℕ) → take (n + 1) (a ∷ octets) ≡ a ∷ take n octets
one_more n a octets = rw add-one refl

counted_front : (n : ℕ) (octets : List ℕ) → n ≤ length octets → length (take n octets) ∷ take n octets ≡ take (n + 1) (n ∷ octets)
counted_front n octets h = let len = length-take-le n octets h in let more = one_more n n octets in cc

string_by : (n : ℕ) (octets : List ℕ) (b : Bool) → AreOctets (n ∷ octets) → nat_le n (length octets) ≡ b → IsBack field.String (n ∷ octets) (cond b (Some (quoted (take n octets), n + 1)) None)
string_by n octets true h e =
    let long : n ≤ length octets = grind (arith, nat_tests) in
    let small = first_octet n octets h in
    let len = length-take-le n octets long in
    λ origin. string_read (take n octets) (All-take (λ (x : ℕ). x < 256) n octets (more_octets n octets h)) (omega arith) ∙ ap Ok (counted_front n octets long)
string_by n octets false h e = tt

string_back : (octets : List ℕ) → AreOctets octets → IsBack field.String octets (string_at octets)
string_back [] h = tt
string_back (n ∷ octets) h = string_by n octets (nat_le n (length octets)) h refl

tag_by : (n : ℕ) (octets : List ℕ) (b t : Bool) → nat_le n (length octets) ≡ b → is_tag (take n octets) ≡ t → IsBack field.Tag (n ∷ octets) (cond (b && t) (Some (Plain (take n octets), n + 1)) None)
tag_by n octets true true e k =
    let long : n ≤ length octets = grind (arith, nat_tests) in
    λ origin. ap (λ (b : Bool). cond b (Ok (length (take n octets) ∷ take n octets)) (Err BadData)) k ∙ ap Ok (counted_front n octets long)
tag_by n octets true false e k = tt
tag_by n octets false t e k = tt

tag_back : (octets : List ℕ) → IsBack field.Tag octets (tag_at octets)
tag_back [] = tt
tag_back (n ∷ octets) = tag_by n octets (nat_le n (length octets)) (is_tag (take n octets)) refl refl

text_back : (octets : List ℕ) → AreOctets octets → IsBack field.Text octets (Some (quoted octets, length octets))
text_back octets h =
    let long : length octets ≤ length octets = omega arith in
    λ origin. ap (λ (o : Option (List ℕ)). ok_or o BadData) (unescaped_back octets h) ∙ ap Ok (sym (take_all (length octets) octets long))

-- names
all_front : (xs ys : List ℕ) → AreOctets (xs ++ ys) → AreOctets xs
all_front [] ys h = All-nil (λ (c : ℕ). c < 256)
all_front (x ∷ xs) ys h =
    All-cons (λ (c : ℕ). c < 256) x xs (All-head (λ (c : ℕ). c < 256) x (xs ++ ys) h) (all_front xs ys (All-tail (λ (c : ℕ). c < 256) x (xs ++ ys) h))

all_after : (xs ys : List ℕ) → AreOctets (xs ++ ys) → AreOctets ys
all_after [] ys h = h
all_after (x ∷ xs) ys h = all_after xs ys (All-tail (λ (c : ℕ). c < 256) x (xs ++ ys) h)

labels_octets : (name : List (List ℕ)) → AreOctets (wire_of name) → All (All (λ c. c < 256)) name
labels_octets [] h = All-nil (All (λ (c : ℕ). c < 256))
labels_octets (label ∷ name) h =
    let tail = All-tail (λ (c : ℕ). c < 256) (length label) (label ++ wire_of name) h in
    All-cons (All (λ (c : ℕ). c < 256)) label name (all_front label (wire_of name) tail) (labels_octets name (all_after label (wire_of name) tail))

take_front : (xs ys : List ℕ) → take (length xs) (xs ++ ys) ≡ xs
take_front [] ys = refl
take_front (x ∷ xs) ys = ap (λ (os : List ℕ). x ∷ os) (take_front xs ys)

name_by : (octets : List ℕ) (o : Option (List (List ℕ))) → AreOctets octets → name_in octets ≡ o → IsBack field.Name octets (option_map (λ (name : List (List ℕ)). (Plain (text_of name), length (wire_of name))) o)
name_by octets None h e = tt
name_by octets (Some name) h e =
    let is = name_in-is_present octets name e in
    let rest = drop (length (wire_of name)) octets in
    let all = all_front (wire_of name) rest (subst AreOctets is.1 h) in
    let front : take (length (wire_of name)) octets ≡ wire_of name = ap (take (length (wire_of name))) is.1 ∙ take_front (wire_of name) rest in
    λ origin. ap (on_ok wire_of) (name_read name origin is.0 (labels_octets name all)) ∙ ap Ok (sym front)

name_back : (octets : List ℕ) → AreOctets octets → IsBack field.Name octets (option_map (λ (name : List (List ℕ)). (Plain (text_of name), length (wire_of name))) (name_in octets))
name_back octets h = name_by octets (name_in octets) h refl

eui48_by : (octets : List ℕ) (b : Bool) → nat_le 6 (length octets) ≡ b → AreOctets octets → IsBack field.Eui48 octets (cond b (Some (Plain (pairs (take 6 octets)), 6)) None)
eui48_by octets true e h = λ origin. taken_back 6 octets (omega arith) h e
eui48_by octets false e h = tt

eui64_by : (octets : List ℕ) (b : Bool) → nat_le 8 (length octets) ≡ b → AreOctets octets → IsBack field.Eui64 octets (cond b (Some (Plain (pairs (take 8 octets)), 8)) None)
eui64_by octets true e h = λ origin. taken_back 8 octets (omega arith) h e
eui64_by octets false e h = tt

-- each field
pub word_back : (f : Field) (octets : List ℕ) → AreOctets octets → IsBack f octets (word_at f octets)
unfolding word_at
word_back field.Name octets h = name_back octets h
word_back field.Octet octets h = octet_back octets h
word_back field.Short octets h = short_back octets h
word_back field.Long octets h = long_back octets h
word_back field.Time octets h = time_back octets h
word_back field.String octets h = string_back octets h
word_back field.Tag octets h = tag_back octets
word_back field.Text octets h = text_back octets h
word_back field.Algorithm octets h = algorithm_back octets h
word_back field.CertType octets h = certificate_back octets h
word_back field.Eui48 octets h = eui48_by octets (nat_le 6 (length octets)) refl h
word_back field.Eui64 octets h = eui64_by octets (nat_le 8 (length octets)) refl h
