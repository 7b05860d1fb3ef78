-- Octets after `\#`: those that are data as they stand, and those of a type without a form.
use Rattle.std.proofs.Common.{◌≡◌, ℕ, ◌≤◌, Bool, true, false, cond, ◌==◌, nat_lt, nat_le, bytes_eq, List, [], ◌∷◌, drop, length, Option, Some, None, Result, Ok, Err, refl, sym, ap, ◌∙◌, arith}
use Rattle.std.proofs.lemmas.Bool.Decides.{nat_tests, Decides-eqb}
use Rattle.dns_rdata.specs.Data.{data_of}
use Rattle.dns_rdata.specs.Layout.{layout_of}
use Rattle.record_text.specs.Data.{octets_of_words, as_data, as_own_data, data_of_words}
use Rattle.record_text.specs.Generic.{are_generic, size_of, hexes_of, generic_of}
use Rattle.record_text.specs.Number.{are_digits, value_of}
use Rattle.record_text.specs.Reading.{and_then}
use Rattle.record_text.specs.declared.cause.Cause.{Cause}
use Rattle.record_text.specs.declared.cause.Cause.TheVariants.{BadData, Number, Limit}
use Rattle.record_text.proofs.GenericBack.{own_data}
use Rattle.zone_lexing.specs.Word.{Written}
use Rattle.zone_lexing.specs.Word.Written.{Plain, Quoted, Unclosed}

pub read_first : {A B : Type 0} (r : Result A Cause) (f : A → Result B Cause) (y : B) → and_then r f ≡ Ok y → (x : A) × (r ≡ Ok x) × (f x ≡ Ok y)
read_first (Ok x) f y e = (x, refl, e)
read_first (Err cause) f y e = cc

cond_ok : {A : Type 0} (b : Bool) (r : Result A Cause) (cause : Cause) (y : A) → cond b r (Err cause) ≡ Ok y → (b ≡ true) × (r ≡ Ok y)
cond_ok true r cause y e = (refl, e)
cond_ok false r cause y e = cc

-- there are at most as many as data may have
size-short : (word : Written) (size : ℕ) → size_of word ≡ Ok size → size ≤ 4096
size-short (Plain text) size e =
    let digits = cond_ok (are_digits text) (cond (nat_le (value_of text) 4096) (Ok (value_of text)) (Err Limit)) Number size e in
    let within = cond_ok (nat_le (value_of text) 4096) (Ok (value_of text)) Limit size digits.1 in
    let same : value_of text ≡ size = let is = within.1 in cc in
    let fits : value_of text ≤ 4096 = let t = within.0 in grind (arith, nat_tests) in
    omega arith
size-short (Quoted text) size e = cc
size-short Unclosed size e = cc

generic-short : (words : List Written) (octets : List ℕ) → generic_of words ≡ Ok octets → length octets ≤ 4096
unfolding generic_of
generic-short [] octets e = cc
generic-short (word ∷ words) octets e =
    let size = read_first (size_of word) (λ size. and_then (hexes_of words) (λ os. cond (length os == size) (Ok os) (Err BadData))) octets e in
    let read = read_first (hexes_of words) (λ os. cond (length os == size.0) (Ok os) (Err BadData)) octets size.2 in
    let test = cond_ok (length read.0 == size.0) (Ok read.0) BadData octets read.2 in
    let same : read.0 ≡ octets = let is = test.1 in cc in
    let all = ap length same in
    let len = (Decides-eqb (length read.0) size.0).0 test.0 in
    let fits = size-short word size.0 size.1 in
    omega arith

-- octets that are data as they stand are data
own_by : (octets own : List ℕ) (o : Option (List ℕ)) → length octets ≤ 4096 → elim o as (λ _. Result (List ℕ) Cause) [ None ↦ Err BadData | Some inner ↦ cond (bytes_eq inner octets) (Ok inner) (Err BadData) ] ≡ Ok own
    → elim o as (λ _. Result (List ℕ) Cause) [ None ↦ Err BadData | Some inner ↦ cond (nat_lt 4096 (length octets)) (Err Limit) (Ok inner) ] ≡ Ok own
own_by octets own None short e = cc
own_by octets own (Some inner) short e =
    let test = cond_ok (bytes_eq inner octets) (Ok inner) BadData own e in
    let t : nat_lt 4096 (length octets) ≡ false = grind (arith, nat_tests) in
    rw t test.1

own_is_data : (rtype : ℕ) (octets own : List ℕ) → length octets ≤ 4096 → as_own_data rtype octets ≡ Ok own → as_data rtype octets ≡ Ok own
unfolding as_own_data as_data
own_is_data rtype octets own short e = own_by octets own (data_of rtype octets) short e

pub generic_is_data : (rtype : ℕ) (words : List Written) (own : List ℕ) → and_then (generic_of words) (as_own_data rtype) ≡ Ok own → and_then (generic_of words) (as_data rtype) ≡ Ok own
generic_is_data rtype words own e =
    let read = read_first (generic_of words) (as_own_data rtype) own e in
    ap (λ (r : Result (List ℕ) Cause). and_then r (as_data rtype)) read.1 ∙ own_is_data rtype read.0 own (generic-short words read.0 read.1) read.2

-- of a type without a form all octets are data
opaque : (octets : List ℕ) → data_of 65280 octets ≡ Some octets
unfolding data_of layout_of
opaque octets = refl

opaque_reading : (r : Result (List ℕ) Cause) → and_then r (as_own_data 65280) ≡ r
opaque_reading (Ok octets) = own_data 65280 octets (opaque octets)
opaque_reading (Err cause) = refl

pub opaque_words : (origin : List (List ℕ)) (words : List Written) → true ≡ are_generic words → data_of_words 65280 origin words ≡ generic_of (drop 1 words)
opaque_words origin words e =
    ap (λ (b : Bool). cond b (and_then (generic_of (drop 1 words)) (as_own_data 65280)) (and_then (octets_of_words 65280 origin words) (as_data 65280))) (sym e)
    ∙ opaque_reading (generic_of (drop 1 words))
