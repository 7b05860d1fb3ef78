-- Octets of fields and of strings, put one behind the other.
use Rattle.std.proofs.Common.{◌≡◌, ℕ, ◌+◌, ◌<◌, ◌≤◌, inl, inr, Bool, true, false, cond, ◌==◌, nat_lt, nat_le, bytes_eq, Option, Some, None, IsSome, eq-eqb, List, [], ◌∷◌, ◌++◌, map, length, drop, get_or, Result, Ok, Err, refl, sym, ap, ◌∙◌, arith}
use Rattle.std.proofs.lemmas.List.{append_assoc, append-nil, drop_all, length-drop, at_drop_more}
use Rattle.record_text.specs.declared.data.Field.{Field}
use Rattle.zone_lexing.specs.declared.word.Word.{Word}
use Rattle.record_text.specs.declared.cause.Cause.{Cause}
use Rattle.record_text.specs.declared.cause.Cause.TheVariants.{BadData, Number, Limit}
use Rattle.dns_rdata.specs.declared.data.DataFault.{DataFault}
use Rattle.dns_rdata.specs.declared.data.DataFault.TheVariants as fault
use Rattle.dns_rdata.specs.Data.{data_of}
use Rattle.dns_rdata.proofs.DataLemmas.{IsRead-data}
use Rattle.std.proofs.lemmas.Bool.Decides.{nat_tests, Decides-eqb}
use Rattle.std.proofs.lemmas.Slice.Eq.{bytes_eq-Decides}
use Rattle.record_text.specs.Fault.{cause_of_data}
use Rattle.record_text.specs.Data.{fields_of, form_of, octets_of_words, as_data, as_own_data, data_of_words, surplus_of, unmarked_of, IsToldOf}
use Rattle.record_text.specs.Generic.{are_generic, size_of, hexes_of, generic_of}
use Rattle.record_text.specs.Number.{are_digits, value_of}
use Rattle.record_text.specs.Private.{ReadsBehind}
use Rattle.record_text.specs.Strings.{strings_of}
use Rattle.zone_lexing.specs.Word.{Written, written}
use Rattle.zone_lexing.specs.Word.Written.{Plain, Quoted, Unclosed}
use Rattle.record_text.proofs.NumberLemmas.{by_test}
use Rattle.record_text.specs.Reading.{on_ok, and_then}

-- what is put so far, and what the rest gives
abbrev pub behind : List ℕ → Result (List ℕ) Cause → Result (List ℕ) Cause
behind own rest = on_ok (λ (more : List ℕ). own ++ more) rest

abbrev pub whole : List ℕ → List (List ℕ) → List Field → List Written → Result (List ℕ) Cause
whole own origin fields words = behind own (fields_of origin fields words)

behind_ok : (own all : List ℕ) (r : Result (List ℕ) Cause) → behind own r ≡ Ok all → (more : List ℕ) × (r ≡ Ok more) × (own ++ more ≡ all)
behind_ok own all (Ok more) e = (more, refl, cc)
behind_ok own all (Err cause) e = cc

behind_err : (own : List ℕ) (r : Result (List ℕ) Cause) (cause : Cause) → behind own r ≡ Err cause → r ≡ Err cause
behind_err own (Ok more) cause e = cc
behind_err own (Err other) cause e = cc

twice : (own front : List ℕ) (r : Result (List ℕ) Cause) → behind own (on_ok (λ (rest : List ℕ). front ++ rest) r) ≡ behind (own ++ front) r
twice own front (Ok rest) = ap Ok (sym (append_assoc own front rest))
twice own front (Err cause) = refl

-- one reading in front of others is read
pub behind_step : (own front : List ℕ) (first rest : Result (List ℕ) Cause) → first ≡ Ok front → behind own (and_then first (λ (octets : List ℕ). on_ok (λ (more : List ℕ). octets ++ more) rest)) ≡ behind (own ++ front) rest
behind_step own front first rest e = rw e (twice own front rest)

-- and what it refuses
pub behind_fault : (own : List ℕ) (first rest : Result (List ℕ) Cause) (cause : Cause) → first ≡ Err cause → behind own (and_then first (λ (octets : List ℕ). on_ok (λ (more : List ℕ). octets ++ more) rest)) ≡ Err cause
behind_fault own first rest cause e = rw e refl

-- all is read
pub ReadsBehind-behind : (old own : List ℕ) (reading : Result (List ℕ) Cause) → behind own (Ok []) ≡ behind old reading → ReadsBehind reading old own
ReadsBehind-behind old own reading e =
    let parts = behind_ok old (own ++ []) reading (sym e) in
    record { front = parts.0; read = parts.1; octets = sym (append-nil own) ∙ sym parts.2 }

-- a fault of the rest is one of the whole
pub IsToldOf-behind : (old own : List ℕ) (rest reading : Result (List ℕ) Cause) (cause : Cause) → behind own rest ≡ behind old reading → behind own rest ≡ Err cause → IsToldOf reading cause
IsToldOf-behind old own rest reading cause e fault = inr (behind_err old reading cause (sym e ∙ fault))

-- a fault of what is read next, or want of memory
pub IsToldOf-first : (old own : List ℕ) (first rest reading : Result (List ℕ) Cause) (cause : Cause) → behind own (and_then first (λ (octets : List ℕ). on_ok (λ (more : List ℕ). octets ++ more) rest)) ≡ behind old reading → IsToldOf first cause → IsToldOf reading cause
IsToldOf-first old own first rest reading cause e (inl none) = inl none
IsToldOf-first old own first rest reading cause e (inr fault) = IsToldOf-behind old own _ reading cause e (behind_fault own first rest cause fault)

too_few : (own : List ℕ) (origin : List (List ℕ)) (fields : List Field) → 0 < length fields → whole own origin fields [] ≡ Err BadData
too_few own origin [] h = absurd (omega arith)
too_few own origin (field ∷ fields) h = refl

-- the words end before the fields
pub whole_few : (own : List ℕ) (origin : List (List ℕ)) (fields : List Field) (words : List Word) (i : ℕ) → i < length fields → length words ≤ i → whole own origin (drop i fields) (map written (drop i words)) ≡ Err BadData
whole_few own origin fields words i h k =
    let left : 0 < length (drop i fields) = let d = length-drop i fields in omega arith in
    rw (drop_all i words k) (too_few own origin (drop i fields) left)

-- the fields end before the words
pub whole_many : (own : List ℕ) (origin : List (List ℕ)) (fields : List Field) (words : List Word) (i : ℕ) (w : Word) → length fields ≤ i → i ≤ length fields → length fields < length words → w ≡ get_or words (length fields) w → whole own origin (drop i fields) (map written (drop i words)) ≡ Err (surplus_of (written w))
whole_many own origin fields words i w low high k e =
    let same : i ≡ length fields = omega arith in
    let all : length fields ≤ length fields = omega arith in
    rw (same, drop_all (length fields) fields all)
    (at_drop_more (λ (ws : List Word). whole own origin [] (map written ws)) words (length fields) w k
    ∙ ap (λ (x : Word). Err (surplus_of (written x))) (sym e))

-- both end
pub whole_end : (own : List ℕ) (origin : List (List ℕ)) (fields : List Field) (words : List Word) (i : ℕ) → length fields ≤ i → length words ≤ i → whole own origin (drop i fields) (map written (drop i words)) ≡ behind own (Ok [])
whole_end own origin fields words i h k = rw (drop_all i fields h, drop_all i words k) refl

-- the next field and the next word, at an index
pub whole_next : (own : List ℕ) (origin : List (List ℕ)) (fields : List Field) (words : List Word) (i : ℕ) (f : Field) (w : Word) → i < length fields → i < length words → whole own origin (drop i fields) (map written (drop i words)) ≡ whole own origin (get_or fields i f ∷ drop (i + 1) fields) (written (get_or words i w) ∷ map written (drop (i + 1) words))
whole_next own origin fields words i f w h k =
    at_drop_more (λ (fs : List Field). whole own origin fs (map written (drop i words))) fields i f h
    ∙ at_drop_more (λ (ws : List Word). whole own origin (get_or fields i f ∷ drop (i + 1) fields) (map written ws)) words i w k

-- which reading a type's words have
pub words_text : (rtype : ℕ) (origin : List (List ℕ)) (words : List Word) → true ≡ (rtype == 16) → 0 < length words → octets_of_words rtype origin (map written words) ≡ strings_of (map written words)
unfolding octets_of_words
words_text rtype origin [] e some = absurd (omega arith)
words_text rtype origin (word ∷ words) e some = rw (sym e) refl

pub words_no_text : (rtype : ℕ) (origin : List (List ℕ)) (words : List Word) → true ≡ (rtype == 16) → length words ≡ 0 → octets_of_words rtype origin (map written words) ≡ Err BadData
unfolding octets_of_words
words_no_text rtype origin [] e none = rw (sym e) refl
words_no_text rtype origin (word ∷ words) e none = absurd (omega arith)

pub words_fields : (rtype : ℕ) (origin : List (List ℕ)) (words : List Written) (fields : List Field) → false ≡ (rtype == 16) → form_of rtype ≡ Some fields → octets_of_words rtype origin words ≡ fields_of origin fields words
unfolding octets_of_words
words_fields rtype origin words fields e form = rw (sym e, form) refl

pub words_unknown : (rtype : ℕ) (origin : List (List ℕ)) (words : List Written) → false ≡ (rtype == 16) → form_of rtype ≡ None → octets_of_words rtype origin words ≡ Err (unmarked_of words)
unfolding octets_of_words
words_unknown rtype origin words e form = rw (sym e, form) refl

-- octets as data
pub as_data-ok : (rtype : ℕ) (octets own : List ℕ) → data_of rtype octets ≡ Some own → length own ≤ 4096 → as_data rtype octets ≡ Ok own
unfolding as_data
as_data-ok rtype octets own e short =
    let same = (IsRead-data rtype octets own e).len in
    let t : nat_lt 4096 (length octets) ≡ false = grind (arith, nat_tests) in
    rw (e, as_data, t) refl

as_data-none : (rtype : ℕ) (octets : List ℕ) → data_of rtype octets ≡ None → as_data rtype octets ≡ Err BadData
unfolding as_data
as_data-none rtype octets e = rw (e, as_data) refl

some_long : (o : Option (List ℕ)) (b : Bool) → b ≡ true → IsSome o → elim o as (λ _. Result (List ℕ) Cause) [ None ↦ Err BadData | Some own ↦ cond b (Err Limit) (Ok own) ] ≡ Err Limit
some_long None b t h = cc
some_long (Some own) b t h = rw t refl

as_data-long : (rtype : ℕ) (octets : List ℕ) → IsSome (data_of rtype octets) → 4096 < length octets → as_data rtype octets ≡ Err Limit
unfolding as_data
as_data-long rtype octets h long =
    let t : nat_lt 4096 (length octets) ≡ true = grind (arith, nat_tests) in
    some_long (data_of rtype octets) (nat_lt 4096 (length octets)) t h

-- a fault of the octets as data is one of the words
pub IsToldOf-data : (rtype : ℕ) (octets : List ℕ) (reading : Result (List ℕ) Cause) (f : DataFault) → reading ≡ Ok octets → (f ≡ fault.BadLength → data_of rtype octets ≡ None) → (f ≡ fault.TooLong → IsSome (data_of rtype octets) × (4096 < length octets)) → IsToldOf (and_then reading (as_data rtype)) (cause_of_data f)
IsToldOf-data rtype octets reading fault.BadLength e bad long = inr (ap (λ (r : Result (List ℕ) Cause). and_then r (as_data rtype)) e ∙ as_data-none rtype octets (bad refl))
IsToldOf-data rtype octets reading fault.TooLong e bad long =
    let is = long refl in
    inr (ap (λ (r : Result (List ℕ) Cause). and_then r (as_data rtype)) e ∙ as_data-long rtype octets is.0 is.1)
IsToldOf-data rtype octets reading fault.NoMemory e bad long = inl refl

pub data_of_words-ok : (rtype : ℕ) (octets own : List ℕ) (reading : Result (List ℕ) Cause) → reading ≡ Ok octets → data_of rtype octets ≡ Some own → length own ≤ 4096 → and_then reading (as_data rtype) ≡ Ok own
data_of_words-ok rtype octets own reading e is short = ap (λ (r : Result (List ℕ) Cause). and_then r (as_data rtype)) e ∙ as_data-ok rtype octets own is short

-- what is put behind nothing is the whole
pub put_alone : (reading : Result (List ℕ) Cause) (before after : List ℕ) → before ≡ [] → ReadsBehind reading before after → reading ≡ Ok after
put_alone reading before after none put =
    let octets = put.octets in
    let read = put.read in
    let same : after ≡ [] ++ put.front = octets ∙ ap (λ (os : List ℕ). os ++ put.front) none in
    read ∙ ap Ok (sym same)

-- a fault of the words
pub IsToldOf-words : (rtype : ℕ) (reading : Result (List ℕ) Cause) (cause : Cause) → IsToldOf reading cause → IsToldOf (and_then reading (as_data rtype)) cause
IsToldOf-words rtype reading cause (inl none) = inl none
IsToldOf-words rtype reading cause (inr e) = inr (ap (λ (r : Result (List ℕ) Cause). and_then r (as_data rtype)) e)

-- the parts of a reading
and_then_ok : {A B : Type 0} (r : Result A Cause) (f : A → Result B Cause) (y : B) → and_then r f ≡ Ok y → (x : A) × (r ≡ Ok x) × (f x ≡ Ok y)
and_then_ok (Ok x) f y e = (x, refl, e)
and_then_ok (Err cause) f y e = cc

cond_ok : {A : Type 0} (b : Bool) (r : Result A Cause) (cause : Cause) (y : A) → cond b r (Err cause) ≡ Ok y → (b ≡ true) × (r ≡ Ok y)
cond_ok true r cause y e = (refl, e)
cond_ok false r cause y e = cc

-- what is read is data
pub record IsData (rtype : ℕ) (own : List ℕ) : Type 0 where
  pub form : data_of rtype own ≡ Some own
  pub short : length own ≤ 4096

as_data-IsData : (rtype : ℕ) (octets own : List ℕ) (o : Option (List ℕ)) (b : Bool) → data_of rtype octets ≡ o → nat_lt 4096 (length octets) ≡ b → elim o as (λ _. Result (List ℕ) Cause) [ None ↦ Err BadData | Some inner ↦ cond b (Err Limit) (Ok inner) ] ≡ Ok own → IsData rtype own
as_data-IsData rtype octets own None b e t is = cc
as_data-IsData rtype octets own (Some inner) true e t is = cc
as_data-IsData rtype octets own (Some inner) false e t is =
    let same : inner ≡ own = cc in
    let read = IsRead-data rtype octets own (e ∙ ap Some same) in
    let len = read.len in
    record { form = read.again; short = let fits : length octets ≤ 4096 = grind (arith, nat_tests) in omega arith }

pub IsData-read : (rtype : ℕ) (reading : Result (List ℕ) Cause) (own : List ℕ) → and_then reading (as_data rtype) ≡ Ok own → IsData rtype own
unfolding as_data
IsData-read rtype (Ok octets) own is = as_data-IsData rtype octets own (data_of rtype octets) (nat_lt 4096 (length octets)) refl refl is
IsData-read rtype (Err cause) own is = cc

-- octets behind `\#` are at most as many as data may have
size-short : (word : Written) (size : ℕ) → size_of word ≡ Ok size → size ≤ 4096
size-short (Plain text) size e =
    let digits = cond_ok (are_digits text) (cond (nat_le (value_of text) 4096) (Ok (value_of text)) (Err Limit)) Number size e in
    let within = cond_ok (nat_le (value_of text) 4096) (Ok (value_of text)) Limit size digits.1 in
    let same : value_of text ≡ size = let is = within.1 in cc in
    let fits : value_of text ≤ 4096 = let t = within.0 in grind (arith, nat_tests) in
    omega arith
size-short (Quoted text) size e = cc
size-short Unclosed size e = cc

generic-short : (words : List Written) (octets : List ℕ) → generic_of words ≡ Ok octets → length octets ≤ 4096
unfolding generic_of
generic-short [] octets e = cc
generic-short (word ∷ words) octets e =
    let size = and_then_ok (size_of word) (λ size. and_then (hexes_of words) (λ os. cond (length os == size) (Ok os) (Err BadData))) octets e in
    let read = and_then_ok (hexes_of words) (λ os. cond (length os == size.0) (Ok os) (Err BadData)) octets size.2 in
    let test = cond_ok (length read.0 == size.0) (Ok read.0) BadData octets read.2 in
    let same : read.0 ≡ octets = let is = test.1 in cc in
    let all = ap length same in
    let len = (Decides-eqb (length read.0) size.0).0 test.0 in
    let fits = size-short word size.0 size.1 in
    omega arith

-- octets that are data as they stand
own_data-by : (rtype : ℕ) (octets own : List ℕ) (o : Option (List ℕ)) → data_of rtype octets ≡ o → length octets ≤ 4096 → elim o as (λ _. Result (List ℕ) Cause) [ None ↦ Err BadData | Some inner ↦ cond (bytes_eq inner octets) (Ok inner) (Err BadData) ] ≡ Ok own → IsData rtype own
own_data-by rtype octets own None d short e = cc
own_data-by rtype octets own (Some inner) d short e =
    let test = cond_ok (bytes_eq inner octets) (Ok inner) BadData own e in
    let same = (bytes_eq-Decides inner octets).0 test.0 in
    let is : inner ≡ own = let f = test.1 in cc in
    let whole : octets ≡ own = sym same ∙ is in
    let len = ap length whole in
    record { form = ap (data_of rtype) (sym whole) ∙ d ∙ ap Some is; short = omega arith }

own_data-IsData : (rtype : ℕ) (octets own : List ℕ) → length octets ≤ 4096 → as_own_data rtype octets ≡ Ok own → IsData rtype own
unfolding as_own_data
own_data-IsData rtype octets own short e = own_data-by rtype octets own (data_of rtype octets) refl short e

generic-IsData : (rtype : ℕ) (words : List Written) (own : List ℕ) → and_then (generic_of words) (as_own_data rtype) ≡ Ok own → IsData rtype own
generic-IsData rtype words own e =
    let read = and_then_ok (generic_of words) (as_own_data rtype) own e in
    own_data-IsData rtype read.0 own (generic-short words read.0 read.1) read.2

pub IsData-words : (rtype : ℕ) (origin : List (List ℕ)) (words : List Written) (own : List ℕ) → data_of_words rtype origin words ≡ Ok own → IsData rtype own
IsData-words rtype origin words own =
    by_test (λ b. cond b (and_then (generic_of (drop 1 words)) (as_own_data rtype)) (and_then (octets_of_words rtype origin words) (as_data rtype)) ≡ Ok own → IsData rtype own) (are_generic words)
    (λ _ e. generic-IsData rtype (drop 1 words) own e) (λ _ e. IsData-read rtype (octets_of_words rtype origin words) own e)

-- a fault of the octets behind `\#` as data is one of the words
own_data-none : (rtype : ℕ) (octets : List ℕ) → data_of rtype octets ≡ None → as_own_data rtype octets ≡ Err BadData
unfolding as_own_data
own_data-none rtype octets e = rw (e, as_own_data) refl

pub IsToldOf-own : (rtype : ℕ) (octets : List ℕ) (reading : Result (List ℕ) Cause) (f : DataFault) → reading ≡ Ok octets → length octets ≤ 4096 → (f ≡ fault.BadLength → data_of rtype octets ≡ None) → (f ≡ fault.TooLong → IsSome (data_of rtype octets) × (4096 < length octets)) → IsToldOf (and_then reading (as_own_data rtype)) (cause_of_data f)
IsToldOf-own rtype octets reading fault.BadLength e short bad long = inr (ap (λ (r : Result (List ℕ) Cause). and_then r (as_own_data rtype)) e ∙ own_data-none rtype octets (bad refl))
IsToldOf-own rtype octets reading fault.TooLong e short bad long = let is = long refl in let far = is.1 in absurd (omega arith)
IsToldOf-own rtype octets reading fault.NoMemory e short bad long = inl refl

pub IsToldOf-generic : (rtype : ℕ) (reading : Result (List ℕ) Cause) (cause : Cause) → IsToldOf reading cause → IsToldOf (and_then reading (as_own_data rtype)) cause
IsToldOf-generic rtype reading cause (inl none) = inl none
IsToldOf-generic rtype reading cause (inr e) = inr (ap (λ (r : Result (List ℕ) Cause). and_then r (as_own_data rtype)) e)

-- whether they are the data
pub own_data-if : (rtype : ℕ) (octets own : List ℕ) (b : Bool) (reading : Result (List ℕ) Cause) → reading ≡ Ok octets → data_of rtype octets ≡ Some own → b ≡ bytes_eq own octets → and_then reading (as_own_data rtype) ≡ cond b (Ok own) (Err BadData)
unfolding as_own_data
own_data-if rtype octets own b reading e d t =
    ap (λ (r : Result (List ℕ) Cause). and_then r (as_own_data rtype)) e
    ∙ ap (λ (o : Option (List ℕ)). elim o as (λ _. Result (List ℕ) Cause) [ None ↦ Err BadData | Some inner ↦ cond (bytes_eq inner octets) (Ok inner) (Err BadData) ]) d
    ∙ ap (λ (c : Bool). cond c (Ok own) (Err BadData)) (sym t)

-- the words behind `\#`
pub some_word : (words : List Word) → true ≡ are_generic (map written words) → 1 ≤ length words
some_word [] e = cc
some_word (word ∷ words) e = omega arith

pub words_behind : (words : List Word) → drop 1 (map written words) ≡ map written (drop 1 words)
words_behind [] = refl
words_behind (word ∷ words) = refl

pub words_generic : (rtype : ℕ) (origin : List (List ℕ)) (words : List Word) → true ≡ are_generic (map written words) → data_of_words rtype origin (map written words) ≡ and_then (generic_of (map written (drop 1 words))) (as_own_data rtype)
words_generic rtype origin words e =
    ap (λ (b : Bool). cond b (and_then (generic_of (drop 1 (map written words))) (as_own_data rtype)) (and_then (octets_of_words rtype origin (map written words)) (as_data rtype))) (sym e)
    ∙ ap (λ (ws : List Written). and_then (generic_of ws) (as_own_data rtype)) (words_behind words)

pub words_in_form : (rtype : ℕ) (origin : List (List ℕ)) (words : List Word) → false ≡ are_generic (map written words) → data_of_words rtype origin (map written words) ≡ and_then (octets_of_words rtype origin (map written words)) (as_data rtype)
words_in_form rtype origin words e =
    ap (λ (b : Bool). cond b (and_then (generic_of (drop 1 (map written words))) (as_own_data rtype)) (and_then (octets_of_words rtype origin (map written words)) (as_data rtype))) (sym e)

-- the octets behind `\#`, one step after another
pub generic-none : (words : List Word) → length words ≡ 0 → generic_of (map written words) ≡ Err BadData
unfolding generic_of
generic-none [] e = refl
generic-none (word ∷ words) e = absurd (omega arith)

-- what is read behind the size
abbrev sized : List Word → ℕ → Result (List ℕ) Cause
sized behind size = and_then (hexes_of (map written behind)) (λ octets. cond (length octets == size) (Ok octets) (Err BadData))

generic-first : (words behind : List Word) (first : Word) → words ≡ first ∷ behind → generic_of (map written words) ≡ and_then (size_of (written first)) (sized behind)
unfolding generic_of
generic-first words behind first e = ap (λ (ws : List Word). generic_of (map written ws)) e

generic-sized : (words behind : List Word) (first : Word) (size : ℕ) → words ≡ first ∷ behind → size_of (written first) ≡ Ok size → generic_of (map written words) ≡ sized behind size
generic-sized words behind first size e s = generic-first words behind first e ∙ ap (λ (r : Result ℕ Cause). and_then r (sized behind)) s

pub generic-size : (words behind : List Word) (first : Word) (cause : Cause) → words ≡ first ∷ behind → size_of (written first) ≡ Err cause → IsToldOf (generic_of (map written words)) cause
generic-size words behind first cause e s = inr (generic-first words behind first e ∙ ap (λ (r : Result ℕ Cause). and_then r (sized behind)) s)

pub generic-hexes : (words behind : List Word) (first : Word) (size : ℕ) (cause : Cause) → words ≡ first ∷ behind → size_of (written first) ≡ Ok size → IsToldOf (hexes_of (map written behind)) cause → IsToldOf (generic_of (map written words)) cause
generic-hexes words behind first size cause e s (inl none) = inl none
generic-hexes words behind first size cause e s (inr fault) =
    inr (generic-sized words behind first size e s ∙ ap (λ (r : Result (List ℕ) Cause). and_then r (λ octets. cond (length octets == size) (Ok octets) (Err BadData))) fault)

pub generic-all : (words behind : List Word) (first : Word) (size : ℕ) (octets : List ℕ) (b : Bool) → words ≡ first ∷ behind → size_of (written first) ≡ Ok size → hexes_of (map written behind) ≡ Ok octets → (length octets == size) ≡ b → generic_of (map written words) ≡ cond b (Ok octets) (Err BadData)
generic-all words behind first size octets b e s h t =
    generic-sized words behind first size e s
    ∙ ap (λ (r : Result (List ℕ) Cause). and_then r (λ os. cond (length os == size) (Ok os) (Err BadData))) h
    ∙ ap (λ (c : Bool). cond c (Ok octets) (Err BadData)) t

pub equal_test : (m n : ℕ) → m ≡ n → (m == n) ≡ true
equal_test m n e = eq-eqb m n e

pub other_test : (m n : ℕ) → (m ≡ n → ⊥) → (m == n) ≡ false
other_test m n e = grind (arith, nat_tests)
