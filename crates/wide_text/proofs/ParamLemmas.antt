-- Parameters, one after the other.
use Rattle.std.proofs.Common.{◌≡◌, ℕ, zero, suc, ◌+◌, ◌-◌, ◌<◌, ◌≤◌, ◌⊎◌, inl, inr, Bool, true, false, cond, ◌==◌, List, [], ◌∷◌, map, length, take, drop, get_or, Result, Ok, Err, refl, sym, ap, ◌∙◌, arith}
use Rattle.std.specs.Int.{from_be_bytes, w16}
use Rattle.std.proofs.lemmas.Bool.Decides.{nat_tests, Decides-eqb}
use Rattle.std.proofs.lemmas.List.{at_drop_more, take_rest}
use Rattle.record_text.specs.Data.{IsToldOf}
use Rattle.record_text.specs.Reading.{and_then}
use Rattle.record_text.specs.declared.cause.Cause.{Cause}
use Rattle.record_text.specs.declared.cause.Cause.TheVariants.{BadData, NoMemory}
use Rattle.wide_text.specs.Params.{Keyed, Part, after, first_in, key_len, keys_among, list_from, list_of, param_among, params_among, put_among}
use Rattle.wide_text.specs.declared.params.Item.{Item}
use Rattle.zone_lexing.specs.Word.{Written, written}
use Rattle.zone_lexing.specs.Word.Written.{Plain, Quoted, Unclosed}
use Rattle.zone_lexing.specs.declared.word.Word.{Word}

pub some_left : (n : ℕ) (b : Bool) → b ≡ (n == 0) → b ≡ false → 0 < n
some_left n b e t = grind (arith, nat_tests)

pub none_left : (n : ℕ) (b : Bool) → b ≡ (n == 0) → b ≡ true → n ≡ 0
none_left n b e t = (Decides-eqb n 0).0 (sym e ∙ t)

-- the keys of octets, one after the other
pub keys_on : (keys next : List Keyed) (rest : List ℕ) (all : Result (List Keyed) Cause) → 2 ≤ length rest
    → put_among (record { key = from_be_bytes w16 (get_or rest 0 0 ∷ get_or rest 1 0 ∷ []); octets = get_or rest 0 0 ∷ get_or rest 1 0 ∷ [] }) keys ≡ Ok next
    → keys_among keys rest ≡ all → keys_among next (take (length rest - 2) (drop 2 rest)) ≡ all
keys_on keys next [] all some put way = absurd (omega arith)
keys_on keys next (a ∷ []) all some put way = absurd (omega arith)
keys_on keys next (a ∷ b ∷ octets) all some put way =
    ap (keys_among next) (take_rest (a ∷ b ∷ octets) 2) ∙ sym (ap (λ (r : Result (List Keyed) Cause). and_then r (λ (ks : List Keyed). keys_among ks octets)) put) ∙ way

-- a fault of a key is one of all
pub keys_told : (keys : List Keyed) (rest : List ℕ) (all : Result (List Keyed) Cause) (cause : Cause) → 2 ≤ length rest → keys_among keys rest ≡ all
    → IsToldOf (put_among (record { key = from_be_bytes w16 (get_or rest 0 0 ∷ get_or rest 1 0 ∷ []); octets = get_or rest 0 0 ∷ get_or rest 1 0 ∷ [] }) keys) cause → IsToldOf all cause
keys_told keys [] all cause some way told = absurd (omega arith)
keys_told keys (a ∷ []) all cause some way told = absurd (omega arith)
keys_told keys (a ∷ b ∷ octets) all cause some way (inl none) = inl none
keys_told keys (a ∷ b ∷ octets) all cause some way (inr fault) =
    inr (sym way ∙ ap (λ (r : Result (List Keyed) Cause). and_then r (λ (ks : List Keyed). keys_among ks octets)) fault)

-- no key is left, or one octet
pub keys_end : (keys : List Keyed) (rest : List ℕ) (all : Result (List Keyed) Cause) → length rest ≡ 0 → keys_among keys rest ≡ all → all ≡ Ok keys
keys_end keys [] all none way = sym way
keys_end keys (a ∷ rest) all none way = absurd (omega arith)

pub keys_odd : (keys : List Keyed) (rest : List ℕ) (all : Result (List Keyed) Cause) → length rest < 2 → 0 < length rest → keys_among keys rest ≡ all → all ≡ Err BadData
keys_odd keys [] all few some way = absurd (omega arith)
keys_odd keys (a ∷ []) all few some way = sym way
keys_odd keys (a ∷ b ∷ rest) all few some way = absurd (omega arith)

-- a fault in a list
pub list_told : (kind : Item) (escaped : Bool) (list own octets : List ℕ) (i : ℕ) (cause : Cause) → i < length octets → after list (list_from kind escaped own (drop i octets)) ≡ list_of kind octets
    → (cause ≡ NoMemory) ⊎ ((rest : List ℕ) → list_from kind escaped own (get_or octets i 0 ∷ rest) ≡ Err cause) → IsToldOf (list_of kind octets) cause
list_told kind escaped list own octets i cause h way (inl none) = inl none
list_told kind escaped list own octets i cause h way (inr fault) =
    inr (sym way ∙ at_drop_more (λ (os : List ℕ). after list (list_from kind escaped own os)) octets i 0 h ∙ ap (after list) (fault (drop (i + 1) octets)))

-- the first parameter, and those after it
abbrev before : List Keyed → List Written → Part → Result (List Keyed) Cause
before params words p = and_then (param_among params p.key p.value) (λ next. params_among next (drop p.count words))

abbrev quoted_part : List ℕ → List ℕ → Part
quoted_part text value = record { key = take (key_len text) text; value = value; count = 2 }

abbrev one_part : List ℕ → Part
one_part text = record { key = take (key_len text) text; value = drop (key_len text + 1) text; count = 1 }

abbrev part_if : Bool → List ℕ → List ℕ → Result Part Cause
part_if b text value = cond b (Ok (quoted_part text value)) (Err BadData)

abbrev quoted_among : Bool → List Keyed → List ℕ → List ℕ → List Written → Result (List Keyed) Cause
quoted_among b params text value words = cond b (and_then (param_among params (take (key_len text) text) value) (λ next. params_among next words)) (Err BadData)

quoted_first : (params : List Keyed) (text value : List ℕ) (words : List Written) (p : Part) (b : Bool) → part_if b text value ≡ Ok p
    → quoted_among b params text value words ≡ before params (Plain text ∷ Quoted value ∷ words) p
quoted_first params text value words p true e =
    let same : quoted_part text value ≡ p = cc in
    ap (before params (Plain text ∷ Quoted value ∷ words)) same
quoted_first params text value words p false e = cc

one_first : (params : List Keyed) (text : List ℕ) (words : List Written) (p : Part) → one_part text ≡ p
    → and_then (param_among params (take (key_len text) text) (drop (key_len text + 1) text)) (λ next. params_among next words) ≡ before params (Plain text ∷ words) p
one_first params text words p e =
    ap (before params (Plain text ∷ words)) e

params_first : (params : List Keyed) (words : List Written) (p : Part) → first_in words ≡ Ok p → params_among params words ≡ before params words p
params_first params [] p e = cc
params_first params (Plain text ∷ Quoted value ∷ words) p e = quoted_first params text value words p (key_len text + 1 == length text) e
params_first params (Plain text ∷ []) p e = one_first params text [] p cc
params_first params (Plain text ∷ Plain other ∷ words) p e = one_first params text (Plain other ∷ words) p cc
params_first params (Plain text ∷ Unclosed ∷ words) p e = one_first params text (Unclosed ∷ words) p cc
params_first params (Quoted value ∷ words) p e = cc
params_first params (Unclosed ∷ words) p e = cc

quoted_none : (params : List Keyed) (text value : List ℕ) (words : List Written) (cause : Cause) (b : Bool) → part_if b text value ≡ Err cause
    → quoted_among b params text value words ≡ Err cause
quoted_none params text value words cause true e = cc
quoted_none params text value words cause false e = cc

params_none : (params : List Keyed) (words : List Written) (cause : Cause) → 0 < length words → first_in words ≡ Err cause → params_among params words ≡ Err cause
params_none params [] cause some e = absurd (omega arith)
params_none params (Plain text ∷ Quoted value ∷ words) cause some e = quoted_none params text value words cause (key_len text + 1 == length text) e
params_none params (Plain text ∷ []) cause some e = cc
params_none params (Plain text ∷ Plain other ∷ words) cause some e = cc
params_none params (Plain text ∷ Unclosed ∷ words) cause some e = cc
params_none params (Quoted value ∷ words) cause some e = cc
params_none params (Unclosed ∷ words) cause some e = cc

map_drop : (n : ℕ) (words : List Word) → map written (drop n words) ≡ drop n (map written words)
map_drop zero words = refl
map_drop (suc n) [] = refl
map_drop (suc n) (word ∷ words) = map_drop n words

-- what follows a parameter
abbrev go_on : List Written → Result (List Keyed) Cause → Result (List Keyed) Cause
go_on words r = and_then r (λ (next : List Keyed). params_among next words)

-- a parameter is put among others, and those after it are left
pub params_step : (old new : List Keyed) (words : List Word) (p : Part) → first_in (map written words) ≡ Ok p → param_among old p.key p.value ≡ Ok new
    → params_among new (map written (take (length words - p.count) (drop p.count words))) ≡ params_among old (map written words)
params_step old new words p is put =
    ap (λ (ws : List Word). params_among new (map written ws)) (take_rest words p.count)
    ∙ ap (λ (ws : List Written). params_among new ws) (map_drop p.count words)
    ∙ sym (ap (go_on (drop p.count (map written words))) put)
    ∙ sym (params_first old (map written words) p is)

-- a fault of the first parameter is one of all
pub params_told : (params : List Keyed) (words : List Word) (p : Part) (all : Result (List Keyed) Cause) (cause : Cause) → first_in (map written words) ≡ Ok p
    → params_among params (map written words) ≡ all → IsToldOf (param_among params p.key p.value) cause → IsToldOf all cause
params_told params words p all cause is way (inl none) = inl none
params_told params words p all cause is way (inr fault) =
    inr (sym way ∙ params_first params (map written words) p is ∙ ap (go_on (drop p.count (map written words))) fault)

some_written : (words : List Word) → 0 < length words → 0 < length (map written words)
some_written [] h = h
some_written (w ∷ words) h = omega arith

pub params_refused : (params : List Keyed) (words : List Word) (all : Result (List Keyed) Cause) (cause : Cause) → 0 < length words → first_in (map written words) ≡ Err cause
    → params_among params (map written words) ≡ all → all ≡ Err cause
params_refused params words all cause some is way = sym way ∙ params_none params (map written words) cause (some_written words some) is

-- no parameter is left
pub params_end : (params : List Keyed) (words : List Word) (all : Result (List Keyed) Cause) → length words ≡ 0 → params_among params (map written words) ≡ all → all ≡ Ok params
params_end params [] all none way = sym way
params_end params (word ∷ words) all none way = absurd (omega arith)
