-- The words of parameters and places are spelt.
use Rattle.std.proofs.Common.{◌≡◌, ℕ, zero, suc, ◌+◌, ◌-◌, ◌*◌, ◌/◌, ◌%◌, ◌^◌, ◌<◌, ◌≤◌, Bool, true, false, cond, ◌&&◌, ◌||◌, ◌==◌, nat_le, nat_lt, List, [], ◌∷◌, ◌++◌, length, take, drop, flat_map, codes, decimal, get_or, All, Option, Some, None, IfSome, option_map, refl, ap, ◌∙◌, arith}
use Rattle.std.specs.Int.{from_be_bytes, w16}
use Rattle.std.specs.List.{AllByRecursion, find, list_all}
use Rattle.std.specs.Net.Addr.{segments_of}
use Rattle.std.specs.Net.Text.{dotted_text}
use Rattle.std.proofs.lemmas.Bool.Decides.{nat_tests}
use Rattle.std.proofs.lemmas.List.{append_assoc}
use Rattle.std.proofs.lemmas.List.Elements.{All-head, All-tail, All-drop, All-take}
use Rattle.base64.specs.Engines.{standard}
use Rattle.base64.specs.GeneralPurpose.{encode_of}
use Rattle.dns_name.specs.Text.{digits_of}
use Rattle.record_text.specs.Generic.{are_generic, generic_mark}
use Rattle.record_text.specs.Text.{group_text, groups_text}
use Rattle.record_text.proofs.BackLemmas.{AreOctets}
use Rattle.record_text.proofs.GenericLemmas.{decimal_some}
use Rattle.record_text.proofs.NumberLemmas.{by_test}
use Rattle.record_text.proofs.SpeltLemmas.{AreSpelt, digits_pass, first_spelt, segments_small}
use Rattle.wide_text.specs.LocationWords.{altitude_text, angle_words, location_words, metres_text, number_at, place_words, seconds_text, side_words, size_text}
use Rattle.wide_text.specs.Mnemonics.{Mnemonic, word_numbered}
use Rattle.wide_text.specs.ParamWords.{address6_item, address_item, base64_text, item_len, item_octet, item_text, items_text, key_item, key_text, list_text, octets_text, param_text, param_words, params_words, port_text, protocol_item, value_octet, value_text}
use Rattle.wide_text.specs.Params.{param_keys}
use Rattle.wide_text.specs.declared.params.Item.{Item}
use Rattle.wide_text.specs.declared.params.Item.TheVariants as item
use Rattle.zone_lexing.specs.Spelling.{is_spelt}
use Rattle.zone_lexing.specs.Word.{Written}
use Rattle.zone_lexing.specs.Word.Written.{Plain}
use Rattle.zone_lexing.proofs.RunLemmas.{Passes, both_pass, each_passes, escaped_passes, of_word, spelt_plain}
use Rattle.wide_text.proofs.BareLemmas.{AreBare, IsGood, bare_good, bare_other, bare_passes, base64_bare, both_bare, cons_bare, decimal_bare, decimal_good, glyph_stop, group_bare, some_front, stops, stops_passes}

-- what is found in a list has what each of it has
found_by : {X : Type 0} (P : X → Type 0) (b : Bool) (x : X) (rest : Option X) → P x → IfSome rest P → IfSome (cond b (Some x) rest) P
found_by P true x rest h k = h
found_by P false x rest h k = k

pub found : {X : Type 0} (P : X → Type 0) (test : X → Bool) (xs : List X) → AllByRecursion P xs → IfSome (find test xs) P
found P test [] h = tt
found P test (x ∷ xs) h = found_by P (test x) x (find test xs) h.0 (found P test xs h.1)

-- a text of bare octets, one or more
abbrev pub IsBareText : List ℕ → Type 0
IsBareText text = (0 < length text) × AreBare text

pub text_good : (text : List ℕ) → IsBareText text → IsGood (Plain text)
text_good text h = bare_good text h.0 h.1

-- keys
abbrev IsBareWord : Mnemonic → Type 0
IsBareWord mnemonic = IsBareText mnemonic.word

words_bare : AllByRecursion IsBareWord param_keys
unfolding param_keys
words_bare = ((omega arith, refl), ((omega arith, refl), ((omega arith, refl), ((omega arith, refl), ((omega arith, refl), ((omega arith, refl), ((omega arith, refl), tt)))))))

key_by : (key : ℕ) (found : Option Mnemonic) → IfSome found IsBareWord
    → IsBareText (elim (option_map (λ (m : Mnemonic). m.word) found) as (λ _. List ℕ) [ Some word ↦ word | None ↦ codes "key" ++ decimal key ])
key_by key (Some mnemonic) h = h
key_by key None h = (some_front (codes "key") (decimal key) (omega arith), both_bare (codes "key") (decimal key) refl (decimal_bare key))

key_bare : (key : ℕ) → IsBareText (key_text key)
key_bare key = key_by key (find (λ (m : Mnemonic). m.number == key) param_keys) (found IsBareWord (λ (m : Mnemonic). m.number == key) param_keys words_bare)

-- octets of values
special_no_end : (c : ℕ) → (c == 34 || c == 40 || c == 41 || c == 59 || c == 92) ≡ true → ((c == 10) ≡ false) × ((c == 13) ≡ false)
special_no_end c e = (grind (arith, nat_tests), grind (arith, nat_tests))

printed_stop : (c : ℕ) → (nat_lt c 33 || nat_lt 126 c) ≡ false → (c == 34 || c == 40 || c == 41 || c == 59 || c == 92) ≡ false → stops c ≡ false
printed_stop c inside e = grind (arith, nat_tests)

value_passes : (c : ℕ) → Passes of_word (value_octet c)
value_passes c =
    by_test (λ b. Passes of_word (cond b (92 ∷ digits_of c) (cond (c == 34 || c == 40 || c == 41 || c == 59 || c == 92) (92 ∷ c ∷ []) (c ∷ [])))) (nat_lt c 33 || nat_lt 126 c) (λ _. digits_pass of_word c)
    (λ inside. by_test (λ b. Passes of_word (cond b (92 ∷ c ∷ []) (c ∷ []))) (c == 34 || c == 40 || c == 41 || c == 59 || c == 92)
    (λ e. escaped_passes of_word c (special_no_end c e).0 (special_no_end c e).1)
    (λ e. stops_passes c (printed_stop c inside e)))

item_passes : (c : ℕ) → Passes of_word (item_octet c)
item_passes c =
    by_test (λ b. Passes of_word (cond b (value_octet 92 ++ value_octet c) (value_octet c))) (c == 44 || c == 92) (λ _. both_pass of_word (value_octet 92) (value_octet c) (value_passes 92) (value_passes c)) (λ _. value_passes c)

-- addresses
dotted_bare : (a b c d : ℕ) → AreBare (dotted_text a b c d)
dotted_bare a b c d =
    let dot : List ℕ = 46 ∷ [] in
    let one = both_bare (decimal a) dot (decimal_bare a) refl in
    let two = both_bare (decimal a ++ dot ++ decimal b) dot (both_bare (decimal a ++ dot) (decimal b) one (decimal_bare b)) refl in
    let three = both_bare (decimal a ++ dot ++ decimal b ++ dot ++ decimal c) dot (both_bare (decimal a ++ dot ++ decimal b ++ dot) (decimal c) two (decimal_bare c)) refl in
    both_bare (decimal a ++ dot ++ decimal b ++ dot ++ decimal c ++ dot) (decimal d) three (decimal_bare d)

more_groups : (groups : List ℕ) → All (λ n. n < 65536) groups → AreBare (flat_map (λ next. 58 ∷ group_text next) groups)
more_groups [] h = refl
more_groups (n ∷ groups) h =
    both_bare (58 ∷ group_text n) (flat_map (λ (next : ℕ). 58 ∷ group_text next) groups) (group_bare n (All-head (λ (x : ℕ). x < 65536) n groups h)) (more_groups groups (All-tail (λ (x : ℕ). x < 65536) n groups h))

groups_bare : (groups : List ℕ) → All (λ n. n < 65536) groups → AreBare (groups_text groups)
groups_bare [] h = refl
groups_bare (n ∷ groups) h =
    both_bare (group_text n) (flat_map (λ (next : ℕ). 58 ∷ group_text next) groups) (group_bare n (All-head (λ (x : ℕ). x < 65536) n groups h)) (more_groups groups (All-tail (λ (x : ℕ). x < 65536) n groups h))

-- items
nothing_passes : Passes of_word []
nothing_passes = λ more. refl

key_item-passes : (octets : List ℕ) → Passes of_word (key_item octets)
key_item-passes [] = nothing_passes
key_item-passes (a ∷ []) = nothing_passes
key_item-passes (a ∷ b ∷ []) = let key = from_be_bytes w16 (a ∷ b ∷ []) in bare_passes (key_text key) (key_bare key).1
key_item-passes (a ∷ b ∷ c ∷ octets) = nothing_passes

protocol-passes : (octets : List ℕ) → Passes of_word (protocol_item octets)
protocol-passes [] = nothing_passes
protocol-passes (n ∷ octets) = each_passes of_word item_octet item_passes octets

address-passes : (octets : List ℕ) → Passes of_word (address_item octets)
address-passes [] = nothing_passes
address-passes (a ∷ []) = nothing_passes
address-passes (a ∷ b ∷ []) = nothing_passes
address-passes (a ∷ b ∷ c ∷ []) = nothing_passes
address-passes (a ∷ b ∷ c ∷ d ∷ []) = bare_passes (dotted_text a b c d) (dotted_bare a b c d)
address-passes (a ∷ b ∷ c ∷ d ∷ e ∷ octets) = nothing_passes

address6_by : (octets : List ℕ) (b : Bool) → AreOctets octets → Passes of_word (cond b (groups_text (segments_of octets)) [])
address6_by octets true h = bare_passes (groups_text (segments_of octets)) (groups_bare (segments_of octets) (segments_small octets h))
address6_by octets false h = nothing_passes

item_text-passes : (kind : Item) (octets : List ℕ) → AreOctets octets → Passes of_word (item_text kind octets)
unfolding item_text
item_text-passes item.Key octets h = key_item-passes octets
item_text-passes item.Protocol octets h = protocol-passes octets
item_text-passes item.Address octets h = address-passes octets
item_text-passes item.Address6 octets h = address6_by octets (length octets == 16) h

items-pass : (most : ℕ) (kind : Item) (mark : ℕ) (octets : List ℕ) → stops mark ≡ false → AreOctets octets → Passes of_word (items_text most kind mark octets)
items-pass zero kind mark octets m h = nothing_passes
items-pass (suc most) kind mark [] m h = nothing_passes
items-pass (suc most) kind mark (first ∷ octets) m h =
    let len = item_len kind first in
    let all = first ∷ octets in
    both_pass of_word (mark ∷ item_text kind (take len all)) (items_text most kind 44 (drop len all))
    (both_pass of_word (mark ∷ []) (item_text kind (take len all)) (stops_passes mark m) (item_text-passes kind (take len all) (All-take (λ (x : ℕ). x < 256) len all h)))
    (items-pass most kind 44 (drop len all) refl (All-drop (λ (x : ℕ). x < 256) len all h))

list-passes : (kind : Item) (octets : List ℕ) → AreOctets octets → Passes of_word (list_text kind octets)
list-passes kind octets h = items-pass (length octets) kind 61 octets refl h

-- values
sign_passes : (text : List ℕ) → Passes of_word text → Passes of_word (61 ∷ text)
sign_passes text h = both_pass of_word (61 ∷ []) text (stops_passes 61 refl) h

port-passes : (octets : List ℕ) → Passes of_word (port_text octets)
port-passes [] = nothing_passes
port-passes (a ∷ []) = nothing_passes
port-passes (a ∷ b ∷ []) = let port = from_be_bytes w16 (a ∷ b ∷ []) in sign_passes (decimal port) (bare_passes (decimal port) (decimal_bare port))
port-passes (a ∷ b ∷ c ∷ octets) = nothing_passes

base64-passes : (octets : List ℕ) → Passes of_word (base64_text octets)
base64-passes [] = nothing_passes
base64-passes (c ∷ octets) = let text = encode_of standard (c ∷ octets) in sign_passes text (bare_passes text (base64_bare (c ∷ octets)))

octets-pass : (octets : List ℕ) → Passes of_word (octets_text octets)
octets-pass [] = nothing_passes
octets-pass (c ∷ octets) = sign_passes (flat_map value_octet (c ∷ octets)) (each_passes of_word value_octet value_passes (c ∷ octets))

value_by : (a b c d e f : Bool) (octets : List ℕ) → AreOctets octets
    → Passes of_word (cond a (list_text item.Key octets) (cond b (list_text item.Protocol octets) (cond c (port_text octets) (cond d (list_text item.Address octets) (cond e (base64_text octets) (cond f (list_text item.Address6 octets) (octets_text octets)))))))
value_by true b c d e f octets h = list-passes item.Key octets h
value_by false true c d e f octets h = list-passes item.Protocol octets h
value_by false false true d e f octets h = port-passes octets
value_by false false false true e f octets h = list-passes item.Address octets h
value_by false false false false true f octets h = base64-passes octets
value_by false false false false false true octets h = list-passes item.Address6 octets h
value_by false false false false false false octets h = octets-pass octets

value_text-passes : (key : ℕ) (octets : List ℕ) → AreOctets octets → Passes of_word (value_text key octets)
unfolding value_text
value_text-passes key octets h = value_by (key == 0) (key == 1) (key == 3) (key == 4) (key == 5) (key == 6) octets h

-- parameters
param_good : (key : ℕ) (octets : List ℕ) → AreOctets octets → IsGood (Plain (param_text key octets))
param_good key octets h =
    let name = key_bare key in (
      spelt_plain (key_text key ++ value_text key octets) (some_front (key_text key) (value_text key octets) name.0)
          (both_pass of_word (key_text key) (value_text key octets) (bare_passes (key_text key) name.1) (value_text-passes key octets h)),
      λ words. bare_other (key_text key) (value_text key octets) name.0 name.1,
    )

-- words that are spelt, and the first of which isn't `\#`
abbrev pub AreGood : List Written → Type 0
AreGood words = AreSpelt words × (are_generic words ≡ false)

pub more_good : (word : Written) (words : List Written) → IsGood word → AreSpelt words → AreGood (word ∷ words)
more_good word words h k = (first_spelt word words h.0 k, h.1 words)

params_good : (most : ℕ) (octets : List ℕ) → AreOctets octets → AreGood (params_words most octets)
params_good zero octets h = (refl, refl)
params_good (suc most) [] h = (refl, refl)
params_good (suc most) (a ∷ []) h = (refl, refl)
params_good (suc most) (a ∷ b ∷ []) h = (refl, refl)
params_good (suc most) (a ∷ b ∷ c ∷ []) h = (refl, refl)
params_good (suc most) (a ∷ b ∷ c ∷ d ∷ octets) h =
    let all = a ∷ b ∷ c ∷ d ∷ octets in
    let len = from_be_bytes w16 (c ∷ d ∷ []) in
    let key = from_be_bytes w16 (a ∷ b ∷ []) in
    let rest : AreOctets octets = All-drop (λ (x : ℕ). x < 256) 4 all h in
    more_good (Plain (param_text key (take len octets))) (params_words most (drop len octets)) (param_good key (take len octets) (All-take (λ (x : ℕ). x < 256) len octets rest))
    (params_good most (drop len octets) (All-drop (λ (x : ℕ). x < 256) len octets rest)).0

pub param_words-good : (octets : List ℕ) → AreOctets octets → AreGood (param_words octets)
param_words-good octets h = params_good (length octets) octets h

-- places
seconds_bare : (n : ℕ) → IsBareText (seconds_text n)
seconds_bare n =
    let m = n % 1000 in
    let point = 46 ∷ digits_of m in
    let digits : AreBare (digits_of m) = cons_bare (48 + m / 100) ((48 + m / 10 % 10) ∷ (48 + m % 10) ∷ []) (glyph_stop (m / 100) (omega arith))
    (cons_bare (48 + m / 10 % 10) ((48 + m % 10) ∷ []) (glyph_stop (m / 10 % 10) (omega arith)) (cons_bare (48 + m % 10) [] (glyph_stop (m % 10) (omega arith)) refl)) in
    (some_front (decimal (n / 1000)) point (decimal_some (n / 1000)), both_bare (decimal (n / 1000)) point (decimal_bare (n / 1000)) digits)

metres_bare : (n : ℕ) → IsBareText (metres_text n)
metres_bare n =
    let high = n % 100 / 10 in
    let low = n % 10 in
    let after = 46 ∷ (48 + high) ∷ (48 + low) ∷ 109 ∷ [] in
    let digits : AreBare ((48 + high) ∷ (48 + low) ∷ 109 ∷ []) = cons_bare (48 + high) ((48 + low) ∷ 109 ∷ []) (glyph_stop high (omega arith)) (cons_bare (48 + low) (109 ∷ []) (glyph_stop low (omega arith)) refl) in
    (some_front (decimal (n / 100)) after (decimal_some (n / 100)), both_bare (decimal (n / 100)) after (decimal_bare (n / 100)) digits)

altitude_by : (b : Bool) (above below : ℕ) → IsBareText (cond b (metres_text above) (45 ∷ metres_text below))
altitude_by true above below = metres_bare above
altitude_by false above below = (omega arith, (metres_bare below).1)

both_spelt : (xs ys : List Written) → AreSpelt xs → AreSpelt ys → AreSpelt (xs ++ ys)
both_spelt [] ys h k = k
both_spelt (x ∷ xs) ys h k = let parts = by (is_spelt x) (list_all is_spelt xs) h in first_spelt x (xs ++ ys) parts.0 (both_spelt xs ys parts.1 k)
  where
    by : (a b : Bool) → (a && b) ≡ true → (a ≡ true) × (b ≡ true)
    by true b e = (refl, e)
    by false b e = cc

side_good : (letter : List ℕ) (n : ℕ) → IsBareText letter → AreGood (side_words letter n)
side_good letter n h =
    let degrees = decimal (n / 3600000) in
    let minutes = decimal (n / 60000 % 60) in
    let seconds = seconds_text (n % 60000) in
    more_good (Plain degrees) (Plain minutes ∷ Plain seconds ∷ Plain letter ∷ []) (decimal_good (n / 3600000))
    (first_spelt (Plain minutes) (Plain seconds ∷ Plain letter ∷ []) (decimal_good (n / 60000 % 60)).0
    (first_spelt (Plain seconds) (Plain letter ∷ []) (text_good seconds (seconds_bare (n % 60000))).0 (first_spelt (Plain letter) [] (text_good letter h).0 refl)))

-- words after those of an angle
angle_by : (b : Bool) (above below : List ℕ) (high low : ℕ) (more : List Written) → IsBareText above → IsBareText below → AreSpelt more → AreGood (cond b (side_words above high) (side_words below low) ++ more)
angle_by true above below high low more h k spelt = (both_spelt (side_words above high) more (side_good above high h).0 spelt, (decimal_good (high / 3600000)).1 [])
angle_by false above below high low more h k spelt = (both_spelt (side_words below low) more (side_good below low k).0 spelt, (decimal_good (low / 3600000)).1 [])

angle_good : (above below : List ℕ) (angle : ℕ) (more : List Written) → IsBareText above → IsBareText below → AreSpelt more → AreGood (angle_words above below angle ++ more)
angle_good above below angle more h k spelt = angle_by (nat_le 2147483648 angle) above below (angle - 2147483648) (2147483648 - angle) more h k spelt

joined : (xs ys zs : List Written) → AreGood (xs ++ (ys ++ zs)) → AreGood ((xs ++ ys) ++ zs)
joined xs ys zs h = rw append_assoc h

place_good : (octets : List ℕ) → AreGood (place_words octets)
place_good octets =
    let north = angle_words (codes "N") (codes "S") (number_at 4 octets) in
    let east = angle_words (codes "E") (codes "W") (number_at 8 octets) in
    let altitude = altitude_text (number_at 12 octets) in
    let sizes = Plain (size_text (get_or octets 1 0)) ∷ Plain (size_text (get_or octets 2 0)) ∷ Plain (size_text (get_or octets 3 0)) ∷ [] in
    let size = λ (i : ℕ). (text_good (size_text (get_or octets i 0)) (metres_bare (get_or octets i 0 / 16 * 10 ^ (get_or octets i 0 % 16)))).0 in
    let spelt : AreSpelt sizes = first_spelt (Plain (size_text (get_or octets 1 0))) (Plain (size_text (get_or octets 2 0)) ∷ Plain (size_text (get_or octets 3 0)) ∷ []) (size 1)
    (first_spelt (Plain (size_text (get_or octets 2 0))) (Plain (size_text (get_or octets 3 0)) ∷ []) (size 2) (first_spelt (Plain (size_text (get_or octets 3 0))) [] (size 3) refl)) in
    let high : AreSpelt (Plain altitude ∷ sizes) = first_spelt (Plain altitude) sizes (text_good altitude (altitude_by (nat_le 10000000 (number_at 12 octets)) (number_at 12 octets - 10000000) (10000000 - number_at 12 octets))).0 spelt in
    joined north east (Plain altitude ∷ sizes)
    (angle_good (codes "N") (codes "S") (number_at 4 octets) (east ++ (Plain altitude ∷ sizes)) (omega arith, refl) (omega arith, refl)
    (angle_good (codes "E") (codes "W") (number_at 8 octets) (Plain altitude ∷ sizes) (omega arith, refl) (omega arith, refl) high).0)

location_by : (octets : List ℕ) (b : Bool) → AreGood (cond b (place_words octets) [])
location_by octets true = place_good octets
location_by octets false = (refl, refl)

pub location_words-good : (octets : List ℕ) → AreGood (location_words octets)
location_words-good octets = location_by octets (length octets == 16)
