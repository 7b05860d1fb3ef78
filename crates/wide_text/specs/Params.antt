-- Parameters of services as words, and their octets in ascending order of their keys (RFC 9460, 2.1, 2.2, 7, 8 and A.1).
use Rattle.std.specs.Prelude.{ℕ, ◌+◌, Bool, true, false, ◌&&◌, ◌==◌, List, [], ◌∷◌, ◌++◌, length, take, drop, flat_map, codes, nat_lt, nat_le, if◌then◌else◌, Some, None, Result, Ok, Err, ok_or}
use Rattle.std.specs.Int.{from_be_bytes, to_be_bytes, w16}
use Rattle.record_text.specs.Address.{address_of, address6_of}
use Rattle.record_text.specs.Mnemonics.{is_word}
use Rattle.record_text.specs.Number.{number_of}
use Rattle.record_text.specs.Reading.{on_ok, and_then}
use Rattle.record_text.specs.Strings.{unescaped}
use Rattle.record_text.specs.declared.cause.Cause.{Cause}
use Rattle.record_text.specs.declared.cause.Cause.TheVariants.{BadData}
use Rattle.record_text.specs.declared.cause.Cause.TheVariants as cause
use Rattle.wide_text.specs.Encoded.{base64_in}
use Rattle.wide_text.specs.Mnemonics.{Mnemonic, number_named}
use Rattle.wide_text.specs.declared.keyed.Keyed as declared
use Rattle.wide_text.specs.declared.params.Item.{Item}
use Rattle.wide_text.specs.declared.params.Item.TheVariants as item
use Rattle.zone_lexing.specs.Word.{Written}
use Rattle.zone_lexing.specs.Word.Written.{Plain, Quoted, Unclosed}

-- the keys that have words (RFC 9460, 14.3.2)
unfoldable pub param_keys : List Mnemonic
param_keys =
    record { word = codes "mandatory"; number = 0 }
    ∷ record { word = codes "alpn"; number = 1 }
    ∷ record { word = codes "no-default-alpn"; number = 2 }
    ∷ record { word = codes "port"; number = 3 }
    ∷ record { word = codes "ipv4hint"; number = 4 }
    ∷ record { word = codes "ech"; number = 5 }
    ∷ record { word = codes "ipv6hint"; number = 6 }
    ∷ []

-- the key that `key` and its number are
abbrev pub key_numbered : List ℕ → Result ℕ Cause
key_numbered text = if is_word (take 3 text) (codes "key") then number_of 65535 (Plain (drop 3 text)) else Err BadData

-- the key that a text is: one of these words, in any case, or `key` and its number (RFC 9460, 2.1)
abbrev pub key_of : List ℕ → Result ℕ Cause
key_of text = elim (number_named param_keys text) [ Some number ↦ Ok number | None ↦ key_numbered text ]

-- how many octets stand before the first `=`, or all where there is none
abbrev pub key_len : List ℕ → ℕ
key_len [] = 0
key_len (c ∷ text) = if c == 61 then 0 else key_len text + 1

-- the octets of an item of a list
unfoldable pub item_of : Item → List ℕ → Result (List ℕ) Cause
item_of item.Key octets = on_ok (to_be_bytes w16) (key_of octets)
item_of item.Protocol octets = if nat_lt 0 (length octets) && nat_le (length octets) 255 then Ok (length octets ∷ octets) else Err BadData
item_of item.Address octets = address_of (Plain octets)
item_of item.Address6 octets = address6_of (Plain octets)

-- the octets of the items of a list, with commas between; a backslash takes the octet after it into an item. What is read of an item so far is
-- given, and whether a backslash stands before the rest (RFC 9460, A.1)
abbrev pub list_from : Item → Bool → List ℕ → List ℕ → Result (List ℕ) Cause
list_from kind true own [] = Err BadData
list_from kind false own [] = item_of kind own
list_from kind true own (c ∷ text) = list_from kind false (own ++ c ∷ []) text
list_from kind false own (c ∷ text) =
    if c == 92 then list_from kind true own text
    else if c == 44 then and_then (item_of kind own) (λ front. on_ok (λ more. front ++ more) (list_from kind false [] text))
    else list_from kind false (own ++ c ∷ []) text

abbrev pub list_of : Item → List ℕ → Result (List ℕ) Cause
list_of kind octets = list_from kind false [] octets

-- octets, and the key that they are ordered by
pub record Keyed : Type 0 where
  pub key : ℕ
  pub octets : List ℕ

-- octets and their key as contracts see them
abbrev pub keyed_seen : declared.Keyed → Keyed
keyed_seen own = record { key = own.key; octets = own.octets.items }

-- octets put among others, in ascending order of keys; a key stands once (RFC 9460, 2.1 and 2.2)
abbrev pub put_among : Keyed → List Keyed → Result (List Keyed) Cause
put_among own [] = Ok (own ∷ [])
put_among own (other ∷ others) =
    if nat_lt own.key other.key then Ok (own ∷ other ∷ others)
    else if own.key == other.key then Err BadData
    else on_ok (λ more. other ∷ more) (put_among own others)

-- the octets, one after the other
abbrev pub all_octets : List Keyed → List ℕ
all_octets all = flat_map (λ own. own.octets) all

-- the keys that octets are, of two octets each, put among others
abbrev pub keys_among : List Keyed → List ℕ → Result (List Keyed) Cause
keys_among others [] = Ok others
keys_among others (a ∷ []) = Err BadData
keys_among others (a ∷ b ∷ octets) =
    and_then (put_among (record { key = from_be_bytes w16 (a ∷ b ∷ []); octets = a ∷ b ∷ [] }) others) (λ next. keys_among next octets)

-- the keys of `mandatory`, in ascending order, among which it doesn't stand itself, as if it did already (RFC 9460, 8)
abbrev pub mandatory_of : List ℕ → Result (List ℕ) Cause
mandatory_of octets = and_then (list_of item.Key octets) (λ keys. on_ok all_octets (keys_among (record { key = 0; octets = [] } ∷ []) keys))

abbrev pub nothing_in : List ℕ → Result (List ℕ) Cause
nothing_in octets = if length octets == 0 then Ok [] else Err BadData

-- the octets of a key's value (RFC 9460, 7 and 8)
unfoldable pub shaped : ℕ → List ℕ → Result (List ℕ) Cause
shaped key octets =
    if key == 0 then mandatory_of octets
    else if key == 1 then list_of item.Protocol octets
    else if key == 2 then nothing_in octets
    else if key == 3 then on_ok (to_be_bytes w16) (number_of 65535 (Plain octets))
    else if key == 4 then list_of item.Address octets
    else if key == 5 then base64_in octets
    else if key == 6 then list_of item.Address6 octets
    else Ok octets

-- the octets of a value that a text spells
abbrev pub value_of : ℕ → List ℕ → Result (List ℕ) Cause
value_of key text = and_then (ok_or (unescaped text) BadData) (shaped key)

-- a value after its key and its length
abbrev pub framed : ℕ → List ℕ → Result (List ℕ) Cause
framed key value = if nat_le (length value) 65535 then Ok ((to_be_bytes w16 key ++ to_be_bytes w16 (length value)) ++ value) else Err BadData

-- the parameter that the texts of a key and of its value spell, after its key and its length
abbrev pub param_of : List ℕ → List ℕ → Result Keyed Cause
param_of key value =
    and_then (key_of key) (λ number. on_ok (λ octets. record { key = number; octets = octets }) (and_then (value_of number value) (framed number)))

-- and put among others
abbrev pub param_among : List Keyed → List ℕ → List ℕ → Result (List Keyed) Cause
param_among others key value = and_then (param_of key value) (λ own. put_among own others)

-- the texts of a parameter's key and of its value, and how many words it has
pub record Part : Type 0 where
  pub key : List ℕ
  pub value : List ℕ
  pub count : ℕ

-- the first parameter of words; a value may stand in quotes
abbrev pub first_in : List Written → Result Part Cause
first_in [] = Err BadData
first_in (Plain text ∷ Quoted value ∷ words) =
    if key_len text + 1 == length text then Ok (record { key = take (key_len text) text; value = value; count = 2 }) else Err BadData
first_in (Plain text ∷ words) = Ok (record { key = take (key_len text) text; value = drop (key_len text + 1) text; count = 1 })
first_in (Quoted value ∷ words) = Err BadData
first_in (Unclosed ∷ words) = Err cause.Unclosed

-- what a reading gives after other octets
abbrev pub after : List ℕ → Result (List ℕ) Cause → Result (List ℕ) Cause
after own rest = on_ok (λ more. own ++ more) rest

-- the parameters that words spell, in whatever order, put among others (RFC 9460, 2.1). A value may stand in quotes
abbrev pub params_among : List Keyed → List Written → Result (List Keyed) Cause
params_among others [] = Ok others
params_among others (Plain text ∷ Quoted value ∷ words) =
    if key_len text + 1 == length text then and_then (param_among others (take (key_len text) text) value) (λ next. params_among next words) else Err BadData
params_among others (Plain text ∷ words) = and_then (param_among others (take (key_len text) text) (drop (key_len text + 1) text)) (λ next. params_among next words)
params_among others (Quoted value ∷ words) = Err BadData
params_among others (Unclosed ∷ words) = Err cause.Unclosed

-- the octets of the parameters that words spell, in ascending order of their keys (RFC 9460, 2.2)
abbrev pub params_of : List Written → Result (List ℕ) Cause
params_of words = on_ok all_octets (params_among [] words)
