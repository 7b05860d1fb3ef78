-- The words of parameters of services (RFC 9460, 2.1, 7, 8 and A.1).
use Rattle.std.specs.Prelude.{ℕ, zero, suc, ◌+◌, ◌||◌, ◌==◌, List, [], ◌∷◌, ◌++◌, length, take, drop, flat_map, codes, decimal, nat_lt, if◌then◌else◌, Some, None}
use Rattle.std.specs.Int.{from_be_bytes, w16}
use Rattle.std.specs.List.{find}
use Rattle.std.specs.Net.Addr.{segments_of}
use Rattle.std.specs.Net.Text.{dotted_text}
use Rattle.base64.specs.Engines.{standard}
use Rattle.base64.specs.GeneralPurpose.{encode_of}
use Rattle.dns_name.specs.Text.{digits_of}
use Rattle.record_text.specs.Text.{groups_text}
use Rattle.wide_text.specs.Mnemonics.{word_numbered}
use Rattle.wide_text.specs.Params.{param_keys}
use Rattle.wide_text.specs.declared.params.Item.{Item}
use Rattle.wide_text.specs.declared.params.Item.TheVariants as item
use Rattle.zone_lexing.specs.Word.{Written}
use Rattle.zone_lexing.specs.Word.Written.{Plain}

-- a key: its word, else `key` and its number (RFC 9460, 2.1)
abbrev pub key_text : ℕ → List ℕ
key_text key = elim (word_numbered param_keys key) [ Some word ↦ word | None ↦ codes "key" ++ decimal key ]

-- an octet of a value outside quotes: one of " ( ) ; \ after a backslash, octets outside 33 to 126 as three digits after one (RFC 1035, 5.1; RFC 9460, A)
abbrev pub value_octet : ℕ → List ℕ
value_octet c =
    if nat_lt c 33 || nat_lt 126 c then 92 ∷ digits_of c
    else if c == 34 || c == 40 || c == 41 || c == 59 || c == 92 then 92 ∷ c ∷ []
    else c ∷ []

-- an octet of an item of a list: a comma and a backslash are after a backslash there, whatever the value's own escapes are (RFC 9460, A.1)
abbrev pub item_octet : ℕ → List ℕ
item_octet c = if c == 44 || c == 92 then value_octet 92 ++ value_octet c else value_octet c

-- how many octets an item of a list has, by the first of them
abbrev pub item_len : Item → ℕ → ℕ
item_len item.Key first = 2
item_len item.Protocol first = first + 1
item_len item.Address first = 4
item_len item.Address6 first = 16

-- the number of two octets, a key
abbrev pub key_item : List ℕ → List ℕ
key_item (a ∷ b ∷ []) = key_text (from_be_bytes w16 (a ∷ b ∷ []))
key_item _ = []

-- the octets after their number
abbrev pub protocol_item : List ℕ → List ℕ
protocol_item [] = []
protocol_item (n ∷ octets) = flat_map item_octet octets

abbrev pub address_item : List ℕ → List ℕ
address_item (a ∷ b ∷ c ∷ d ∷ []) = dotted_text a b c d
address_item _ = []

abbrev pub address6_item : List ℕ → List ℕ
address6_item octets = if length octets == 16 then groups_text (segments_of octets) else []

-- an item of a list
unfoldable pub item_text : Item → List ℕ → List ℕ
item_text item.Key octets = key_item octets
item_text item.Protocol octets = protocol_item octets
item_text item.Address octets = address_item octets
item_text item.Address6 octets = address6_item octets

-- the items of so many octets at most, each after a comma; the first after the octet that is given
abbrev pub items_text : ℕ → Item → ℕ → List ℕ → List ℕ
items_text zero kind mark octets = []
items_text (suc most) kind mark [] = []
items_text (suc most) kind mark (first ∷ octets) =
    let len = item_len kind first in
    mark ∷ item_text kind (take len (first ∷ octets)) ++ items_text most kind 44 (drop len (first ∷ octets))

-- the items of a list after the sign
abbrev pub list_text : Item → List ℕ → List ℕ
list_text kind octets = items_text (length octets) kind 61 octets

-- a port after the sign
abbrev pub port_text : List ℕ → List ℕ
port_text (a ∷ b ∷ []) = 61 ∷ decimal (from_be_bytes w16 (a ∷ b ∷ []))
port_text _ = []

-- octets after the sign, where there are any
abbrev pub octets_text : List ℕ → List ℕ
octets_text [] = []
octets_text (c ∷ octets) = 61 ∷ flat_map value_octet (c ∷ octets)

-- octets in base64 after the sign, where there are any
abbrev pub base64_text : List ℕ → List ℕ
base64_text [] = []
base64_text (c ∷ octets) = 61 ∷ encode_of standard (c ∷ octets)

-- the value of a key after the sign; nothing of one without octets (RFC 9460, 7 and 8)
unfoldable pub value_text : ℕ → List ℕ → List ℕ
value_text key octets =
    if key == 0 then list_text item.Key octets
    else if key == 1 then list_text item.Protocol octets
    else if key == 3 then port_text octets
    else if key == 4 then list_text item.Address octets
    else if key == 5 then base64_text octets
    else if key == 6 then list_text item.Address6 octets
    else octets_text octets

-- a parameter
abbrev pub param_text : ℕ → List ℕ → List ℕ
param_text key octets = key_text key ++ value_text key octets

-- the words of so many parameters at most, each of two octets for the key, two for the value's length, and the value (RFC 9460, 2.2)
abbrev pub params_words : ℕ → List ℕ → List Written
params_words zero octets = []
params_words (suc most) (a ∷ b ∷ c ∷ d ∷ octets) =
    let len = from_be_bytes w16 (c ∷ d ∷ []) in
    Plain (param_text (from_be_bytes w16 (a ∷ b ∷ [])) (take len octets)) ∷ params_words most (drop len octets)
params_words (suc most) _ = []

-- the words of parameters, one each
abbrev pub param_words : List ℕ → List Written
param_words octets = params_words (length octets) octets
