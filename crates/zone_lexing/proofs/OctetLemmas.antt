-- The words of a text of octets are of octets.
use Rattle.std.proofs.Common.{ℕ, zero, suc, ◌+◌, ◌-◌, ◌<◌, Bool, true, false, List, [], ◌∷◌, ◌++◌, length, drop, All, unwrap_or}
use Rattle.std.specs.List.{AllByRecursion}
use Rattle.std.proofs.lemmas.List.Elements.{All-tail, All-take, All-drop}
use Rattle.zone_lexing.specs.Items.{Item, items, token_at}
use Rattle.zone_lexing.specs.Entries.{Start, Entry, between_quotes, start_of, whole, faulty, closes, nested, entries_from, entries_of}
use Rattle.zone_lexing.specs.Word.{Written}
use Rattle.zone_lexing.specs.Word.Written.{Plain, Quoted, Unclosed}
use Rattle.zone_lexing.specs.declared.item.Token.TheVariants as token

-- a word is of octets
abbrev pub IsOfOctets : Written → Type 0
IsOfOctets (Plain text) = All (λ c. c < 256) text
IsOfOctets (Quoted text) = All (λ c. c < 256) text
IsOfOctets Unclosed = Unit {0}

abbrev pub AreOfOctets : List Written → Type 0
AreOfOctets words = AllByRecursion IsOfOctets words

abbrev EachItem : List Item → Type 0
EachItem is = AllByRecursion (λ item. All (λ c. c < 256) item.1) is

items_small : (k : ℕ) (text : List ℕ) → All (λ c. c < 256) text → EachItem (items k text)
items_small k [] h = tt
items_small zero (c ∷ text) h = (All-take (λ x. x < 256) (token_at c text).1 (c ∷ text) h, items_small ((token_at c text).1 - 1) text (All-tail (λ x. x < 256) c text h))
items_small (suc k) (c ∷ text) h = items_small k text (All-tail (λ x. x < 256) c text h)

one_more : (words : List Written) (word : Written) → AreOfOctets words → IsOfOctets word → AreOfOctets (words ++ word ∷ [])
one_more [] word h k = (k, tt)
one_more (w ∷ words) word h k = (h.0, one_more words word h.1 k)

-- entries are of octets
abbrev pub EachEntry : List Entry → Type 0
EachEntry es = AllByRecursion (λ e. AreOfOctets e.words) es

whole_small : (start : Start) (words : List Written) → AreOfOctets words → EachEntry (whole start words)
whole_small start [] h = tt
whole_small start (word ∷ words) h = (h, tt)

both_small : (es fs : List Entry) → EachEntry es → EachEntry fs → EachEntry (es ++ fs)
both_small [] fs h k = k
both_small (e ∷ es) fs h k = (h.0, both_small es fs h.1 k)

open_small : (b : Bool) (es fs : List Entry) → EachEntry es → EachEntry fs → EachEntry (elim b as (λ _. List Entry) [ true ↦ es | false ↦ fs ])
open_small true es fs h k = h
open_small false es fs h k = k

entries_small : (start : Start) (words : List Written) (inside : Bool) (line : ℕ) (is : List Item) → AreOfOctets words → EachItem is → EachEntry (entries_from start words inside line is)
entries_small start words inside line [] h k = whole_small start words h
entries_small start words inside line ((token.Bare, octets) ∷ is) h k = entries_small start (words ++ Plain octets ∷ []) inside line is (one_more words (Plain octets) h k.0) k.1
entries_small start words inside line ((token.InQuotes, octets) ∷ is) h k =
    entries_small start (words ++ Quoted (between_quotes octets) ∷ []) inside line is (one_more words (Quoted (between_quotes octets)) h (All-take (λ x. x < 256) (length octets - 2) (drop 1 octets) (All-drop (λ x. x < 256) 1 octets k.0))) k.1
entries_small start words inside line ((token.Blank, octets) ∷ is) h k = entries_small start words inside line is h k.1
entries_small start words inside line ((token.Comment, octets) ∷ is) h k = entries_small start words inside line is h k.1
entries_small start words false line ((token.LineEnd, octets) ∷ is) h k =
    both_small (whole start words) (entries_from (start_of (line + 1) is) [] false (line + 1) is) (whole_small start words h) (entries_small (start_of (line + 1) is) [] false (line + 1) is tt k.1)
entries_small start words true line ((token.LineEnd, octets) ∷ is) h k = entries_small start words true (line + 1) is h k.1
entries_small start words false line ((token.Open, octets) ∷ is) h k =
    open_small (closes is) (entries_from start words true line is) (faulty start words (unwrap_or (nested line is) line)) (entries_small start words true line is h k.1) (h, tt)
entries_small start words true line ((token.Open, octets) ∷ is) h k = (h, tt)
entries_small start words false line ((token.Close, octets) ∷ is) h k = (h, tt)
entries_small start words true line ((token.Close, octets) ∷ is) h k = entries_small start words false line is h k.1
entries_small start words inside line ((token.Unclosed, octets) ∷ is) h k = (h, tt)

pub entries_of_octets : (text : List ℕ) → All (λ c. c < 256) text → EachEntry (entries_of text)
entries_of_octets text h = entries_small (start_of 1 (items 0 text)) [] false 1 (items 0 text) tt (items_small 0 text h)
