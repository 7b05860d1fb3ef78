-- What a zone text is made of: words, and what stands between them (RFC 1035, 5.1).
use Rattle.std.specs.Prelude.{ℕ, zero, suc, ◌+◌, ◌-◌, Bool, true, false, not, ◌||◌, ◌&&◌, ◌==◌, List, [], ◌∷◌, take, drop, nat_lt, if◌then◌else◌, Option, Some, None}
use Rattle.zone_lexing.specs.declared.item.Run.{Run}
use Rattle.zone_lexing.specs.declared.item.Run.TheVariants.{OfWord, OfString, OfComment}
use Rattle.zone_lexing.specs.declared.item.Token.{Token}
use Rattle.zone_lexing.specs.declared.item.Token.TheVariants.{Bare, InQuotes, Blank, Comment, Open, Close, Unclosed, LineEnd}

-- whether this octet is at the front
abbrev pub begins_with : ℕ → List ℕ → Bool
begins_with octet [] = false
begins_with octet (c ∷ text) = c == octet

-- how many octets end the line at the front of a text: an LF, or a CR and an LF; none where the line goes on.
-- A CR that no LF follows is an octet like others (RFC 1035, 5.1; own)
abbrev pub line_end : List ℕ → ℕ
line_end [] = 0
line_end (c ∷ text) = if c == 10 then 1 else if c == 13 && begins_with 10 text then 2 else 0

-- a space or a tab
abbrev pub is_blank : ℕ → Bool
is_blank c = c == 32 || c == 9

-- whether an octet ends a run: a word at a blank and at one of " ; ( ), a string at a quote, and a comment nowhere on
-- its line. One that a backslash takes along ends nothing (RFC 1035, 5.1)
abbrev pub ends : Run → Bool → ℕ → Bool
ends run true c = false
ends OfWord false c = is_blank c || c == 34 || c == 59 || c == 40 || c == 41
ends OfString false c = c == 34
ends OfComment false c = false

-- whether an octet is a backslash that takes the next one along; one that a backslash takes along is not
abbrev pub escapes : Bool → ℕ → Bool
escapes escaped c = not escaped && c == 92

-- how many octets a run has, up to what ends it or its line; whether a backslash takes the first one along
-- (RFC 1035, 5.1)
abbrev pub run_len : Run → Bool → List ℕ → ℕ
run_len run escaped [] = 0
run_len run escaped (c ∷ text) =
    if nat_lt 0 (line_end (c ∷ text)) then 0
    else if ends run escaped c then 0
    else suc (run_len run (escapes escaped c) text)

-- what a quote opens before a text: a string with its two quotes, on one line, else a quote without its end
abbrev pub string_at : List ℕ → Token × ℕ
string_at text =
    let len = run_len OfString false text in
    if begins_with 34 (drop len text) then (InQuotes, len + 2) else (Unclosed, len + 1)

-- the item at the front of a text that has an octet, and how many octets spell it
abbrev pub token_at : ℕ → List ℕ → Token × ℕ
token_at c text =
    if nat_lt 0 (line_end (c ∷ text)) then (LineEnd, line_end (c ∷ text))
    else if is_blank c then (Blank, 1)
    else if c == 40 then (Open, 1)
    else if c == 41 then (Close, 1)
    else if c == 59 then (Comment, run_len OfComment false (c ∷ text))
    else if c == 34 then string_at text
    else (Bare, run_len OfWord false (c ∷ text))

-- the same, none where the text has no octet
abbrev pub item_at : List ℕ → Option (Token × ℕ)
item_at [] = None
item_at (c ∷ text) = Some (token_at c text)

-- an item: what it is, and the octets that spell it
abbrev pub Item : Type 0
Item = Token × List ℕ

-- the items of the text after its first k octets, in order
abbrev pub items : ℕ → List ℕ → List Item
items k [] = []
items zero (c ∷ text) = ((token_at c text).0, take (token_at c text).1 (c ∷ text)) ∷ items ((token_at c text).1 - 1) text
items (suc k) (c ∷ text) = items k text
