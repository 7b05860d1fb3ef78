-- The entries of a zone text: a line's words, or those of the lines that parentheses join (RFC 1035, 5.1).
use Rattle.std.specs.Prelude.{ℕ, ◌+◌, ◌-◌, Bool, true, false, List, [], ◌∷◌, ◌++◌, length, take, drop, Option, Some, None, unwrap_or}
use Rattle.zone_lexing.specs.Items.{Item, items}
use Rattle.zone_lexing.specs.Word.{Written}
use Rattle.zone_lexing.specs.Word.Written.{Plain, Quoted}
use Rattle.zone_lexing.specs.declared.entry.EntryHead.{EntryHead}
use Rattle.zone_lexing.specs.declared.item.Token.TheVariants.{Bare, InQuotes, Blank, Comment, Open, Close, Unclosed, LineEnd}

-- where an entry begins: its line, counted from 1, and whether that line begins with a blank
pub record Start : Type 0 where
  pub line : ℕ
  pub indented : Bool

-- an entry: its line, counted from 1; whether that line begins with a blank, so that the entry takes the owner before it;
-- its words in order; and where a quote or a parenthesis is without its other one, the line of that (RFC 1035, 5.1)
pub record Entry : Type 0 where
  pub line : ℕ
  pub indented : Bool
  pub words : List Written
  pub unclosed : Option ℕ

-- an entry of words, by what is told of it
abbrev pub entry_of : EntryHead → List Written → Entry
entry_of head words = record { line = head.line; indented = head.indented; words = words; unclosed = head.unclosed }

-- what stands between the first octet and the last, which are quotes
abbrev pub between_quotes : List ℕ → List ℕ
between_quotes octets = take (length octets - 2) (drop 1 octets)

-- whether the first item is a blank
abbrev pub begins_blank : List Item → Bool
begins_blank [] = false
begins_blank ((Blank, _) ∷ items) = true
begins_blank (_ ∷ items) = false

-- the start of the entry whose line these items begin
abbrev pub start_of : ℕ → List Item → Start
start_of line items = record { line = line; indented = begins_blank items }

-- an entry that ends as it should; without words it is nothing
abbrev pub whole : Start → List Written → List Entry
whole start [] = []
whole start (word ∷ words) =
    record { line = start.line; indented = start.indented; words = word ∷ words; unclosed = None } ∷ []

-- an entry that ends at a fault, which is the last: what follows isn't read (own)
abbrev pub faulty : Start → List Written → ℕ → List Entry
faulty start words line =
    record { line = start.line; indented = start.indented; words = words; unclosed = Some line } ∷ []

-- whether a closing parenthesis is among the items
abbrev pub closes : List Item → Bool
closes [] = false
closes ((Close, _) ∷ items) = true
closes (_ ∷ items) = closes items

-- the line of the first opening parenthesis among the items; the line that they begin on is given
abbrev pub nested : ℕ → List Item → Option ℕ
nested line [] = None
nested line ((Open, _) ∷ items) = Some line
nested line ((LineEnd, _) ∷ items) = nested (line + 1) items
nested line (_ ∷ items) = nested line items

-- the entries of the items that are left, in an entry with this start and these words so far, inside parentheses or not;
-- the line that the items begin on is given. Between parentheses a line's end is a blank, and they don't nest
-- (RFC 1035, 5.1). The words after an opening parenthesis that isn't closed are not the entry's: it is the fault, or
-- the next opening one is, where there is one (own)
abbrev pub entries_from : Start → List Written → Bool → ℕ → List Item → List Entry
entries_from start words inside line [] = whole start words
entries_from start words inside line ((Bare, octets) ∷ items) = entries_from start (words ++ Plain octets ∷ []) inside line items
entries_from start words inside line ((InQuotes, octets) ∷ items) = entries_from start (words ++ Quoted (between_quotes octets) ∷ []) inside line items
entries_from start words inside line ((Blank, _) ∷ items) = entries_from start words inside line items
entries_from start words inside line ((Comment, _) ∷ items) = entries_from start words inside line items
entries_from start words false line ((LineEnd, _) ∷ items) = whole start words ++ entries_from (start_of (line + 1) items) [] false (line + 1) items
entries_from start words true line ((LineEnd, _) ∷ items) = entries_from start words true (line + 1) items
entries_from start words false line ((Open, _) ∷ items) =
    elim (closes items) [ true ↦ entries_from start words true line items | false ↦ faulty start words (unwrap_or (nested line items) line) ]
entries_from start words true line ((Open, _) ∷ items) = faulty start words line
entries_from start words false line ((Close, _) ∷ items) = faulty start words line
entries_from start words true line ((Close, _) ∷ items) = entries_from start words false line items
entries_from start words inside line ((Unclosed, _) ∷ items) = faulty start words line

-- the entries of the items that are left where a line begins
abbrev pub entries_left : ℕ → List Item → List Entry
entries_left line items = entries_from (start_of line items) [] false line items

-- the entries of a zone text, in order (RFC 1035, 5.1)
abbrev pub entries_of : List ℕ → List Entry
entries_of text = entries_left 1 (items 0 text)
