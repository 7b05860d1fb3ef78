-- The entries of a text are in order.
use Rattle.std.proofs.Common.{ℕ, ◌+◌, ◌≤◌, Bool, true, false, List, [], ◌∷◌, ◌++◌, inl, inr, unwrap_or, refl, arith}
use Rattle.zone_lexing.specs.Items.{Item, items}
use Rattle.zone_lexing.specs.Word.{Written}
use Rattle.zone_lexing.specs.Word.Written.{Plain, Quoted}
use Rattle.zone_lexing.specs.Entries.{Start, Entry, start_of, between_quotes, whole, faulty, closes, nested, entries_from, entries_of}
use Rattle.zone_lexing.specs.Order.{AreInOrder}
use Rattle.zone_lexing.specs.declared.item.Token.TheVariants.{Bare, InQuotes, Blank, Comment, Open, Close, Unclosed, LineEnd}

-- the line that is told is none above
nested_below : (items : List Item) (line other least : ℕ) → least ≤ line → least ≤ other → least ≤ unwrap_or (nested line items) other
nested_below [] line other least h k = k
nested_below ((Open, octets) ∷ items) line other least h k = h
nested_below ((LineEnd, octets) ∷ items) line other least h k = nested_below items (line + 1) other least (omega arith) k
nested_below ((Bare, octets) ∷ items) line other least h k = nested_below items line other least h k
nested_below ((InQuotes, octets) ∷ items) line other least h k = nested_below items line other least h k
nested_below ((Blank, octets) ∷ items) line other least h k = nested_below items line other least h k
nested_below ((Comment, octets) ∷ items) line other least h k = nested_below items line other least h k
nested_below ((Close, octets) ∷ items) line other least h k = nested_below items line other least h k
nested_below ((Unclosed, octets) ∷ items) line other least h k = nested_below items line other least h k

AreInOrder-faulty : (first : ℕ) (start : Start) (words : List Written) (line : ℕ) → first ≤ start.line → start.line ≤ line → AreInOrder first (faulty start words line)
AreInOrder-faulty first start words line from below = (record { below = from; some = inr refl }, (below, refl))

AreInOrder-whole : (first : ℕ) (start : Start) (words : List Written) (line : ℕ) (behind : List Entry) → first ≤ start.line → start.line ≤ line → ((least : ℕ) → least ≤ line + 1 → AreInOrder least behind) → AreInOrder first (whole start words ++ behind)
AreInOrder-whole first start [] line behind from below more = more first (omega arith)
AreInOrder-whole first start (word ∷ words) line behind from below more =
    (record { below = from; some = inl (λ e. cc) }, more (start.line + 1) (omega arith))

AreInOrder-from : (items : List Item) (first : ℕ) (start : Start) (words : List Written) (inside : Bool) (line : ℕ) → first ≤ start.line → start.line ≤ line → AreInOrder first (entries_from start words inside line items)
AreInOrder-from [] first start [] inside line from below = tt
AreInOrder-from [] first start (word ∷ words) inside line from below = (record { below = from; some = inl (λ e. cc) }, tt)
AreInOrder-from ((Bare, octets) ∷ items) first start words inside line from below = AreInOrder-from items first start (words ++ Plain octets ∷ []) inside line from below
AreInOrder-from ((InQuotes, octets) ∷ items) first start words inside line from below = AreInOrder-from items first start (words ++ Quoted (between_quotes octets) ∷ []) inside line from below
AreInOrder-from ((Blank, octets) ∷ items) first start words inside line from below = AreInOrder-from items first start words inside line from below
AreInOrder-from ((Comment, octets) ∷ items) first start words inside line from below = AreInOrder-from items first start words inside line from below
AreInOrder-from ((LineEnd, octets) ∷ items) first start words true line from below = AreInOrder-from items first start words true (line + 1) from (omega arith)
AreInOrder-from ((LineEnd, octets) ∷ items) first start words false line from below =
    AreInOrder-whole first start words line _ from below
    (λ least h. AreInOrder-from items least (start_of (line + 1) items) [] false (line + 1) h (omega arith))
AreInOrder-from ((Open, octets) ∷ items) first start words true line from below = AreInOrder-faulty first start words line from below
AreInOrder-from ((Open, octets) ∷ items) first start words false line from below =
    elim (closes items) as (λ closed. AreInOrder first (elim closed as (λ _. List Entry) [ true ↦ entries_from start words true line items | false ↦ faulty start words (unwrap_or (nested line items) line) ])) [
      | true ↦ AreInOrder-from items first start words true line from below
      | false ↦ AreInOrder-faulty first start words (unwrap_or (nested line items) line) from (nested_below items line line start.line below below)
    ]
AreInOrder-from ((Close, octets) ∷ items) first start words true line from below = AreInOrder-from items first start words false line from below
AreInOrder-from ((Close, octets) ∷ items) first start words false line from below = AreInOrder-faulty first start words line from below
AreInOrder-from ((Unclosed, octets) ∷ items) first start words inside line from below = AreInOrder-faulty first start words line from below

-- of a text
pub AreInOrder-of : (text : List ℕ) → AreInOrder 1 (entries_of text)
AreInOrder-of text = AreInOrder-from (items 0 text) 1 (start_of 1 (items 0 text)) [] false 1 (omega arith) (omega arith)
