-- An entry while it is read, item by item.
use Rattle.std.specs.Prelude.{◌≡◌, ◌+◌, ◌<◌, Bool, true, false, List, [], ◌∷◌, ◌++◌, length}
use Rattle.zone_lexing.specs.Items.{Item, items}
use Rattle.zone_lexing.specs.Word.{Written, written}
use Rattle.zone_lexing.specs.Entries.{Start, Entry, entry_of, entries_from, entries_left}
use Rattle.zone_lexing.specs.declared.reading.Reading.{Reading}
use Rattle.zone_lexing.specs.declared.reading.Step.{Step}
use Rattle.zone_lexing.specs.declared.reading.Step.TheVariants.{On, Take, Whole, End}

-- whether there is a word
abbrev pub has_word : List Written → Bool
has_word [] = false
has_word (word ∷ words) = true

-- where the entry begins
abbrev pub start_seen : Reading → Start
start_seen reading = record { line = reading.start + 1; indented = reading.indented }

-- the entries that are left where an entry has these words so far, and these items follow
abbrev pub left_before : Reading → List Written → List Item → List Entry
left_before reading words items = entries_from (start_seen reading) words reading.inside (reading.lines + 1) items

-- the entries that are left where an entry has these words so far
abbrev pub left : Reading → List Written → List Entry
left reading words = left_before reading words (items 0 reading.rest.now)

-- the entry goes on, with these words
pub record GoesOn (before : List Entry) (old new : Reading) (words : List Written) : Type 0 where
  pub same : before ≡ left new words
  pub some : new.some ≡ has_word words
  pub less : length new.rest.now < length old.rest.now

-- what a step makes of the entries that were left before it
abbrev pub Steps : List Entry → Reading → Reading → List Written → Step → Type 0
Steps before old new words On = GoesOn before old new words
Steps before old new words (Take word) = GoesOn before old new (words ++ written word ∷ [])
Steps before old new words (Whole head) = before ≡ entry_of head words ∷ entries_left (new.lines + 1) (items 0 new.rest.now)
Steps before old new words End = before ≡ []
