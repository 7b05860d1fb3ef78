-- What the entries of any text keep (RFC 1035, 5.1).
use Rattle.std.specs.Prelude.{◌≡◌, ◌≢◌, ◌≤◌, ℕ, suc, ◌+◌, ◌⊎◌, if◌then◌else◌, ◌==◌, List, [], ◌∷◌, IsSome, MatchOption}
use Rattle.zone_lexing.specs.Items.{Item}
use Rattle.zone_lexing.specs.Entries.{Entry}
use Rattle.zone_lexing.specs.declared.item.Token.{Token}
use Rattle.zone_lexing.specs.declared.item.Token.TheVariants.{LineEnd}

-- how many LFs there are
abbrev pub lfs : List ℕ → ℕ
lfs [] = 0
lfs (c ∷ octets) = if c == 10 then suc (lfs octets) else lfs octets

-- how many line ends an item is
abbrev pub line_ends : Token → ℕ
line_ends LineEnd = 1
line_ends _ = 0

-- an LF ends its line wherever it stands: a line's end has one, and no other item has any
abbrev pub EndsAtLf : Item → Type 0
EndsAtLf item = lfs item.1 ≡ line_ends item.0

-- an entry begins at this line or below, and has a word or a fault
pub record IsEntry (line : ℕ) (entry : Entry) : Type 0 where
  pub below : line ≤ entry.line
  pub some : (entry.words ≢ []) ⊎ IsSome entry.unclosed

-- entries from this line on: each begins below the one before it; one with a fault, which is on no line above its own, is
-- the last
abbrev pub AreInOrder : ℕ → List Entry → Type 0
AreInOrder line [] = Unit {0}
AreInOrder line (entry ∷ entries) =
    IsEntry line entry × MatchOption entry.unclosed (AreInOrder (entry.line + 1) entries) (λ fault. (entry.line ≤ fault) × (entries ≡ []))
