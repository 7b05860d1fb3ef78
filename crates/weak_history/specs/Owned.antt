-- How the versions of entries come to be owned, one after the other, each for a grant of a reader (own).
use Rattle.std.specs.Prelude.{◌≡◌, ℕ, ◌-◌, ◌<◌, ◌≤◌, true, false, nat_le, List, ◌∷◌, ◌++◌, length, Option, None, Some}
use Rattle.cell_core.specs.declared.words.Version.{Version}
use Rattle.snapshot_cell.specs.Tokens.{ReaderState, IsUpgraded}
use Rattle.weak_history.specs.History.{Entered, versions_in, later_entries}
use Rattle.weak_history.specs.declared.chain.Chain.{Chain}
use Rattle.weak_history.specs.declared.chain.Chain.TheVariants.{Whole, Gone, Unknown, Spent}
use Rattle.weak_history.specs.declared.chain.Lost.{Lost}
use Rattle.weak_history.specs.declared.chain.Lost.TheVariants.{Gone as IsGone, Spent as IsSpent}

-- a reader once it has spent so many grants more (own)
abbrev pub less : {T : Type 0} → ℕ → ReaderState T → ReaderState T
less count reader = record reader { left = reader.left - count }

-- all of the entries' versions are owned: these are their owners', and the reader has a grant less for each (own)
pub record AreOwned {T : Type 0} (entries : List (Entered T)) (before after : ReaderState T) (owners : List (Version T)) : Type 0 where
  pub versions : owners ≡ versions_in entries
  pub enough : length entries ≤ before.left
  pub spent : after ≡ less (length entries) before

-- a version has gone, of this number: those before it were owned, and its upgrade gave no owner, so that the reader has then seen its
-- number buried (own)
pub record HasGone {T : Type 0} (entries : List (Entered T)) (before after : ReaderState T) (number : ℕ) : Type 0 where
  pub front : List (Entered T)
  pub entry : Entered T
  pub rest : List (Entered T)
  pub split : entries ≡ front ++ entry ∷ rest
  pub number_is : number ≡ entry.version.number
  pub enough : length front < before.left
  pub sunk : IsUpgraded (less (length front) before) after entry.version None

-- there are fewer grants than entries: all are spent (own)
pub record AreTooMany {T : Type 0} (entries : List (Entered T)) (before after : ReaderState T) : Type 0 where
  pub few : before.left < length entries
  pub spent : after ≡ less before.left before

-- what a history of these entries tells of the versions after the newest of a serial, up to a number: that it knows of no such entry, exactly where
-- there is none; or owners of all of them; or the number of one that has gone; or that the reader has no grant left for one of them (own)
abbrev pub IsChain : {T C N : Type 0} → List (Entered T) → ℕ → ℕ → ReaderState T → ReaderState T → Chain T C N → Type 0
IsChain entries serial number before after (Whole owners) = (later : _) × (later_entries serial number entries ≡ Some later) × AreOwned later before after owners
IsChain entries serial number before after (Gone gone) = (later : _) × (later_entries serial number entries ≡ Some later) × HasGone later before after gone
IsChain entries serial number before after Unknown = (later_entries serial number entries ≡ None) × (after ≡ before)
IsChain entries serial number before after Spent = (later : _) × (later_entries serial number entries ≡ Some later) × AreTooMany later before after

-- why not all of the entries' versions are owned (own)
abbrev pub IsLost : {T : Type 0} → List (Entered T) → ReaderState T → ReaderState T → Lost → Type 0
IsLost entries before after (IsGone number) = HasGone entries before after number
IsLost entries before after IsSpent = AreTooMany entries before after

-- what comes of one entry: none where it is numbered beyond a number, else an owner (own)
abbrev pub IsOwnedAt : {T : Type 0} → Entered T → ℕ → ReaderState T → ReaderState T → Option (Version T) → Type 0
IsOwnedAt entry number before after None = (nat_le entry.version.number number ≡ false) × (after ≡ before)
IsOwnedAt entry number before after (Some owner) = (nat_le entry.version.number number ≡ true) × (owner ≡ entry.version) × (0 < before.left) × (after ≡ less 1 before)

-- why one entry, numbered up to a number, gives no owner (own)
abbrev pub IsLostAt : {T : Type 0} → Entered T → ℕ → ReaderState T → ReaderState T → Lost → Type 0
IsLostAt entry number before after (IsGone gone) = (nat_le entry.version.number number ≡ true) × (gone ≡ entry.version.number) × (0 < before.left) × IsUpgraded before after entry.version None
IsLostAt entry number before after IsSpent = (nat_le entry.version.number number ≡ true) × (before.left ≡ 0) × (after ≡ before)
