-- What is told of what changed, by the versions that were published (RFC 1995, 4 and 5).
use Rattle.std.specs.Prelude.{◌≡◌, ◌⊎◌, ℕ, ◌+◌, ◌<◌, ◌≤◌, Bool, true, false, Contains, List, [], ◌∷◌, ◌++◌, length, Option, None, Some}
use Rattle.std.specs.Option.{option_and_then}
use Rattle.dns_rdata.specs.Record.{Record}
use Rattle.dns_rdata.specs.declared.numbers.Serial.{Serial}
use Rattle.zone_tree.specs.Zone.{soa_of}
use Rattle.zone_tree.specs.Version.{Version}
use Rattle.transfer_core.specs.Chain.{zones_of, told_changes}
use Rattle.transfer_core.specs.Window.{changes_since, held as held_in, window}
use Rattle.transfer_core.specs.declared.kept.TheConstants.{WINDOW}
use Rattle.counted_handles.specs.History.{IsHistory}
use Rattle.weak_history.specs.declared.chain.Chain.{Chain}
use Rattle.weak_history.specs.declared.chain.Chain.TheVariants.{Whole, Gone, Unknown, Spent}
use Rattle.dns_engine.specs.Versions.{IsFirst, IsNext}
use Rattle.dns_engine.specs.Owned.{versions_of}

-- a version is one of those published: those before it are as many as its number, and newer ones may stand after it
pub record IsPublished (first : List Record) (published : List Version) (version : Version) : Type 0 where
  pub before : List Version
  pub newer : List Version
  pub history : IsHistory (IsFirst first) IsNext published
  pub place : published ≡ (before ++ version ∷ []) ++ newer
  pub number : length before ≡ version.number

-- what changed since the version of a serial that an asker holds, up to the last of versions, the first one first, after which newer ones are
-- published: none where the asker tells no serial, or where it isn't in the window (RFC 1995, 4 and 5; own)
abbrev pub changes_told : List Version → List Version → Option Serial → Option (List Record)
changes_told versions newer held = option_and_then (λ serial. changes_since WINDOW (zones_of newer) (length versions) serial.0 (zones_of versions)) held

-- a version after the one of a serial in the window, up to the last of versions, is one of those that are known to be buried (own)
pub record HasBroken (versions newer : List Version) (number serial : ℕ) (gone : List ℕ) : Type 0 where
  pub from : List Record × List (List Record)
  pub found : held_in serial (window WINDOW (zones_of newer) (zones_of versions)) ≡ Some from
  pub missing : ℕ
  pub early : missing ≤ number
  pub late : number < missing + length from.1
  pub buried : Contains gone missing

-- what is told to an asker of what changed up to a version, which is one of those published: it is what changed through them; or nothing, where one
-- of the versions that it needs is known to be buried
pub record TellsSince (first : List Record) (published : List Version) (gone : List ℕ) (version : Version) (held : Option Serial) (changes : Option (List Record)) : Type 0 where
  pub here : IsPublished first published version
  pub reported : (changes ≡ changes_told (here.before ++ version ∷ []) here.newer held)
      ⊎ ((serial : Serial) × (held ≡ Some serial) × (changes ≡ None) × HasBroken (here.before ++ version ∷ []) here.newer version.number serial.0 gone)

-- whether the versions after an asker's are all there, and they, the oldest first (own)
pub record ChainState : Type 0 where
  pub whole : Bool
  pub versions : List Version

-- what is told by a chain of versions up to one with this SOA
abbrev pub changes_by : List Record → ChainState → Option (List Record)
changes_by soa chain = told_changes chain.whole soa chain.versions

-- the versions that a history tells of, owned beside the cell: all of them, or none (own)
abbrev pub IsCopied : {C N : Type 0} → Chain Version C N → ChainState → Type 0
IsCopied (Whole owners) chain = chain ≡ record { whole = true; versions = versions_of owners }
IsCopied (Gone number) chain = chain ≡ record { whole = false; versions = [] }
IsCopied Unknown chain = chain ≡ record { whole = false; versions = [] }
IsCopied Spent chain = ⊥
