-- What a reader has seen published, and how it comes to see more (own).
use Rattle.std.specs.Prelude.{◌≡◌, ◌==◌, true, ℕ, ◌+◌, ◌≤◌, List, length, Some}
use Rattle.dns_rdata.specs.Numbers.{type_IXFR}
use Rattle.dns_rdata.specs.Record.{Record}
use Rattle.dns_rdata.specs.declared.numbers.Serial.{Serial}
use Rattle.dns_message.specs.declared.query.Query.{Query as QueryAsked}
use Rattle.zone_tree.specs.Version.{Version}
use Rattle.snapshot_cell.specs.Tokens.{ReaderState, IsLoad}
use Rattle.counted_handles.specs.History.{IsHistory}
use Rattle.counted_handles.specs.Ruled.{Begins}
use Rattle.weak_history.specs.History.{Entered, later_entries}
use Rattle.weak_history.specs.Owned.{AreTooMany, IsChain}
use Rattle.weak_history.specs.declared.chain.Chain.{Chain}
use Rattle.requests.specs.Served.{Learned}
use Rattle.dns_engine.specs.Entries.{entries_of}
use Rattle.dns_engine.specs.Held.{EngineState, IsLatest}
use Rattle.dns_engine.specs.Replayed.{IsReplay}
use Rattle.dns_engine.specs.Versions.{IsFirst, IsNext}

-- what a reader has learned: which versions are published, and which are buried (own)
abbrev pub learned_by : ReaderState Version → Learned Version
learned_by reader = record { published = reader.seen; buried = reader.gone }

-- a reader has loaded a version, once: it is the last of the versions that the reader has then seen, which begin with those seen before. The first of them has the first zone,
-- and some update makes each further one from the one before it. One grant is spent (own)
abbrev pub HasLoaded : List Record → ReaderState Version → ReaderState Version → Version → Type 0
HasLoaded first before after version = IsLoad (IsFirst first) IsNext before after (record { number = version.number; value = version })

-- a reader has no grant left, and is unchanged (own)
abbrev pub HasGone : ReaderState Version → ReaderState Version → Type 0
HasGone before after = (before.left ≡ 0) × (after ≡ before)

-- a version is not older than the last one known to be published (own)
abbrev pub IsNoOlder : List Version → Version → Type 0
IsNoOlder known version = length known ≤ version.number + 1

-- a reader meets everything an engine has published, of which it had seen a prefix, without a grant. The engine's last version is the latest of it, the first zone with updates
-- replayed (own)
pub record HasMet (first : List Record) (engine : EngineState) (before after : ReaderState Version) : Type 0 where
  pub begun : Begins before.seen engine.held.published
  pub latest : IsLatest first engine.held.published engine.held.last
  pub replayed : IsReplay first engine.held.last
  pub seen : after ≡ record before { seen = engine.held.published }

-- a reader that has loaded a version meets what is published, and has fewer grants left than there are versions after the one with the serial in an IXFR query, up to the
-- version loaded: it has spent all of them (own)
pub record HasTooFew (first : List Record) (query : QueryAsked) (version : Version) (before after : ReaderState Version) : Type 0 where
  pub asks : (query.question.rtype.0 == type_IXFR) ≡ true
  pub serial : Serial
  pub held : query.serial ≡ Some serial
  pub published : List Version
  pub history : IsHistory (IsFirst first) IsNext published
  pub begun : Begins before.seen published
  pub since : List (Entered Version)
  pub found : later_entries serial.0 version.number (entries_of published) ≡ Some since
  pub few : AreTooMany since (record before { seen = published }) after

-- a reader meets what is published, of which it had seen a prefix, and asks its history for the versions after the one with a serial, up to a number (own)
abbrev pub MeetsAndAsks : {C N : Type 0} → List Record → ℕ → ℕ → ReaderState Version → ReaderState Version → Chain Version C N → Type 0
MeetsAndAsks first serial number before after chain =
    (published : List Version) × IsHistory (IsFirst first) IsNext published × Begins before.seen published
    × IsChain (entries_of published) serial number (record before { seen = published }) after chain
