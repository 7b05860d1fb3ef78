-- What a server publisher knows to be published (own).
use Rattle.std.specs.Prelude.{◌≡◌, ◌≤◌, ℕ, List, ◌++◌, Option, length}
use Rattle.dns_rdata.specs.Record.{Record}
use Rattle.zone_tree.specs.Version.{Version}
use Rattle.dns_engine.specs.Held.{EngineState, IsLatest}
use Rattle.dns_engine.specs.Replayed.{IsReplay}
use Rattle.update_batches.specs.Reply.{Reply}
use Rattle.zone_server.specs.Brought.{Brought}

-- a list begins with another one
abbrev pub BeginsWith : {X : Type 0} → List X → List X → Type 0
BeginsWith {X} longer shorter = (more : List X) × (longer ≡ shorter ++ more)

-- the versions known to be published, oldest first, how many they were when the last batch was begun, how many more were then sure to find room, the replies made, and what the
-- reply sender was given, if it keeps it
pub record PublisherState : Type 0 where
  pub seen : List Version
  pub begun : ℕ
  pub room : ℕ
  pub replied : List Reply
  pub brought : Option (List Brought)

-- the last version known to be published has this number, which is at least that of the version in which the last batch was begun
pub record HasMetLast (first : List Record) (seen : List Version) (last begun : ℕ) : Type 0 where
  pub version : Version
  pub latest : IsLatest first seen version
  pub number : version.number ≡ last
  pub begun_before : begun ≤ last

-- a batch is begun: everything published is known, with what was known before as a prefix. Its last version is the first zone with updates replayed, and there is room for as
-- many more versions as an engine that has published these can certainly publish
pub record HasBegun (first : List Record) (known : List Version) (after : PublisherState) (last : Version) : Type 0 where
  pub grows : BeginsWith after.seen known
  pub latest : IsLatest first after.seen last
  pub replayed : IsReplay first last
  pub begun : after.begun ≡ length after.seen
  pub engine : EngineState
  pub published : after.seen ≡ engine.held.published
  pub room : after.room ≡ engine.free
