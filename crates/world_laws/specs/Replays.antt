-- The versions of a run: the first, and after it one for each update that made its swap, in turn (RFC 2136, 3).
use Rattle.std.specs.Prelude.{◌≡◌, ◌≢◌, ℕ, ◌+◌, ◌<◌, true, List, length, take, Some, None}
use Rattle.std.specs.List.{slice_get}
use Rattle.dns_rdata.specs.Record.{Record}
use Rattle.dns_message.specs.declared.query.Parsed.TheVariants as parsed
use Rattle.dns_message.specs.declared.update.Update.{Update as DynamicUpdate}
use Rattle.dns_message.specs.Request.{reads}
use Rattle.update_core.specs.Act.{act, replay}
use Rattle.update_core.specs.Verdict.{verdict}
use Rattle.world_run.specs.declared.step.Call.TheVariants.{Update}
use Rattle.world_run.specs.declared.step.WorldStep.{WorldStep}
use Rattle.world_run.specs.declared.step.WorldStep.TheVariants.{Whole, Begin, Next}
use Rattle.zone_tree.specs.Version.{Version as Numbered, KnowsChanges}
use Rattle.world_laws.specs.Runs.{ShowsReached, IsAnsweredAtLoaded}
use Rattle.world_run.specs.World.{World}

-- a line sends this request as an update (own)
abbrev pub Sends : List ℕ → WorldStep → Type 0
Sends request (Whole call) = call ≡ Update request
Sends request (Begin name call) = call ≡ Update request
Sends request (Next name) = ⊥

-- the line at a place does (own)
abbrev pub IsSentAt : List WorldStep → ℕ → List ℕ → Type 0
IsSentAt lines place request = (line : WorldStep) × (slice_get lines place ≡ Some line) × Sends request line

-- one of several lines does (own)
abbrev pub IsSent : List WorldStep → List ℕ → Type 0
IsSent lines request = (place : ℕ) × IsSentAt lines place request

-- updates are sent in turn, each by a line of its own: the places of their lines rise, and each line sends a request that reads as its
-- update (own)
pub record AreSentInTurn (lines : List WorldStep) (updates : List DynamicUpdate) : Type 0 where
  pub place : ℕ → ℕ
  pub rises : (k : ℕ) → k + 1 < length updates → place k < place (k + 1)
  pub sends : (k : ℕ) (update : DynamicUpdate) → slice_get updates k ≡ Some update
      → (request : List ℕ) × IsSentAt lines (place k) request × (reads request ≡ parsed.Update update)

-- an update that was sent is let through by each rule in a zone, and makes another zone of it (RFC 2136, 3)
pub record IsAccepted (S : List ℕ → Type 0) (zone next : List Record) (update : DynamicUpdate) : Type 0 where
  pub request : List ℕ
  pub sent : S request
  pub read : reads request ≡ parsed.Update update
  pub let_through : verdict zone update true ≡ None
  pub made : act zone update ≡ Some next
  pub changes : next ≢ zone

-- the versions that are published are the replays of updates: the first is the zone at the start, and each further one what the
-- next update makes of the zone before it, of which it knows what it changed (RFC 2136, 3; RFC 1995, 4)
pub record AreReplays (S : List ℕ → Type 0) (first : List Record) (published : List Numbered) (updates : List DynamicUpdate) : Type 0 where
  pub counted : length published ≡ length updates + 1
  pub versions : (k : ℕ) (version : Numbered) → slice_get published k ≡ Some version → (version.number ≡ k) × (version.zone ≡ replay first (take k updates))
  pub changes : (k : ℕ) (version : Numbered) → slice_get published (k + 1) ≡ Some version → KnowsChanges (replay first (take k updates)) version
  pub accepted : (k : ℕ) (update : DynamicUpdate) → slice_get updates k ≡ Some update → (next : List Record) × IsAccepted S (replay first (take k updates)) next update

-- the words show a cell that a run reaches, whose versions are the replays of updates that the lines send in turn (own)
pub record IsReplayed (first : List Record) (lines : List WorldStep) (world : World) : Type 0 where
  pub reached : ShowsReached first world.words
  pub updates : List DynamicUpdate
  pub replays : AreReplays (IsSent lines) first reached.cell.published updates
  pub in_turn : AreSentInTurn lines updates

-- a name's requests are answered in the replay of the updates up to the number that was in W at the load from which the name's owner
-- comes (own)
pub record IsAnsweredInReplay (first : List Record) (lines : List WorldStep) (world : World) (name : List ℕ) (zone : List Record) : Type 0 where
  pub at_loaded : IsAnsweredAtLoaded first world name zone
  pub replayed : IsReplayed first lines world
  pub is_replay : zone ≡ replay first (take at_loaded.number replayed.updates)
