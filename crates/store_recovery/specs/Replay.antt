-- The versions that requests make of a zone, one after another, as an engine that applies them makes them (RFC 2136, 3).
use Rattle.journal.specs.Batch.{Messages}
use Rattle.std.specs.Prelude.{◌≡◌, ℕ, ◌+◌, true, List, [], ◌∷◌, take, slice_get, None, Some, unwrap_or, ⊤}
use Rattle.dns_rdata.specs.Record.{Record}
use Rattle.dns_message.specs.declared.update.Update.{Update}
use Rattle.update_messages.specs.Joined.{IsRead}
use Rattle.zone_tree.specs.Zone.{soa_of}
use Rattle.zone_tree.specs.Change.{left_out}
use Rattle.zone_tree.specs.Version.{Version, Changes}
use Rattle.update_core.specs.Verdict.{verdict}
use Rattle.update_core.specs.Act.{act, replay}
use Rattle.update_core.specs.Applied.{code_of}
use Rattle.dns_engine.specs.Versions.{Makes}
use Rattle.dns_engine.specs.Held.{Held, KEPT, held_with}
use Rattle.dns_engine.specs.Replayed.{EachChanges}
use Rattle.store_recovery.specs.declared.fault.StartFault.{StartFault}
use Rattle.store_recovery.specs.declared.fault.StartFault.TheVariants.{Update as NotTaken, NoMemory}
use Rattle.store_recovery.specs.declared.fault.UpdateFault.{UpdateFault}
use Rattle.store_recovery.specs.declared.fault.UpdateFault.TheVariants.{NotAnUpdate, Refused, ChangesNothing}
use Rattle.store_recovery.specs.declared.recent_versions.RecentVersions.{RecentVersions}

-- requests are read as these updates, in order (RFC 2136, 2)
abbrev pub AreRead : List Messages → List Update → Type 0
AreRead [] [] = Unit {0}
AreRead (request ∷ requests) (update ∷ updates) = IsRead request update × AreRead requests updates
AreRead _ _ = ⊥

-- the changes from a zone to the one after it (RFC 1995, 4)
abbrev pub changes_from : List Record → List Record → Changes
changes_from before after = record { old_soa = soa_of before; deletions = left_out before after; additions = left_out after before }

-- the first version of a zone
abbrev pub first_version : List Record → Version
first_version zone = record { number = 0; zone = zone; changes = None }

-- the version with this zone after another version
abbrev pub version_behind : Version → List Record → Version
version_behind version zone = record { number = version.number + 1; zone = zone; changes = Some (changes_from version.zone zone) }

-- the version that an update makes after another version
abbrev pub version_by : Version → Update → Version
version_by version update = version_behind version (unwrap_or (act version.zone update) version.zone)

-- what an engine holds when it is made: the first version, the only one published
abbrev pub begun : List Record → Held
begun zone = record { published = first_version zone ∷ []; last = first_version zone; keep = KEPT; older = [] }

-- what it holds after it has applied updates, one after another
abbrev pub held_from : Held → List Update → Held
held_from held [] = held
held_from held (update ∷ updates) = held_from (held_with held (version_by held.last update)) updates

-- a request makes the next version of a version
pub record IsMade (version : Version) (request : Messages) (next : Version) : Type 0 where
  pub update : Update
  pub read : IsRead request update
  pub makes : Makes update version next

-- requests are replayed on a zone: each is an update that is accepted and changes the zone after those before it, and the newest versions are those that an
-- engine of this zone holds after it has applied them
pub record IsReplayed (zone : List Record) (requests : List Messages) (newest : RecentVersions) : Type 0 where
  pub updates : List Update
  pub read : AreRead requests updates
  pub taken : EachChanges zone updates
  pub last : newest.last ≡ (held_from (begun zone) updates).last
  pub older : newest.older.items ≡ (held_from (begun zone) updates).older

-- why a request makes no next version of a zone: it isn't read as an update; a rule or a limit gives the update this code; it is accepted, and changes nothing
abbrev pub IsUpdateFault : List Record → Messages → UpdateFault → Type 0
IsUpdateFault zone request NotAnUpdate = (update : Update) → IsRead request update → ⊥
IsUpdateFault zone request (Refused code) = (update : Update) × IsRead request update × (code_of zone update true ≡ Some code)
IsUpdateFault zone request ChangesNothing = (update : Update) × IsRead request update × (verdict zone update true ≡ None) × (act zone update ≡ Some zone)

-- the request at a place can't be applied, and those before it can
pub record IsNotTaken (zone : List Record) (requests : List Messages) (place : ℕ) (fault : UpdateFault) : Type 0 where
  pub before : List Update
  pub read : AreRead (take place requests) before
  pub taken : EachChanges zone before
  pub request : Messages
  pub is_present : slice_get requests place ≡ Some request
  pub why : IsUpdateFault (replay zone before) request fault

-- why requests aren't replayed on a zone
abbrev pub IsReplayFault : List Record → List Messages → StartFault → Type 0
IsReplayFault zone requests (NotTaken place fault) = IsNotTaken zone requests place fault
IsReplayFault zone requests NoMemory = ⊤
IsReplayFault zone requests _ = ⊥
