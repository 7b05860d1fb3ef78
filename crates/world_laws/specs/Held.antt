-- Which versions are held while lines are played: those of the names in use, and the newest, which are kept (own).
use Rattle.std.specs.Prelude.{◌≡◌, ◌↔◌, ℕ, ◌+◌, ◌-◌, ◌<◌, max, min, Bool, ◌==◌, true, false, List, length, drop, count_by, Some}
use Rattle.std.specs.List.{list_any, slice_get}
use Rattle.cell_core.specs.Cell.{Cell}
use Rattle.cell_core.specs.Shows.{Shows, held}
use Rattle.cell_core.specs.Words.{version_in, free_word}
use Rattle.cell_core.specs.declared.words.Owner.TheVariants.{Holding}
use Rattle.cell_core.specs.declared.words.Slot.{Slot}
use Rattle.dns_rdata.specs.Record.{Record}
use Rattle.zone_tree.specs.Version.{Version as Numbered}
use Rattle.world_run.specs.declared.calls.UnderWay.{UnderWay}
use Rattle.world_run.specs.declared.step.Answer.{Answer}
use Rattle.world_run.specs.declared.step.Answer.TheVariants.{Buried}
use Rattle.world_run.specs.declared.step.WorldReply.{WorldReply}
use Rattle.world_run.specs.declared.step.WorldReply.TheVariants.{Answered, Last}
use Rattle.world_run.specs.declared.step.WorldStep.{WorldStep}
use Rattle.world_run.specs.Phases.{updates}
use Rattle.world_laws.specs.Replays.{IsReplayed}
use Rattle.world_run.specs.World.{World, owner_of, version_of, kept_versions}

-- an update is under way (own)
abbrev pub is_updating : World → Bool
is_updating world = list_any (λ (call : UnderWay). updates call.phase) world.calls

-- a name in use holds a version: that which was published with its number lies in the slot of the name's owner, and is the one
-- that the name has (own)
pub record HoldsVersion (published : List Numbered) (world : World) (name : List ℕ) (owner : ℕ) : Type 0 where
  pub number : ℕ
  pub place : ℕ
  pub version : Numbered
  pub holds : slice_get world.words.owners owner ≡ Some (Holding number place)
  pub lies : version_in world.words place ≡ Some (record { number = number; value = version })
  pub has : version_of name world ≡ Some version
  pub published_so : slice_get published number ≡ Some version

-- each name in use holds its version; and while no update is under way, the versions that are kept are the newest, one more than
-- are kept beside the last, or all (own)
pub record HoldVersions (first : List Record) (lines : List WorldStep) (world : World) : Type 0 where
  pub replayed : IsReplayed first lines world
  pub names : (name : List ℕ) (owner : ℕ) → owner_of name world.names ≡ Some owner → HoldsVersion replayed.reached.cell.published world name owner
  pub kept : is_updating world ≡ false → kept_versions world ≡ drop (length replayed.updates - world.keep) replayed.reached.cell.published

-- a reply tells that its call has buried a number (own)
abbrev pub tells_so : ℕ → Answer → Bool
tells_so number (Buried other) = other == number
tells_so number answer = false

abbrev pub tells_buried : ℕ → WorldReply → Bool
tells_buried number (Answered answer) = tells_so number answer
tells_buried number (Last step answer) = tells_so number answer
tells_buried number reply = false

-- a number is buried: no name and no call has an owner of it, and it isn't the last (own)
pub record IsGone (world : World) (number : ℕ) : Type 0 where
  pub cell : Cell Numbered
  pub shows : Shows world.words cell
  pub buried : cell.buried number ≡ true
  pub unheld : held world.words.owners number ≡ 0
  pub before_last : number + 1 < length cell.published

-- exactly the numbers before those of the versions that are kept are buried, and all slots are free but those of the versions that are
-- kept, or that the window has, of which each has one (own)
pub record IsAtRest (first : List Record) (keep : ℕ) (lines : List WorldStep) (world : World) : Type 0 where
  pub replayed : IsReplayed first lines world
  pub buried : (number : ℕ) → (replayed.reached.cell.buried number ≡ true) ↔ (number < length replayed.updates - keep)
  pub free : count_by (λ (there : Slot Numbered). there.shares == free_word) world.words.table + max (min keep (length replayed.updates) + 1) (length world.entries) ≡ 64
