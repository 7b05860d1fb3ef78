-- The run of steps on words that lines make, and what a request is answered in (own).
use Rattle.std.specs.Prelude.{◌≡◌, ℕ, List, take, Option, Some}
use Rattle.std.specs.List.{slice_get}
use Rattle.std.specs.Option.{option_map}
use Rattle.cell_core.specs.Cell.{Cell, CellStep, Runs, start}
use Rattle.cell_core.specs.Shows.{Shows, WordRuns}
use Rattle.cell_core.specs.Words.{State, begun, slot_of, number_in}
use Rattle.cell_core.specs.declared.words.Owner.TheVariants.{Holding}
use Rattle.cell_core.specs.declared.words.WordEvent.{WordEvent}
use Rattle.cell_core.specs.declared.words.WordEvent.TheVariants.{Loaded, Raised, Noted}
use Rattle.cell_core.specs.declared.words.WordStep.{WordStep}
use Rattle.cell_core.specs.declared.words.WordStep.TheVariants.{Load, Raise, Note}
use Rattle.dns_rdata.specs.Record.{Record}
use Rattle.zone_tree.specs.Version.{Version as Numbered}
use Rattle.world_run.specs.Numbered.{first_version}
use Rattle.world_run.specs.World.{World, owner_of}

-- steps on the words of a cell of zone versions, each with what it told (own)
abbrev pub Run : Type 0
Run = List (WordStep Numbered × WordEvent)

-- the step at a place of a run is a load that gave this owner, of this number (own)
abbrev pub IsLoadOf : Run → ℕ → ℕ → ℕ → Type 0
IsLoadOf run place owner number = slice_get run place ≡ Some (Load, Loaded owner number)

-- an owner comes from a load of a run: it is the one that the load gave, or a step by one that comes from it gave it, a raise a strong
-- owner and a note a weak one; so it has the load's number (own)
pub data Comes (run : Run) (loader : ℕ) : ℕ → Type 0 where
  loaded : Comes run loader loader
  raised : (place from owner number : ℕ) → Comes run loader from → slice_get run place ≡ Some (Raise from, Raised owner number) → Comes run loader owner
  noted : (place from owner number : ℕ) → Comes run loader from → slice_get run place ≡ Some (Note from, Noted owner number) → Comes run loader owner

-- a load of a run from which an owner comes (own)
pub record IsFromLoad (run : Run) (owner : ℕ) : Type 0 where
  pub place : ℕ
  pub loader : ℕ
  pub number : ℕ
  pub is_load : IsLoadOf run place loader number
  pub comes : Comes run loader owner

-- a run from the first version on shows a world: it makes the world's words, and each name in use is that of an owner which comes from
-- a load of the run (own)
pub record IsShownBy (first : List Record) (run : Run) (world : World) : Type 0 where
  pub runs : WordRuns (begun (first_version first)) run world.words
  pub names : (name : List ℕ) (owner : ℕ) → owner_of name world.names ≡ Some owner → IsFromLoad run owner
  pub weak_names : (name : List ℕ) (owner : ℕ) → owner_of name world.weak_names ≡ Some owner → IsFromLoad run owner

-- the words show a cell that a run of the cell from the first version on reaches (own)
pub record ShowsReached (first : List Record) (words : State Numbered) : Type 0 where
  pub cell : Cell Numbered
  pub steps : List (CellStep Numbered × Option ℕ)
  pub runs : Runs (start (first_version first)) steps cell
  pub shows : Shows words cell

-- a name's requests are answered in one version: that published at the number which was in W at the load from which the name's owner
-- comes (own)
pub record IsAnsweredAtLoaded (first : List Record) (world : World) (name : List ℕ) (zone : List Record) : Type 0 where
  pub run : Run
  pub runs : WordRuns (begun (first_version first)) run world.words
  pub owner : ℕ
  pub owns : owner_of name world.names ≡ Some owner
  pub place : ℕ
  pub number : ℕ
  pub loader : ℕ
  pub is_load : IsLoadOf run place loader number
  pub comes : Comes run loader owner
  pub has : (other slot : ℕ) → slice_get world.words.owners owner ≡ Some (Holding other slot) → other ≡ number
  pub between : State Numbered
  pub before : WordRuns (begun (first_version first)) (take place run) between
  pub was_last : number_in between (slot_of between.latest) ≡ Some number
  pub reached : ShowsReached first world.words
  pub version : option_map (λ version. version.zone) (slice_get reached.cell.published number) ≡ Some zone
