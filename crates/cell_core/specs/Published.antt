-- What a run of steps on words publishes and buries, and which slots its probes see, read off the steps and what they told (own).
use Rattle.std.specs.Prelude.{◌≡◌, ◌≢◌, ℕ, zero, suc, ◌<◌, Bool, true, false, List, [], ◌∷◌, ◌++◌, take, Option, None, Some}
use Rattle.std.specs.List.{slice_get}
use Rattle.std.specs.Option.{option_to_list}
use Rattle.cell_core.specs.Words.{State, free_word}
use Rattle.cell_core.specs.Shows.{WordRuns}
use Rattle.cell_core.specs.declared.words.Slot.{Slot}
use Rattle.cell_core.specs.declared.words.Publisher.TheVariants.{Probing}
use Rattle.cell_core.specs.declared.words.WordStep.{WordStep}
use Rattle.cell_core.specs.declared.words.WordStep.TheVariants.{Load, Probe, Prepare, Swap, Settle, Release, Bury, Free, Look, Raise, Note, Fade, Reset}
use Rattle.cell_core.specs.declared.words.WordEvent.{WordEvent}
use Rattle.cell_core.specs.declared.words.WordEvent.TheVariants.{Swapped, Buried}

-- the values that a run publishes: each that is prepared, at its swap; until then it waits (own)
abbrev pub swapped : {T : Type 0} → Option T → List (WordStep T × WordEvent) → List T
swapped waiting [] = []
swapped waiting ((Prepare value, event) ∷ more) = swapped (Some value) more
swapped waiting ((Swap, Swapped number) ∷ more) = option_to_list waiting ++ swapped None more
swapped waiting ((step, event) ∷ more) = swapped waiting more

-- the values published in a run from the first one on; a value's number is its place among them (own)
abbrev pub published_by : {T : Type 0} → T → List (WordStep T × WordEvent) → List T
published_by first run = first ∷ swapped None run

-- a run has buried a number: one of its buries told it (own)
abbrev pub IsBuriedBy : {T : Type 0} → List (WordStep T × WordEvent) → ℕ → Type 0
IsBuriedBy run number = (place : ℕ) × (owner : ℕ) × (slice_get run place ≡ Some (Bury owner, Buried number))

-- a step is one that a publication makes; a note is the publisher's, but of no publication (own)
abbrev pub is_publishing : {T : Type 0} → WordStep T → Bool
is_publishing Probe = true
is_publishing (Prepare value) = true
is_publishing Swap = true
is_publishing Settle = true
is_publishing Load = false
is_publishing (Release owner) = false
is_publishing (Bury owner) = false
is_publishing (Free owner) = false
is_publishing (Look owner) = false
is_publishing (Raise owner) = false
is_publishing (Note owner) = false
is_publishing (Fade owner) = false
is_publishing (Reset owner) = false

-- between two places of a run no publication makes a step (own)
abbrev pub IsQuiet : {T : Type 0} → List (WordStep T × WordEvent) → ℕ → ℕ → Type 0
IsQuiet {T} run low high =
    (place : ℕ) (step : WordStep T) (event : WordEvent) → low < place → place < high → slice_get run place ≡ Some (step, event)
    → is_publishing step ≡ false

-- the step at a place of a run is a probe of this slot, and sees another word than FREE in its S (own)
pub record SeesTaken {T : Type 0} (before : State T) (run : List (WordStep T × WordEvent)) (place slot : ℕ) : Type 0 where
  pub event : WordEvent
  pub probe : slice_get run place ≡ Some (Probe, event)
  pub between : State T
  pub made : WordRuns before (take place run) between
  pub due : between.publisher ≡ Probing slot
  pub there : Slot T
  pub found : slice_get between.table slot ≡ Some there
  pub taken : there.shares ≢ free_word

-- one publication has probed the slots from 0 to this one, the last at this place of a run, and none of them was free (own)
abbrev pub SeesAllTaken : {T : Type 0} → State T → List (WordStep T × WordEvent) → ℕ → ℕ → Type 0
SeesAllTaken before run place zero = SeesTaken before run place 0
SeesAllTaken before run place (suc slot) =
    SeesTaken before run place (suc slot)
    × (earlier : ℕ) × (earlier < place) × IsQuiet run earlier place × SeesAllTaken before run earlier slot
