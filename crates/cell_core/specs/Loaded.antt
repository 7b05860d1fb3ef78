-- Loaded: the number of the handle with which something is answered (own).
use Rattle.std.specs.Prelude.{◌≡◌, ℕ, List, take, Option, Some}
use Rattle.std.specs.List.{slice_get}
use Rattle.std.specs.Option.{option_and_then, option_map}
use Rattle.cell_core.specs.Cell.{Cell, CellStep, IsLast, Runs}

-- the number that a handle owns, by the place in a run of the step that gave it; none where that step gave none (own)
abbrev pub loaded : {T : Type 0} → List (CellStep T × Option ℕ) → ℕ → Option ℕ
loaded run place = option_and_then (λ made. made.1) (slice_get run place)

-- the step at a place of a run is a load (own)
abbrev pub IsLoad : {T : Type 0} → List (CellStep T × Option ℕ) → ℕ → Type 0
IsLoad run place = option_map (λ made. made.0) (slice_get run place) ≡ Some CellStep.Load

-- a number was the last when the step at a place of a run was made, and has the value that it had then (own)
pub record WasLast {T : Type 0} (before : Cell T) (run : List (CellStep T × Option ℕ)) (after : Cell T) (place number : ℕ) : Type 0 where
  pub between : Cell T
  pub made : Runs before (take place run) between
  pub last : IsLast between number
  pub value : slice_get after.published number ≡ slice_get between.published number
