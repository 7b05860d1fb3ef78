-- The places of a table that begins (own).
use Rattle.std.specs.Prelude.{◌≡◌, ℕ, ◌<◌, List, [], ◌∷◌, length, None, Some}
use Rattle.std.specs.List.{slice_get}
use Rattle.cell_core.specs.Words.{slots}
use Rattle.counted_handles.specs.Shown.{Room}
use Rattle.counted_handles.specs.declared.view.View.{View}
use Rattle.counted_handles.specs.declared.view.View.TheVariants.{Publishes}
use Rattle.counted_handles.specs.Ruled.{RoomSpot, LiesAt, first_version}
use Rattle.counted_handles.specs.Tells.{opener}

-- the places of all slots, whole and each where it is told: the first one has the first version, and the others are empty (own)
pub record IsLaid {T : Type 0} (spots : List (RoomSpot T)) (value : T) (rooms : List (Room T)) : Type 0 where
  pub size : length rooms ≡ slots
  pub first : Room T
  pub first_at : slice_get rooms 0 ≡ Some first
  pub version : first.value ≡ Some (first_version value)
  pub lies : (slot : ℕ) (room : Room T) → slice_get rooms slot ≡ Some room → LiesAt spots slot room
  pub whole : (slot : ℕ) (room : Room T) → slice_get rooms slot ≡ Some room → room.stake ≡ []
  pub empty : (slot : ℕ) (room : Room T) → 0 < slot → slice_get rooms slot ≡ Some room → room.value ≡ None

-- the publisher's token of a new cell, with all grants (own)
abbrev pub IsBegun : {T : Type 0} → T → ℕ → List (View T) → Type 0
IsBegun {T} value name views = (spot : RoomSpot T) × (views ≡ Publishes (opener value name spot) ∷ [])
