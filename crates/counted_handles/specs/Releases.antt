-- The steps of a release, by what each saw (own).
use Rattle.std.specs.Prelude.{◌≡◌, ℕ, ◌<◌, [], ◌∷◌, Option, None, Some}
use Rattle.cell_core.specs.declared.words.Version.{Version}
use Rattle.counted_handles.specs.declared.released.Steps.{Steps}
use Rattle.counted_handles.specs.declared.released.Steps.TheVariants.{Lowered, Lost, Won, Buried, Faded, Restored, Freed}
use Rattle.counted_handles.specs.declared.view.Mark.{Mark}
use Rattle.counted_handles.specs.declared.view.View.TheVariants.{Fades, Gone}
use Rattle.counted_handles.specs.Ruled.{RoomSpot}
use Rattle.counted_handles.specs.Shown.{Room}
use Rattle.counted_handles.specs.Tells.{Sat, Released, IsOlder}

-- a version of this number was published, and isn't the last (own)
abbrev pub IsPast : {T : Type 0} → (T → Type 0) → (T → T → Type 0) → ℕ → Type 0
IsPast {T} begins follows number = (version : Version T) × (version.number ≡ number) × IsOlder begins follows version

-- all steps of a release are made: its subtraction found another share beside its own; or it found that one alone, so that a bury
-- was tried, which another owner or a bury had come before; or the bury won, of a version that isn't the last, and the slot is free
-- again, or the fade after the bury found a weak owner, who gives the slot free (own)
abbrev pub IsReleased : {T : Type 0} → (T → Type 0) → (T → T → Type 0) → Steps → Type 0
IsReleased begins follows (Lowered found) = 1 < found
IsReleased begins follows (Lost found) = 0 < found
IsReleased begins follows Won = ⊥
IsReleased begins follows (Buried number) = ⊥
IsReleased begins follows (Faded number found) = (1 < found) × IsPast begins follows number
IsReleased begins follows (Restored number) = ⊥
IsReleased begins follows (Freed number) = IsPast begins follows number

-- the number of the version that a release has buried (own)
abbrev pub buried_in : Steps → Option ℕ
buried_in (Lowered found) = None
buried_in (Lost found) = None
buried_in Won = None
buried_in (Buried number) = Some number
buried_in (Faded number found) = Some number
buried_in (Restored number) = Some number
buried_in (Freed number) = Some number

-- the subtraction alone is made (own)
abbrev pub IsLowered : {T : Type 0} → Mark T → Steps → Sat T → Type 0
IsLowered mark (Lowered found) me = Released mark found me
IsLowered mark (Lost found) me = ⊥
IsLowered mark Won me = ⊥
IsLowered mark (Buried number) me = ⊥
IsLowered mark (Faded number found) me = ⊥
IsLowered mark (Restored number) me = ⊥
IsLowered mark (Freed number) me = ⊥

-- a bury is tried too: it has lost, and the owner has made all its steps (own)
abbrev pub HasLost : {T : Type 0} → Steps → Sat T → Type 0
HasLost (Lowered found) me = ⊥
HasLost (Lost found) me = (0 < found) × (me ≡ (Gone, []))
HasLost Won me = ⊥
HasLost (Buried number) me = ⊥
HasLost (Faded number found) me = ⊥
HasLost (Restored number) me = ⊥
HasLost (Freed number) me = ⊥

-- a version lies in the slot's place, which the seat has taken (own)
abbrev pub LiesIn : {T : Type 0} → ℕ → Version T → Sat T → Type 0
LiesIn {T} slot version me = (spot : RoomSpot T) × (room : Room T) × (me ≡ (Fades slot spot, (slot, room) ∷ [])) × (room.value ≡ Some version)

-- the fade after a bury found weak owners: the owner has made all its steps (own)
abbrev pub IsOutlived : ℕ → Steps → Type 0
IsOutlived number steps = (found : ℕ) × (steps ≡ Faded number found) × (1 < found)
