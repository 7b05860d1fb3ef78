-- Owners as contracts see them, with the cell that they are of (own).
use Rattle.std.specs.Prelude.{◌≡◌, ℕ, ◌<◌, List, [], ◌∷◌, Option, Some}
use base.Stored.{Coded, coded×, coded_ℕ, coded_via}
use Rattle.atomic_table.specs.Seated.{TableId, table_id_coded}
use Rattle.cell_core.specs.Words.{slots}
use Rattle.cell_core.specs.declared.words.Version.{Version}
use Rattle.raw_slots.specs.declared.place.Held.{Held}
use Rattle.counted_handles.specs.declared.rule.Spots.{Spots}
use Rattle.counted_handles.specs.declared.view.Mark.{Mark}
use Rattle.counted_handles.specs.declared.view.Tie.{Tie}
use Rattle.counted_handles.specs.declared.view.View.{View}
use Rattle.counted_handles.specs.declared.view.View.TheVariants.{HasWeakly}
use Rattle.counted_handles.specs.Ruled.{stake_of, version_of}
use Rattle.counted_handles.specs.Calls.{AreSpots}

-- an owner: the version that it has, and the table of its cell (own)
pub record Owned (T : Type 0) : Type 0 where
  pub version : Version T
  pub table : TableId

abbrev pub owned_coded : {T : Type 0} → Coded T → Coded (Owned T)
owned_coded {T} v = coded_via (coded× coded_ℕ (coded× v table_id_coded)) (λ (s : Owned T). (s.version.number, (s.version.value, s.table)))
    (λ x y e i. record { version = record { number = (e i).0; value = (e i).1.0 }; table = (e i).1.1 })

-- a claim of the version in a share's slot (own)
abbrev pub Claim : Type 0 → Type 0
Claim T = Held (Option (Version T)) (View T)

-- the version of a share is claimed (own)
pub record IsHeld {T : Type 0} (mark : Mark T) (held : Option (Claim T)) : Type 0 where
  pub it : Claim T
  pub held_is : held ≡ Some it
  pub stake_is : it.stake ≡ stake_of mark
  pub value_is : it.value ≡ Some (version_of mark)

-- an owner: the version is claimed, for a share of its slot at this table (own)
pub record IsOwner {T : Type 0} (id : TableId) (key spots : Spots T) (held : Option (Claim T)) (slot : ℕ) (version : Version T) : Type 0 where
  pub mark : Mark T
  pub held_is : IsHeld mark held
  pub version_is : version_of mark ≡ version
  pub slot_is : mark.slot ≡ slot
  pub name_is : mark.name ≡ id.views_name
  pub within : slot < slots
  pub spots_are : AreSpots id key spots

-- the version of a weak owner (own)
abbrev pub tied_version : {T : Type 0} → Tie T → Version T
tied_version tie = record { number = tie.number; value = tie.value }

-- a weak owner's token: it has the version of its slot weakly, at this table (own)
pub record IsWeak {T : Type 0} (id : TableId) (key spots : Spots T) (table : TableId) (views : List (View T)) (number slot : ℕ) (version : Version T) : Type 0 where
  pub tie : Tie T
  pub views_are : views ≡ HasWeakly tie ∷ []
  pub version_is : tied_version tie ≡ version
  pub number_is : tie.number ≡ number
  pub slot_is : tie.slot ≡ slot
  pub name_is : tie.name ≡ id.views_name
  pub table_is : table ≡ id
  pub within : slot < slots
  pub spots_are : AreSpots id key spots
