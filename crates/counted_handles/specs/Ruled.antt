-- The rule of the table: what its words show is a cell, and each seat has the rights that its view says (own).
use Rattle.std.specs.Prelude.{◌≡◌, ◌≢◌, ◌⊎◌, Bool, true, ℕ, zero, suc, ◌+◌, ◌<◌, ◌≤◌, List, [], ◌∷◌, ◌++◌, length, slice_index, Option, None, Some}
use Rattle.std.specs.List.{slice_get}
use mathlib.Core.Option as maybe
use mathlib.Core.Option.{none, some}
use lib.ListN.{get_elem?}
use Rattle.raw_slots.specs.Places.{Stake}
use Rattle.raw_slots.specs.declared.place.Spot.{Spot}
use Rattle.cell_core.specs.Cell.{Cell}
use Rattle.cell_core.specs.Shows.{Shows}
use Rattle.cell_core.specs.Words.{State, slots, grants, free_word, bulk, word_of, slot_of}
use Rattle.cell_core.specs.declared.words.Version.{Version}
use Rattle.cell_core.specs.declared.words.Publisher.{Publisher}
use Rattle.cell_core.specs.declared.words.Publisher.TheVariants.{Probing, Preparing, Swapping, Settling}
use Rattle.cell_core.specs.declared.words.Owner.TheVariants.{Fading}
use Rattle.counted_handles.specs.declared.view.Mark.{Mark}
use Rattle.counted_handles.specs.declared.view.Tie.{Tie}
use Rattle.counted_handles.specs.declared.view.Hold.{Hold}
use Rattle.counted_handles.specs.declared.view.Hold.TheVariants.{Once, Double, Loose, Mixed}
use Rattle.counted_handles.specs.declared.view.Publishing.{Publishing}
use Rattle.counted_handles.specs.declared.view.Reading.{Reading}
use Rattle.counted_handles.specs.declared.view.View.{View}
use Rattle.counted_handles.specs.declared.view.View.TheVariants.{Begin, Began, Publishes, Reads, Hosts, Has, HasWeakly, Buries, Fades, Resets, Frees, Ends, Gone}
use Rattle.counted_handles.specs.History.{IsHistory}
use Rattle.counted_handles.specs.Found.{IsAbsent}
use Rattle.counted_handles.specs.Shown.{Room, Board, reads, lefts, shown}

-- where a place for a version lies (own)
abbrev pub RoomSpot : Type 0 → Type 0
RoomSpot T = Spot (Option (Version T))

-- the version of a share (own)
abbrev pub version_of : {T : Type 0} → Mark T → Version T
version_of mark = record { number = mark.number; value = mark.value }

-- the share of the version in a slot (own)
abbrev pub mark_of : {T : Type 0} → ℕ → ℕ → Version T → ℕ → ℕ → Mark T
mark_of name slot version life tally = record { number = version.number; slot = slot; value = version.value; name = name; life = life; tally = tally }

-- what a place is shared for: its key is the whole view of a share's own seat, so that nobody else's seat is taken for it (own)
abbrev pub stake_of : {T : Type 0} → Mark T → Stake (View T)
stake_of mark = record { key = Has mark; views = mark.name; life = mark.life; tally = mark.tally }

-- a place at home is shared by its version, and whole where it has none: then nobody reads it (own)
abbrev pub IsShared : {T : Type 0} → ℕ → ℕ → Option (Version T) → List (Stake (View T)) → Type 0
IsShared name slot None stakes = stakes ≡ []
IsShared name slot (Some version) stakes = (life : ℕ) × (tally : ℕ) × (stakes ≡ stake_of (mark_of name slot version life tally) ∷ [])

-- a place lies where the slot's always does (own)
abbrev pub LiesAt : {T : Type 0} → List (RoomSpot T) → ℕ → Room T → Type 0
LiesAt {T} spots slot room = (spot : RoomSpot T) × (slice_get spots slot ≡ Some spot) × (room.at ≡ spot.at)

-- a slot's place is at home, where it always lies, or is away with the publisher that prepares it or with the owner that has buried
-- what lay there and is to fade (own)
abbrev pub HomeIs : {T : Type 0} → List (RoomSpot T) → ℕ → State T → ℕ → maybe.Option (Room T) → Type 0
HomeIs spots name state slot none = (state.publisher ≡ Preparing slot) ⊎ ((i : ℕ) × (slice_get state.owners i ≡ Some (Fading slot)))
HomeIs {T} spots name state slot (some room) = LiesAt spots slot room × IsShared name slot room.value room.stake

-- a share is of the version that lies at home in its slot (own)
pub record MarkIs {T : Type 0} (homes : List (maybe.Option (Room T))) (name : ℕ) (mark : Mark T) : Type 0 where
  pub name_is : mark.name ≡ name
  pub room : Room T
  pub home : get_elem? homes mark.slot ≡ some (some room)
  pub version : room.value ≡ Some (version_of mark)
  pub stake : room.stake ≡ stake_of mark ∷ []

-- the same of a share that isn't split off, if there is one (own)
abbrev pub ShareIs : {T : Type 0} → List (maybe.Option (Room T)) → ℕ → Option (Mark T) → Type 0
ShareIs homes name None = Unit {0}
ShareIs homes name (Some mark) = MarkIs homes name mark

-- what a weak owner knows of its version: the value that was published with its number (own)
abbrev pub TieIs : {T : Type 0} → ℕ → List T → Tie T → Type 0
TieIs name published tie = (tie.name ≡ name) × (slice_get published tie.number ≡ Some tie.value)

-- what a seat has of a version, if it has anything (own)
abbrev pub HoldIs : {T : Type 0} → List (maybe.Option (Room T)) → ℕ → List T → Hold T → Type 0
HoldIs homes name published (Once mark) = MarkIs homes name mark
HoldIs homes name published (Double mark) = MarkIs homes name mark
HoldIs homes name published (Loose tie seen) = TieIs name published tie
HoldIs homes name published (Mixed mark tie) = MarkIs homes name mark × TieIs name published tie × ((tie.number ≡ mark.number) × (tie.slot ≡ mark.slot))

abbrev pub HeldIs : {T : Type 0} → List (maybe.Option (Room T)) → ℕ → List T → Option (Hold T) → Type 0
HeldIs homes name published None = Unit {0}
HeldIs homes name published (Some hold) = HoldIs homes name published hold

-- numbers that are buried (own)
abbrev pub AreGone : (ℕ → Bool) → List ℕ → Type 0
AreGone buried [] = Unit {0}
AreGone buried (number ∷ numbers) = (buried number ≡ true) × AreGone buried numbers

-- a list begins another (own)
abbrev pub Begins : {T : Type 0} → List T → List T → Type 0
Begins {T} seen published = (more : List T) × (seen ++ more ≡ published)

-- the publisher's next value lies at home in the slot that it has prepared (own)
pub record NextIs {T : Type 0} (homes : List (maybe.Option (Room T))) (next : Option T) (slot : ℕ) : Type 0 where
  pub room : Room T
  pub home : get_elem? homes slot ≡ some (some room)
  pub number : ℕ
  pub value : T
  pub next_is : next ≡ Some value
  pub version : room.value ≡ Some (record { number = number; value = value })

-- what the publisher knows of its slot, by how far it has come: one that it has taken is none that it may still take (own)
abbrev pub Comes : {T : Type 0} → List (RoomSpot T) → List (maybe.Option (Room T)) → Publishing T → Publisher → Type 0
Comes spots homes p (Probing slot) = Unit {0}
Comes spots homes p (Preparing slot) = (slice_get spots slot ≡ Some p.spot) × IsAbsent slot p.found
Comes spots homes p (Swapping slot) = NextIs homes p.next slot
Comes spots homes p (Settling number slot given) = Unit {0}

-- what a seat knows is so: the publisher knows all that is published, and a reader a beginning of it, and of the numbers that are buried
-- some (own)
abbrev pub Knows : {T : Type 0} → List (RoomSpot T) → ℕ → Cell T → List (maybe.Option (Room T)) → View T → Type 0
Knows spots name cell homes (Begin value) = ⊥
Knows spots name cell homes (Began spot) = ⊥
Knows spots name cell homes (Publishes p) = (p.name ≡ name) × (p.published ≡ cell.published) × HeldIs homes name cell.published p.share × Comes spots homes p p.how
Knows spots name cell homes (Reads r) = (r.name ≡ name) × Begins r.seen cell.published × ShareIs homes name r.share × AreGone cell.buried r.gone
Knows spots name cell homes (Hosts r hold) = (r.name ≡ name) × Begins r.seen cell.published × (r.share ≡ None) × AreGone cell.buried r.gone × HoldIs homes name cell.published hold
Knows spots name cell homes (Has mark) = MarkIs homes name mark
Knows spots name cell homes (HasWeakly tie) = TieIs name cell.published tie
Knows spots name cell homes (Buries slot its) = its ≡ name
Knows spots name cell homes (Fades slot spot) = slice_get spots slot ≡ Some spot
Knows spots name cell homes (Resets slot) = Unit {0}
Knows spots name cell homes (Frees slot) = Unit {0}
Knows spots name cell homes (Ends slot spot) = ⊥
Knows spots name cell homes Gone = Unit {0}

-- the readers that the publisher has taken in: each had seen a beginning of all that is published (own)
abbrev pub AreGuests : {T : Type 0} → ℕ → List T → List (Reading T) → Type 0
AreGuests name published [] = Unit {0}
AreGuests name published (r ∷ rs) = ((r.name ≡ name) × (r.share ≡ None) × Begins r.seen published) × AreGuests name published rs

-- of the numbers that they have seen buried each is (own)
abbrev pub AreSunk : {T : Type 0} → (ℕ → Bool) → List (Reading T) → Type 0
AreSunk buried [] = Unit {0}
AreSunk buried (r ∷ rs) = AreGone buried r.gone × AreSunk buried rs

-- a slot that nobody has: its S is FREE, and its place is at home and empty (own)
pub record IsFree {T : Type 0} (words : List ℕ) (homes : List (maybe.Option (Room T))) (slot : ℕ) : Type 0 where
  pub shares : slice_index words (suc (slot + slot)) ≡ free_word
  pub room : Room T
  pub home : get_elem? homes slot ≡ some (some room)
  pub empty : room.value ≡ None

-- each of these slots is free (own)
abbrev pub AllFree : {T : Type 0} → List ℕ → List (maybe.Option (Room T)) → List ℕ → Type 0
AllFree words homes [] = Unit {0}
AllFree words homes (slot ∷ found) = IsFree words homes slot × AllFree words homes found

-- so many slots, from the first one on, are free, but for the one in W, whose K is 1 if it is one of them: it has no weak owner (own)
abbrev pub AreFree : {T : Type 0} → List ℕ → List (maybe.Option (Room T)) → ℕ → ℕ → Type 0
AreFree words homes last swept =
    ((slot : ℕ) → slot < swept → slot ≢ last → IsFree words homes slot)
    × (last < swept → slice_index words (suc (suc (last + last))) ≡ 1)

-- the publisher counts the readers, and no slot that it has seen free is taken but by itself; and where no reader is about W stays as it saw
-- it, nor has the slot in W a weak owner more (own)
pub record Counts {T : Type 0} (buried : ℕ → Bool) (board : Board T) (p : Publishing T) : Type 0 where
  pub readers : p.readers ≡ reads board.views
  pub guests : AreGuests p.name p.published p.guests
  pub sunk : AreSunk buried p.guests
  pub fixed : (word : ℕ) → p.fixed ≡ Some word → (p.readers ≡ 0) × (slice_index board.words 0 ≡ word)
  pub free : (word slot : ℕ) → p.fixed ≡ Some word → p.how ≡ Probing slot → AreFree board.words board.homes (slot_of word) p.swept
  pub spare : AllFree board.words board.homes p.found

-- the rule from the first publication on: what the words show is a cell, its values are a history, and each place and each
-- view is as the cell says (own)
pub record Holds {T : Type 0} (begins : T → Type 0) (follows : T → T → Type 0) (spots : List (RoomSpot T)) (board : Board T) : Type 0 where
  pub cell : Cell T
  pub shows : Shows (shown board) cell
  pub history : IsHistory begins follows cell.published
  pub name : ℕ
  pub few : lefts board.views ≤ grants
  pub homes : (slot : ℕ) (home : maybe.Option (Room T)) → get_elem? board.homes slot ≡ some home → HomeIs spots name (shown board) slot home
  pub knows : (id : ℕ) (view : View T) → get_elem? board.views id ≡ some view → Knows spots name cell board.homes view
  pub first : (p : Publishing T) × (get_elem? board.views 0 ≡ some (Publishes p)) × Counts cell.buried board p
  pub only : (id : ℕ) (p : Publishing T) → get_elem? board.views id ≡ some (Publishes p) → id ≡ 0

-- the words of slots that nobody has used: S is FREE, and K is 1 (own)
abbrev pub free_words : ℕ → List ℕ
free_words zero = []
free_words (suc count) = free_word ∷ 1 ∷ free_words count

-- the first words: slot 0 is in W with nothing given out, and the others are free (own)
abbrev pub first_words : List ℕ
first_words = word_of 0 0 ∷ bulk ∷ 1 ∷ free_words 63

-- the other slots have their places at home, whole and empty (own)
abbrev pub RestIsFree : {T : Type 0} → List (RoomSpot T) → List (maybe.Option (Room T)) → Type 0
RestIsFree {T} spots homes =
    (slot : ℕ) (home : maybe.Option (Room T)) → 0 < slot → get_elem? homes slot ≡ some home
    → (room : Room T) × (home ≡ some room) × LiesAt spots slot room × (room.value ≡ None) × (room.stake ≡ [])

-- the version of the first value (own)
abbrev pub first_version : {T : Type 0} → T → Version T
first_version value = record { number = 0; value = value }

-- the rule before anything is done: one seat, and the first version lies in slot 0, which is whole (own)
pub record Starting {T : Type 0} (spots : List (RoomSpot T)) (board : Board T) : Type 0 where
  pub words : board.words ≡ first_words
  pub size : length board.homes ≡ slots
  pub value : T
  pub views : board.views ≡ Begin value ∷ []
  pub room : Room T
  pub home : get_elem? board.homes 0 ≡ some (some room)
  pub lies : LiesAt spots 0 room
  pub version : room.value ≡ Some (first_version value)
  pub whole : room.stake ≡ []
  pub others : RestIsFree spots board.homes

-- the rule while the first seat has slot 0's place, to share it (own)
pub record Away {T : Type 0} (spots : List (RoomSpot T)) (board : Board T) : Type 0 where
  pub words : board.words ≡ first_words
  pub size : length board.homes ≡ slots
  pub spot : RoomSpot T
  pub views : board.views ≡ Began spot ∷ []
  pub lies : slice_get spots 0 ≡ Some spot
  pub others : RestIsFree spots board.homes

-- a seat at a cell's end: nobody has a share, weakly or not, or grants, and who is still to try a bury won't win it (own)
abbrev pub IsQuiet : {T : Type 0} → List (RoomSpot T) → View T → Type 0
IsQuiet spots (Ends slot spot) = slice_get spots slot ≡ Some spot
IsQuiet spots (Buries slot name) = slot < slots
IsQuiet spots Gone = Unit {0}
IsQuiet spots (Begin value) = ⊥
IsQuiet spots (Began spot) = ⊥
IsQuiet spots (Publishes p) = ⊥
IsQuiet spots (Reads r) = ⊥
IsQuiet spots (Hosts r hold) = ⊥
IsQuiet spots (Has mark) = ⊥
IsQuiet spots (HasWeakly tie) = ⊥
IsQuiet spots (Fades slot spot) = ⊥
IsQuiet spots (Resets slot) = ⊥
IsQuiet spots (Frees slot) = ⊥

-- a place at a cell's end: whole, where it always lies, or away with the first seat (own)
abbrev pub EndedHome : {T : Type 0} → List (RoomSpot T) → List (View T) → ℕ → maybe.Option (Room T) → Type 0
EndedHome {T} spots views slot none = (spot : RoomSpot T) × (get_elem? views 0 ≡ some (Ends slot spot))
EndedHome spots views slot (some room) = LiesAt spots slot room × (room.stake ≡ [])

-- the rule at a cell's end (own)
pub record Ended {T : Type 0} (spots : List (RoomSpot T)) (board : Board T) : Type 0 where
  pub quiet : (id : ℕ) (view : View T) → get_elem? board.views id ≡ some view → IsQuiet spots view
  pub only : (id slot : ℕ) (spot : RoomSpot T) → get_elem? board.views id ≡ some (Ends slot spot) → id ≡ 0
  pub homes : (slot : ℕ) (home : maybe.Option (Room T)) → get_elem? board.homes slot ≡ some home → EndedHome spots board.views slot home
  pub used : (slot : ℕ) → slot < slots → slice_index board.words (suc (slot + slot)) ≢ 0

-- the rule of the table: at first one seat alone, then what Holds says, until the cell ends (own)
abbrev pub Ruled : {T : Type 0} → (T → Type 0) → (T → T → Type 0) → List (RoomSpot T) → Board T → Type 0
Ruled begins follows spots board = Starting spots board ⊎ (Away spots board ⊎ (Holds begins follows spots board ⊎ Ended spots board))
