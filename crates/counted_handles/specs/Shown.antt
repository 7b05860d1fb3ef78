-- The state of the words on plain data that a table shows (own).
use Rattle.std.specs.Prelude.{ℕ, ◌-◌, List, [], ◌∷◌, map, slice_index, Option, None, Some}
use Rattle.std.specs.List.{sum_by}
use mathlib.Core.Option as maybe
use mathlib.Core.Option.{none, some}
use Rattle.atomic_table.specs.Table as table
use Rattle.raw_slots.specs.declared.place.Place.{Place}
use Rattle.cell_core.specs.Words.{State, grants}
use Rattle.cell_core.specs.declared.words.Slot.{Slot}
use Rattle.cell_core.specs.declared.words.Version.{Version}
use Rattle.cell_core.specs.declared.words.Publisher.{Publisher}
use Rattle.cell_core.specs.declared.words.Publisher.TheVariants.{Probing}
use Rattle.cell_core.specs.declared.words.Owner.{Owner}
use Rattle.cell_core.specs.declared.words.Owner.TheVariants.{Holding, Twice, Weakly, Both, Burying, Fading, Resetting, Freeing, Spent}
use Rattle.counted_handles.specs.declared.view.Mark.{Mark}
use Rattle.counted_handles.specs.declared.view.Hold.{Hold}
use Rattle.counted_handles.specs.declared.view.Hold.TheVariants.{Once, Double, Loose, Mixed}
use Rattle.counted_handles.specs.declared.view.View.{View}
use Rattle.counted_handles.specs.declared.view.View.TheVariants.{Begin, Began, Publishes, Reads, Hosts, Has, HasWeakly, Buries, Fades, Resets, Frees, Ends, Gone}

-- the place of a slot: what lies there is a version, or nothing (own)
abbrev pub Room : Type 0 → Type 0
Room T = Place (Option (Version T)) (View T)

-- a table of such places (own)
abbrev pub Board : Type 0 → Type 0
Board T = table.State (Room T) (View T)

-- the version that lies in a slot: a place that is away has none, since who takes it takes it without one, or buries it (own)
abbrev pub version_at : {T : Type 0} → maybe.Option (Room T) → Option (Version T)
version_at none = None
version_at (some room) = room.value

-- the slots: the words after W are S and K of each slot in turn (own)
abbrev pub slots_in : {T : Type 0} → List ℕ → List (maybe.Option (Room T)) → List (Slot T)
slots_in (shares ∷ weak ∷ words) (home ∷ homes) = record { shares = shares; weak = weak; version = version_at home } ∷ slots_in words homes
slots_in (shares ∷ []) homes = []
slots_in [] homes = []
slots_in (shares ∷ weak ∷ words) [] = []

-- the words after the first one (own)
abbrev pub behind : List ℕ → List ℕ
behind [] = []
behind (word ∷ words) = words

-- what the owner of a share is; a share that isn't split off is its seat's (own)
abbrev pub holder : {T : Type 0} → Option (Mark T) → Owner
holder None = Spent
holder (Some mark) = Holding mark.number mark.slot

-- what the owner is of what a seat has of a version, if it has anything (own)
abbrev pub hold_owner : {T : Type 0} → Hold T → Owner
hold_owner (Once mark) = Holding mark.number mark.slot
hold_owner (Double mark) = Twice mark.number mark.slot
hold_owner (Loose tie seen) = Weakly tie.number tie.slot
hold_owner (Mixed mark tie) = Both mark.number mark.slot

abbrev pub held_by : {T : Type 0} → Option (Hold T) → Owner
held_by None = Spent
held_by (Some hold) = hold_owner hold

-- how far a seat has come as an owner; who is none has made all of an owner's steps (own)
abbrev pub owner_of : {T : Type 0} → View T → Owner
owner_of (Begin value) = Spent
owner_of (Began spot) = Spent
owner_of (Publishes p) = held_by p.share
owner_of (Reads r) = holder r.share
owner_of (Hosts r hold) = hold_owner hold
owner_of (Has mark) = Holding mark.number mark.slot
owner_of (HasWeakly tie) = Weakly tie.number tie.slot
owner_of (Buries slot name) = Burying slot
owner_of (Fades slot spot) = Fading slot
owner_of (Resets slot) = Resetting slot
owner_of (Frees slot) = Freeing slot
owner_of (Ends slot spot) = Spent
owner_of Gone = Spent

-- how far the publisher has come: it has the first seat (own)
abbrev pub how_of : {T : Type 0} → View T → Publisher
how_of (Publishes p) = p.how
how_of (Begin value) = Probing 0
how_of (Began spot) = Probing 0
how_of (Reads r) = Probing 0
how_of (Hosts r hold) = Probing 0
how_of (Has mark) = Probing 0
how_of (HasWeakly tie) = Probing 0
how_of (Buries slot name) = Probing 0
how_of (Fades slot spot) = Probing 0
how_of (Resets slot) = Probing 0
how_of (Frees slot) = Probing 0
how_of (Ends slot spot) = Probing 0
how_of Gone = Probing 0

abbrev pub publisher_in : {T : Type 0} → List (View T) → Publisher
publisher_in [] = Probing 0
publisher_in (view ∷ views) = how_of view

-- how many weak owners were made: the publisher counts them (own)
abbrev pub noted_of : {T : Type 0} → View T → ℕ
noted_of (Publishes p) = p.noted
noted_of (Begin value) = 0
noted_of (Began spot) = 0
noted_of (Reads r) = 0
noted_of (Hosts r hold) = 0
noted_of (Has mark) = 0
noted_of (HasWeakly tie) = 0
noted_of (Buries slot name) = 0
noted_of (Fades slot spot) = 0
noted_of (Resets slot) = 0
noted_of (Frees slot) = 0
noted_of (Ends slot spot) = 0
noted_of Gone = 0

abbrev pub noted_in : {T : Type 0} → List (View T) → ℕ
noted_in [] = 0
noted_in (view ∷ views) = noted_of view

-- the grants that a seat still has (own)
abbrev pub left_of : {T : Type 0} → View T → ℕ
left_of (Publishes p) = p.left
left_of (Reads r) = r.left
left_of (Hosts r hold) = r.left
left_of (Begin value) = 0
left_of (Began spot) = 0
left_of (Has mark) = 0
left_of (HasWeakly tie) = 0
left_of (Buries slot name) = 0
left_of (Fades slot spot) = 0
left_of (Resets slot) = 0
left_of (Frees slot) = 0
left_of (Ends slot spot) = 0
left_of Gone = 0

-- the grants that all seats still have (own)
abbrev pub lefts : {T : Type 0} → List (View T) → ℕ
lefts views = sum_by left_of views

-- 1 for a reader (own)
abbrev pub read_of : {T : Type 0} → View T → ℕ
read_of (Reads r) = 1
read_of (Hosts r hold) = 1
read_of (Publishes p) = 0
read_of (Begin value) = 0
read_of (Began spot) = 0
read_of (Has mark) = 0
read_of (HasWeakly tie) = 0
read_of (Buries slot name) = 0
read_of (Fades slot spot) = 0
read_of (Resets slot) = 0
read_of (Frees slot) = 0
read_of (Ends slot spot) = 0
read_of Gone = 0

-- how many seats are readers: the publisher counts them, since only readers change W beside it (own)
abbrev pub reads : {T : Type 0} → List (View T) → ℕ
reads views = sum_by read_of views

-- what a table shows: an owner's place among all is its seat's number, and all shares were given out that no seat has as a grant (own)
abbrev pub shown : {T : Type 0} → Board T → State T
shown board =
    record {
      latest = slice_index board.words 0;
      table = slots_in (behind board.words) board.homes;
      publisher = publisher_in board.views;
      owners = map owner_of board.views;
      granted = grants - lefts board.views;
      noted = noted_in board.views;
    }
