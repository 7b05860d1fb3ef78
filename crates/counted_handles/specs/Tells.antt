-- What each step tells the seat that makes it (own).
use Rattle.std.specs.Prelude.{◌≡◌, true, false, ℕ, ◌+◌, ◌-◌, ◌<◌, ◌≤◌, Contains, List, [], ◌∷◌, length, ◌==◌, Some, None, MatchBool, if◌then◌else◌, ◌++◌, Option}
use Rattle.std.specs.List.{slice_get}
use Rattle.atomic_table.specs.Table.{Me}
use Rattle.cell_core.specs.Words.{slots, grants, bulk, slot_of, given_of, free_word, dead_word}
use Rattle.cell_core.specs.declared.words.Version.{Version}
use Rattle.cell_core.specs.declared.words.Publisher.TheVariants.{Probing, Preparing, Swapping, Settling}
use Rattle.counted_handles.specs.declared.view.Mark.{Mark}
use Rattle.counted_handles.specs.declared.view.Reading.{Reading}
use Rattle.counted_handles.specs.declared.view.Publishing.{Publishing}
use Rattle.counted_handles.specs.declared.view.Tie.{Tie}
use Rattle.counted_handles.specs.declared.view.Hold.TheVariants.{Once, Double, Loose, Mixed}
use Rattle.counted_handles.specs.declared.view.View.{View}
use Rattle.counted_handles.specs.declared.view.View.TheVariants.{Begin, Began, Publishes, Reads, Hosts, Has, HasWeakly, Buries, Fades, Resets, Frees, Ends, Gone}
use Rattle.raw_slots.specs.Places.{Stake}
use Rattle.counted_handles.specs.History.{IsHistory}
use Rattle.counted_handles.specs.Shown.{Room}
use Rattle.counted_handles.specs.Found.{IsAbsent, without, found_before}
use Rattle.counted_handles.specs.Ruled.{RoomSpot, Begins, AreGuests, version_of, stake_of, first_version}

-- a seat at the table: its view, and the places that it has taken (own)
abbrev pub Sat : Type 0 → Type 0
Sat T = Me (Room T) (View T)

-- a share is of the value published last, in the slot that W told (own)
pub record IsLastMark {T : Type 0} (begins : T → Type 0) (follows : T → T → Type 0) (published : List T) (name found : ℕ) (mark : Mark T) : Type 0 where
  pub history : IsHistory begins follows published
  pub last : length published ≡ mark.number + 1
  pub value : slice_get published mark.number ≡ Some mark.value
  pub slot : mark.slot ≡ slot_of found
  pub within : mark.slot < slots
  pub name_is : mark.name ≡ name

-- load: the reader has a share of the value published last, and has seen all that is published (own)
abbrev pub Loaded : {T : Type 0} → (T → Type 0) → (T → T → Type 0) → Reading T → ℕ → Sat T → Type 0
Loaded {T} begins follows reading found me =
    (published : List T) × (mark : Mark T)
    × (me ≡ (Reads (record reading { seen = published; share = Some mark; left = reading.left - 1 }), []))
    × Begins reading.seen published × IsLastMark begins follows published reading.name found mark

-- release: S counted the share; it was 1, and a bury is due, or the owner has made all its steps (own)
abbrev pub Released : {T : Type 0} → Mark T → ℕ → Sat T → Type 0
Released mark found me = (0 < found) × MatchBool (found == 1) (me ≡ (Buries mark.slot mark.name, [])) (me ≡ (Gone, []))

-- a version that was published, and isn't the last (own)
pub record IsOlder {T : Type 0} (begins : T → Type 0) (follows : T → T → Type 0) (version : Version T) : Type 0 where
  pub published : List T
  pub history : IsHistory begins follows published
  pub value_is : slice_get published version.number ≡ Some version.value
  pub older : version.number + 1 < length published

-- a bury that won: the owner has the slot's place, with the version that lay there, which isn't the last, and is to fade (own)
pub record IsWon {T : Type 0} (begins : T → Type 0) (follows : T → T → Type 0) (slot name : ℕ) (me : Sat T) : Type 0 where
  pub spot : RoomSpot T
  pub room : Room T
  pub mark : Mark T
  pub me_is : me ≡ (Fades slot spot, (slot, room) ∷ [])
  pub lies : room.at ≡ spot.at
  pub version : room.value ≡ Some (version_of mark)
  pub stake : room.stake ≡ stake_of mark ∷ []
  pub name_is : mark.name ≡ name
  pub slot_is : mark.slot ≡ slot
  pub older : IsOlder begins follows (version_of mark)

-- bury: it wins where S was 0 (own)
abbrev pub Tried : {T : Type 0} → (T → Type 0) → (T → T → Type 0) → ℕ → ℕ → ℕ → Sat T → Type 0
Tried begins follows slot name found me = MatchBool (found == 0) (IsWon begins follows slot name me) (me ≡ (Gone, []))

-- fade, of who buried a version: K counted it; where K was 1 a reset is due, else the owner has made all its steps (own)
abbrev pub Faded : {T : Type 0} → ℕ → ℕ → Sat T → Type 0
Faded slot found me = (0 < found) × MatchBool (found == 1) (me ≡ (Resets slot, [])) (me ≡ (Gone, []))

-- reset: a free is due (own)
abbrev pub Restored : {T : Type 0} → ℕ → Sat T → Type 0
Restored slot me = me ≡ (Frees slot, [])

-- free: the owner has made all its steps (own)
abbrev pub Freed : {T : Type 0} → Sat T → Type 0
Freed me = me ≡ (Gone, [])

-- a probe that saw FREE: the publisher has the slot's place, whole and empty, and the slot is none that it may still take (own)
pub record IsTaken {T : Type 0} (p : Publishing T) (slot : ℕ) (me : Sat T) : Type 0 where
  pub spot : RoomSpot T
  pub room : Room T
  pub me_is : me ≡ (Publishes (record p { how = Preparing slot; spot = spot; found = without slot p.found }), (slot, room) ∷ [])
  pub lies : room.at ≡ spot.at
  pub empty : room.value ≡ None
  pub whole : room.stake ≡ []

-- the slot that a publication probes after this one; after the last one the publication ends (own)
abbrev pub beyond : ℕ → ℕ
beyond slot = if slot + 1 == slots then 0 else slot + 1

-- probe: the slot is the publisher's where S was FREE, else it is none that was seen free, and the next one is due (own)
abbrev pub Probed : {T : Type 0} → Publishing T → ℕ → ℕ → Sat T → Type 0
Probed p slot found me =
    MatchBool (found == free_word) (IsTaken p slot me) ((me ≡ (Publishes (record p { how = Probing (beyond slot) }), [])) × IsAbsent slot p.found)

-- scan: the slot is one of those seen free where S was FREE, and the next one is due (own)
abbrev pub Scanned : {T : Type 0} → Publishing T → ℕ → ℕ → Sat T → Type 0
Scanned p slot found me =
    MatchBool (found == free_word)
    (me ≡ (Publishes (record p { how = Probing (beyond slot); found = slot ∷ found_before slot p.found }), []))
    (me ≡ (Publishes (record p { how = Probing (beyond slot); found = found_before slot p.found }), []))

-- prepare: the version lies in the publisher's slot (own)
abbrev pub Prepared : {T : Type 0} → Publishing T → ℕ → T → Sat T → Type 0
Prepared p slot value me = me ≡ (Publishes (record p { how = Swapping slot; next = Some value }), [])

-- swap: the value is published, and the publisher is to settle the version that was in W (own)
abbrev pub Swapped : {T : Type 0} → Publishing T → T → ℕ → Sat T → Type 0
Swapped p value found me =
    (number : ℕ) × (length p.published ≡ number + 1) × (slot_of found < slots)
    × (me ≡ (Publishes (record p { published = p.published ++ value ∷ []; how = Settling number (slot_of found) (given_of found); next = None; fixed = None }), []))

-- settle: the publisher has a share of the version before (own)
pub record IsSettled {T : Type 0} (p : Publishing T) (number slot : ℕ) (me : Sat T) : Type 0 where
  pub mark : Mark T
  pub me_is : me ≡ (Publishes (record p { how = Probing 0; share = Some (Once mark) }), [])
  pub number_is : mark.number ≡ number
  pub slot_is : mark.slot ≡ slot
  pub within : slot < slots
  pub value : slice_get p.published number ≡ Some mark.value
  pub name_is : mark.name ≡ p.name

-- newest: the publisher has a share of its own last version, and the readers that it has taken in had seen beginnings of what is published (own)
abbrev pub Newest : {T : Type 0} → (T → Type 0) → (T → T → Type 0) → Publishing T → ℕ → Sat T → Type 0
Newest {T} begins follows p found me =
    (mark : Mark T)
    × (me ≡ (Publishes (record p { share = Some (Once mark); left = p.left - 1; fixed = None }), []))
    × IsLastMark begins follows p.published p.name found mark
    × AreGuests p.name p.published p.guests

-- greet: a look by the publisher, which costs no grant: the readers that it has taken in had seen beginnings of what is published (own)
abbrev pub Greeted : {T : Type 0} → Publishing T → Sat T → Type 0
Greeted p me = (me ≡ (Publishes (record p { fixed = None }), [])) × AreGuests p.name p.published p.guests

-- the weak owner of a share's version (own)
abbrev pub tie_of : {T : Type 0} → Mark T → Tie T
tie_of mark = record { number = mark.number; slot = mark.slot; value = mark.value; name = mark.name }

-- note: the publisher has the version weakly, too, of which it has a share, and has made one weak owner more (own)
abbrev pub Noted : {T : Type 0} → Publishing T → Mark T → Sat T → Type 0
Noted p mark me = me ≡ (Publishes (record p { share = Some (Mixed mark (tie_of mark)); noted = p.noted + 1; fixed = None }), [])

-- a reader that has seen one number more buried (own)
abbrev pub with_gone : {T : Type 0} → ℕ → Reading T → Reading T
with_gone number r = record r { gone = number ∷ r.gone }

-- raise, of an owner that a reader has taken in: it has another share of its version, for a grant (own)
abbrev pub Cloned : {T : Type 0} → Reading T → Mark T → Sat T → Type 0
Cloned r mark me = me ≡ (Hosts (record r { left = r.left - 1 }) (Double mark), [])

-- a share is of a weak owner's version (own)
pub record IsOfTie {T : Type 0} (tie : Tie T) (mark : Mark T) : Type 0 where
  pub number_is : mark.number ≡ tie.number
  pub slot_is : mark.slot ≡ tie.slot
  pub value_is : mark.value ≡ tie.value
  pub name_is : mark.name ≡ tie.name
  pub within : mark.slot < slots

-- raise, of a weak owner that a reader has taken in, for a grant: it has a share of its version where S was less than DEAD; else the
-- version is buried (own)
abbrev pub Lifted : {T : Type 0} → Reading T → Tie T → ℕ → Sat T → Type 0
Lifted {T} r tie found me =
    (found < dead_word → (mark : Mark T) × IsOfTie tie mark × (me ≡ (Hosts (record r { left = r.left - 1 }) (Mixed mark tie), [])))
    × (dead_word ≤ found → me ≡ (Hosts (with_gone tie.number (record r { left = r.left - 1 })) (Loose tie false), []))

-- look, of a weak owner that a reader has taken in: where S is DEAD or more its version is buried, else a raise may follow (own)
abbrev pub SeenBy : {T : Type 0} → Reading T → Tie T → ℕ → Sat T → Type 0
SeenBy r tie found me =
    (found < dead_word → me ≡ (Hosts r (Loose tie true), []))
    × (dead_word ≤ found → me ≡ (Hosts (with_gone tie.number r) (Loose tie false), []))

-- look, of an owner that a reader has taken in: its version isn't buried (own)
abbrev pub SeenAlive : {T : Type 0} → Reading T → Mark T → Sat T → Type 0
SeenAlive r mark me = (me ≡ (Hosts r (Once mark), [])) × (Contains r.gone mark.number → ⊥)

-- a look at W while no reader is about (own)
abbrev pub Looked : {T : Type 0} → Publishing T → ℕ → Sat T → Type 0
Looked p found me = (slot_of found < slots) × (me ≡ (Publishes (record p { fixed = Some found; swept = 0; busy = false }), []))

-- a look at S of the next slot: it counts where it is FREE; else somebody has a version (own)
abbrev pub Swept : {T : Type 0} → Publishing T → ℕ → Sat T → Type 0
Swept p found me = MatchBool (found == free_word) (me ≡ (Publishes (record p { swept = p.swept + 1 }), [])) (me ≡ (Publishes (record p { busy = true }), []))

-- a look at K of the slot in W: it counts where it has no weak owner; else somebody has its version weakly (own)
abbrev pub Skipped : {T : Type 0} → Publishing T → ℕ → Sat T → Type 0
Skipped p found me = MatchBool (found == 1) (me ≡ (Publishes (record p { swept = p.swept + 1 }), [])) (me ≡ (Publishes (record p { busy = true }), []))

-- the cell's end: the first seat has the place of the last version, of which nobody has a share (own)
pub record IsEnding {T : Type 0} (p : Publishing T) (slot : ℕ) (me : Sat T) : Type 0 where
  pub spot : RoomSpot T
  pub room : Room T
  pub mark : Mark T
  pub me_is : me ≡ (Ends slot spot, (slot, room) ∷ [])
  pub lies : room.at ≡ spot.at
  pub version : room.value ≡ Some (version_of mark)
  pub stake : room.stake ≡ stake_of mark ∷ []
  pub name_is : mark.name ≡ p.name
  pub slot_is : mark.slot ≡ slot
  pub last : length p.published ≡ mark.number + 1
  pub value : slice_get p.published mark.number ≡ Some mark.value

-- a look at S of the slot in W: the cell ends where it is what the cell has of the last version's shares; else somebody has one (own)
abbrev pub EndsAt : {T : Type 0} → Publishing T → ℕ → ℕ → Sat T → Type 0
EndsAt p word found me = MatchBool (found == bulk - given_of word) (IsEnding p (slot_of word) me) (me ≡ (Publishes (record p { busy = true }), []))

-- the first seat has given the place back: it is spent (own)
abbrev pub Shut : {T : Type 0} → Sat T → Type 0
Shut me = me ≡ (Gone, [])

-- the first look at W: the first seat has slot 0's place, with the first version in it, whole (own)
pub record IsOpened {T : Type 0} (value : T) (me : Sat T) : Type 0 where
  pub spot : RoomSpot T
  pub room : Room T
  pub me_is : me ≡ (Began spot, (0, room) ∷ [])
  pub lies : room.at ≡ spot.at
  pub version : room.value ≡ Some (first_version value)
  pub whole : room.stake ≡ []

-- the publisher of a new cell, with all grants (own)
abbrev pub opener : {T : Type 0} → T → ℕ → RoomSpot T → Publishing T
opener value name spot =
    record { published = value ∷ []; how = Probing 0; next = None; share = None; left = grants; noted = 0; readers = 0; fixed = None; swept = 0; busy = false; found = []; guests = []; name = name; spot = spot }

-- the second look at W: the first value is published (own)
abbrev pub Offered : {T : Type 0} → T → ℕ → RoomSpot T → Sat T → Type 0
Offered value name spot me = me ≡ (Publishes (opener value name spot), [])

-- what a claim tells: an owner reads the version of its share (own)
abbrev pub IsClaimed : {T : Type 0} → View T → Stake (View T) → Option (Version T) → Type 0
IsClaimed (Has mark) stake value = (stake ≡ stake_of mark) × (value ≡ Some (version_of mark))
IsClaimed (Begin first) stake value = ⊥
IsClaimed (Began spot) stake value = ⊥
IsClaimed (Publishes p) stake value = ⊥
IsClaimed (Reads r) stake value = ⊥
IsClaimed (Hosts r hold) stake value = ⊥
IsClaimed (Buries slot name) stake value = ⊥
IsClaimed (HasWeakly tie) stake value = ⊥
IsClaimed (Fades slot spot) stake value = ⊥
IsClaimed (Resets slot) stake value = ⊥
IsClaimed (Frees slot) stake value = ⊥
IsClaimed (Ends slot spot) stake value = ⊥
IsClaimed Gone stake value = ⊥
