-- What the calls ask and give (own).
use Rattle.std.specs.Prelude.{◌≡◌, Bool, true, false, Contains, ℕ, ◌+◌, ◌-◌, ◌^◌, ◌<◌, ◌≤◌, List, [], ◌∷◌, ◌++◌, length, Option, None, Some, vec_len}
use Rattle.std.specs.List.{slice_get}
use Rattle.atomic_table.specs.Seated.{TableId}
use Rattle.cell_core.specs.Words.{slots, notes, slot_of}
use Rattle.cell_core.specs.declared.words.Publisher.TheVariants.{Probing, Preparing, Swapping, Settling}
use Rattle.counted_handles.specs.declared.rule.Spots.{Spots}
use Rattle.counted_handles.specs.declared.view.Mark.{Mark}
use Rattle.counted_handles.specs.declared.view.Tie.{Tie}
use Rattle.counted_handles.specs.declared.view.Publishing.{Publishing}
use Rattle.counted_handles.specs.declared.view.Reading.{Reading}
use Rattle.counted_handles.specs.declared.view.View.{View}
use Rattle.counted_handles.specs.declared.view.View.TheVariants.{Began, Publishes, Reads, Has, HasWeakly, Fades, Ends}
use Rattle.raw_slots.specs.Places.{Stake}
use Rattle.cell_core.specs.declared.words.Version.{Version}
use Rattle.counted_handles.specs.History.{IsHistory}
use Rattle.counted_handles.specs.Found.{IsAbsent, without, Falls}
use Rattle.counted_handles.specs.Shown.{Room}
use Rattle.counted_handles.specs.Ruled.{RoomSpot, Begins, stake_of, mark_of, version_of, first_version}
use Rattle.counted_handles.specs.Cuts.{met_by}
use Rattle.counted_handles.specs.Tells.{Sat, IsLastMark, IsOlder, IsOfTie, tie_of, with_gone}

-- a table of the cell's size: W, with two words a slot (own)
abbrev pub Fits : TableId → Type 0
Fits id = (id.words ≡ 129) × (id.slots ≡ slots)

-- the spots of a table of the cell's size, one a slot (own)
pub record AreSpots {T : Type 0} (id : TableId) (key spots : Spots T) : Type 0 where
  pub fits : Fits id
  pub same : spots ≡ key
  pub room : vec_len spots.places ≡ slots
  pub size : length spots.places.items ≡ slots

-- a reader that may load: it has no share that isn't split off, and a grant (own)
abbrev pub CanRead : {T : Type 0} → Reading T → List (View T) → Type 0
CanRead reading views = (views ≡ Reads reading ∷ []) × (reading.share ≡ None) × (0 < reading.left)

-- what a load leaves the reader, and the owner's seat with its share (own)
pub record Drawn {T : Type 0} (begins : T → Type 0) (follows : T → T → Type 0) (reading : Reading T) (found : ℕ) (views : List (View T)) (share : Sat T) : Type 0 where
  pub published : List T
  pub mark : Mark T
  pub begun : Begins reading.seen published
  pub last : IsLastMark begins follows published reading.name found mark
  pub views_are : views ≡ Reads (record reading { seen = published; left = reading.left - 1 }) ∷ []
  pub share_is : share ≡ (Has mark, [])

-- the publisher's seat as it probes a slot (own)
abbrev pub IsProbing : {T : Type 0} → Publishing T → ℕ → Sat T → Type 0
IsProbing p slot me = (me ≡ (Publishes p, [])) × (p.how ≡ Probing slot)

-- the publisher has the slot's place, with the next version in it, shared: it is to be given back (own)
pub record IsReady {T : Type 0} (slot : ℕ) (p : Publishing T) (value : T) (room : Room T) (me : Sat T) : Type 0 where
  pub me_is : me ≡ (Publishes p, (slot, room) ∷ [])
  pub within : slot < slots
  pub how : p.how ≡ Preparing slot
  pub lies : room.at ≡ p.spot.at
  pub version : room.value ≡ Some (record { number = length p.published; value = value })
  pub life : ℕ
  pub tally : ℕ
  pub stake : room.stake ≡ stake_of (mark_of p.name slot (record { number = length p.published; value = value }) life tally) ∷ []

-- the publisher's version lies in its slot, and its value may follow those published (own)
pub record IsSwapping {T : Type 0} (begins : T → Type 0) (follows : T → T → Type 0) (slot : ℕ) (p : Publishing T) (value : T) (me : Sat T) : Type 0 where
  pub me_is : me ≡ (Publishes p, [])
  pub within : slot < slots
  pub how : p.how ≡ Swapping slot
  pub next : p.next ≡ Some value
  pub history : IsHistory begins follows (p.published ++ value ∷ [])

-- the publisher is to settle a version, of which so many shares were given out (own)
pub record IsSettling {T : Type 0} (slot given : ℕ) (p : Publishing T) (number : ℕ) (me : Sat T) : Type 0 where
  pub me_is : me ≡ (Publishes p, [])
  pub within : slot < slots
  pub few : given < 2 ^ 48
  pub how : p.how ≡ Settling number slot given
  pub share : p.share ≡ None
  pub unfixed : p.fixed ≡ None

-- a publication's end: the value is published, and the seat of the old version's share has it (own)
pub record IsSwappedIn {T : Type 0} (p : Publishing T) (value : T) (slot : ℕ) (me share : Sat T) : Type 0 where
  pub mark : Mark T
  pub slot_is : mark.slot ≡ slot
  pub last : length p.published ≡ mark.number + 1
  pub value_is : slice_get p.published mark.number ≡ Some mark.value
  pub name_is : mark.name ≡ p.name
  pub within : mark.slot < slots
  pub me_is : me ≡ (Publishes (record p { published = p.published ++ value ∷ []; how = Probing 0; next = None; fixed = None }), [])
  pub share_is : share ≡ (Has mark, [])

-- the publisher between two calls: no share that isn't split off, and no grant of its own (own)
abbrev pub IsIdle : {T : Type 0} → Publishing T → Sat T → Type 0
IsIdle p me = (me ≡ (Publishes p, [])) × (p.share ≡ None) × (p.left ≡ 0)

-- a reader's seat with a grant (own)
abbrev pub IsGuest : {T : Type 0} → Reading T → Sat T → Type 0
IsGuest r me = (me ≡ (Reads r, [])) × (r.share ≡ None) × (0 < r.left)

-- the publisher that took a reader in and has given all grants to a reader again (own)
abbrev pub gave_back : {T : Type 0} → Publishing T → Publishing T
gave_back p = record p { left = 0; readers = p.readers - 1 + 1; fixed = None }

-- what a load by the publisher leaves: its own seat, the one of the share, and a reader's with the rest of the grants, which has
-- seen all that is published, of which the reader had seen a beginning (own)
pub record IsNewest {T : Type 0} (begins : T → Type 0) (follows : T → T → Type 0) (p : Publishing T) (r : Reading T) (found : ℕ) (me share reader : Sat T) : Type 0 where
  pub mark : Mark T
  pub last : IsLastMark begins follows p.published p.name found mark
  pub me_is : me ≡ (Publishes (gave_back p), [])
  pub share_is : share ≡ (Has mark, [])
  pub reader_is : reader ≡ (met_by p r.gone (r.left - 1), [])
  pub begun : Begins r.seen p.published

-- what the publisher's look for a reader leaves that it took in: its own seat, and the reader's, which has seen all that is published, of
-- which it had seen a beginning (own)
pub record IsGreeted {T : Type 0} (p : Publishing T) (r : Reading T) (me reader : Sat T) : Type 0 where
  pub me_is : me ≡ (Publishes (gave_back p), [])
  pub reader_is : reader ≡ (met_by p r.gone r.left, [])
  pub begun : Begins r.seen p.published

-- the first seat has slot 0's place, with the first version in it, shared: it is to be given back (own)
pub record IsOffering {T : Type 0} (begins : T → Type 0) (value : T) (name : ℕ) (spot : RoomSpot T) (me : Sat T) : Type 0 where
  pub room : Room T
  pub me_is : me ≡ (Began spot, (0, room) ∷ [])
  pub begun : begins value
  pub lies : room.at ≡ spot.at
  pub version : room.value ≡ Some (first_version value)
  pub life : ℕ
  pub tally : ℕ
  pub stake : room.stake ≡ stake_of (mark_of name 0 (first_version value) life tally) ∷ []

-- the seat has the slot's place, whole, with a version that is buried in it (own)
pub record IsOut {T : Type 0} (begins : T → Type 0) (follows : T → T → Type 0) (slot : ℕ) (me : Sat T) : Type 0 where
  pub spot : RoomSpot T
  pub room : Room T
  pub mark : Mark T
  pub me_is : me ≡ (Fades slot spot, (slot, room) ∷ [])
  pub lies : room.at ≡ spot.at
  pub version : room.value ≡ Some (version_of mark)
  pub whole : room.stake ≡ []
  pub older : IsOlder begins follows (version_of mark)

-- what a load gives: the version published last is held, for the share of this slot, and the reader has seen all that is
-- published (own)
pub record IsLoaded {T : Type 0} (begins : T → Type 0) (follows : T → T → Type 0) (reading : Reading T) (views : List (View T)) (stake : Stake (View T)) (value : Option (Version T)) (slot : ℕ) : Type 0 where
  pub published : List T
  pub mark : Mark T
  pub begun : Begins reading.seen published
  pub history : IsHistory begins follows published
  pub last : length published ≡ mark.number + 1
  pub value_is : slice_get published mark.number ≡ Some mark.value
  pub views_are : views ≡ Reads (record reading { seen = published; left = reading.left - 1 }) ∷ []
  pub stake_is : stake ≡ stake_of mark
  pub held_is : value ≡ Some (version_of mark)
  pub slot_is : mark.slot ≡ slot
  pub within : slot < slots
  pub name_is : mark.name ≡ reading.name

-- the seat has the slot's place, whole and empty, to give it back (own)
pub record IsEmptied {T : Type 0} (slot : ℕ) (me : Sat T) : Type 0 where
  pub spot : RoomSpot T
  pub room : Room T
  pub me_is : me ≡ (Fades slot spot, (slot, room) ∷ [])
  pub lies : room.at ≡ spot.at
  pub empty : room.value ≡ None
  pub whole : room.stake ≡ []

-- what a load gives its caller: an owner of the version published last, and the reader has seen all that is published (own)
pub record IsOwned {T : Type 0} (begins : T → Type 0) (follows : T → T → Type 0) (reading : Reading T) (views : List (View T)) (version : Version T) : Type 0 where
  pub published : List T
  pub begun : Begins reading.seen published
  pub history : IsHistory begins follows published
  pub last : length published ≡ version.number + 1
  pub value_is : slice_get published version.number ≡ Some version.value
  pub views_are : views ≡ Reads (record reading { seen = published; left = reading.left - 1 }) ∷ []

-- the version lies in the publisher's slot, and is to be swapped in (own)
abbrev pub IsPut : {T : Type 0} → Publishing T → ℕ → T → Sat T → Type 0
IsPut {T} p slot value me = (spot : RoomSpot T) × (me ≡ (Publishes (record p { how = Swapping slot; next = Some value; spot = spot; found = without slot p.found }), []))

-- the publisher between two publications, with no share that isn't split off (own)
abbrev pub CanPublish : {T : Type 0} → Publishing T → List (View T) → Type 0
CanPublish p views = (views ≡ Publishes p ∷ []) × (p.how ≡ Probing 0) × (p.share ≡ None)

-- the version is the last of those that were published (own)
abbrev pub IsOld : {T : Type 0} → Publishing T → Version T → Type 0
IsOld p version = (length p.published ≡ version.number + 1) × (slice_get p.published version.number ≡ Some version.value)

-- the value is published, and nothing else: it lies in a slot that is none that may still be taken (own)
abbrev pub IsNewer : {T : Type 0} → Publishing T → T → List (View T) → Type 0
IsNewer {T} p value views =
    (spot : RoomSpot T) × (slot : ℕ) × (views ≡ Publishes (record p { published = p.published ++ value ∷ []; next = None; fixed = None; spot = spot; found = without slot p.found }) ∷ [])

-- the publisher with no share that isn't split off and no grant of its own (own)
abbrev pub IsAtRest : {T : Type 0} → Publishing T → List (View T) → Type 0
IsAtRest p views = (views ≡ Publishes p ∷ []) × (p.share ≡ None) × (p.left ≡ 0)

-- what a look at W by the publisher with a reader gives its caller: the reader has seen all that is published, of which it had seen a
-- beginning (own)
pub record HasMet {T : Type 0} (p : Publishing T) (r : Reading T) (views reader : List (View T)) : Type 0 where
  pub views_are : views ≡ Publishes (gave_back p) ∷ []
  pub reader_is : reader ≡ met_by p r.gone r.left ∷ []
  pub begun : Begins r.seen p.published

-- a reader's token with no share that isn't split off (own)
abbrev pub CanMeet : {T : Type 0} → Reading T → List (View T) → Type 0
CanMeet r views = (views ≡ Reads r ∷ []) × (r.share ≡ None)

-- the publisher with a reader that it took in last, and others before it (own)
pub record IsHost {T : Type 0} (p : Publishing T) (r : Reading T) (rest : List (Reading T)) (views : List (View T)) : Type 0 where
  pub views_are : views ≡ Publishes p ∷ []
  pub whole : p.share ≡ None
  pub guests : p.guests ≡ r ∷ rest
  pub guest_whole : r.share ≡ None
  pub enough : r.left ≤ p.left

-- the publisher has seen so many slots free, from the first one on, beside the one in W, which is this (own)
pub record IsSweeping {T : Type 0} (p : Publishing T) (word last slot : ℕ) (me : Sat T) : Type 0 where
  pub me_is : me ≡ (Publishes p, [])
  pub how : p.how ≡ Probing 0
  pub fixed : p.fixed ≡ Some word
  pub last_is : slot_of word ≡ last
  pub swept : p.swept ≡ slot

-- the publisher that no reader is beside, between two publications (own)
pub record IsAlone {T : Type 0} (p : Publishing T) (me : Sat T) : Type 0 where
  pub me_is : me ≡ (Publishes p, [])
  pub how : p.how ≡ Probing 0
  pub readers : p.readers ≡ 0

-- the same of its token (own)
abbrev pub CanEnd : {T : Type 0} → Publishing T → List (View T) → Type 0
CanEnd p views = (views ≡ Publishes p ∷ []) × (p.how ≡ Probing 0) × (p.readers ≡ 0)

-- the publisher as it was, but for what it has seen of the words: somebody has a version (own)
abbrev pub HasLooked : {T : Type 0} → Publishing T → Sat T → Type 0
HasLooked p me = (fixed : Option ℕ) × (swept : ℕ) × (me ≡ (Publishes (record p { fixed = fixed; swept = swept; busy = true }), []))

abbrev pub IsLike : {T : Type 0} → Publishing T → List (View T) → Type 0
IsLike p views = (fixed : Option ℕ) × (swept : ℕ) × (views ≡ Publishes (record p { fixed = fixed; swept = swept; busy = true }) ∷ [])

-- no slot is one of those that the publisher has seen free, and may still take (own)
abbrev pub HasNone : {T : Type 0} → Publishing T → Type 0
HasNone p = (slot : ℕ) → slot < slots → IsAbsent slot p.found

-- the publisher as it was, but for the slots that it has seen free: so many, no two the same (own)
pub record HasScanned {T : Type 0} (p : Publishing T) (count : ℕ) (me : Sat T) : Type 0 where
  pub found : List ℕ
  pub me_is : me ≡ (Publishes (record p { found = found }), [])
  pub falls : Falls slots found
  pub many : length found ≡ count

-- the same of its token (own)
pub record HasFound {T : Type 0} (p : Publishing T) (count : ℕ) (views : List (View T)) : Type 0 where
  pub found : List ℕ
  pub views_are : views ≡ Publishes (record p { found = found }) ∷ []
  pub falls : Falls slots found
  pub many : length found ≡ count

-- the value is the last of those published (own)
abbrev pub IsLastValue : {T : Type 0} → List T → T → Type 0
IsLastValue published value = (number : ℕ) × (length published ≡ number + 1) × (slice_get published number ≡ Some value)

-- the first seat has the last version's place, whole, with the version in it (own)
pub record IsParted {T : Type 0} (p : Publishing T) (slot : ℕ) (me : Sat T) : Type 0 where
  pub spot : RoomSpot T
  pub room : Room T
  pub version : Version T
  pub me_is : me ≡ (Ends slot spot, (slot, room) ∷ [])
  pub lies : room.at ≡ spot.at
  pub holds_it : room.value ≡ Some version
  pub whole : room.stake ≡ []
  pub last : IsLastValue p.published version.value

-- it has that place, whole, to give it back (own)
pub record IsVacant {T : Type 0} (slot : ℕ) (me : Sat T) : Type 0 where
  pub spot : RoomSpot T
  pub room : Room T
  pub me_is : me ≡ (Ends slot spot, (slot, room) ∷ [])
  pub lies : room.at ≡ spot.at
  pub whole : room.stake ≡ []

-- a reader's seat with no share that isn't split off (own)
abbrev pub IsWhole : {T : Type 0} → Reading T → Sat T → Type 0
IsWhole r me = (me ≡ (Reads r, [])) × (r.share ≡ None)

-- a reader with a grant less (own)
abbrev pub with_grant_less : {T : Type 0} → Reading T → Reading T
with_grant_less r = record r { left = r.left - 1 }

-- a clone: the reader with a grant less, and two seats of owners of the version, each with a share (own)
abbrev pub IsCloned : {T : Type 0} → Reading T → Mark T → Sat T → Sat T → Sat T → Type 0
IsCloned r mark me share owner = (me ≡ (Reads (with_grant_less r), [])) × (share ≡ (Has mark, [])) × (owner ≡ (Has mark, []))

-- an owner's version is there still: it isn't one of those that the reader has seen buried (own)
abbrev pub IsFound : {T : Type 0} → Reading T → Mark T → Sat T → Sat T → Type 0
IsFound r mark me owner = (me ≡ (Reads r, [])) × (owner ≡ (Has mark, [])) × (Contains r.gone mark.number → ⊥)

-- an upgrade that gives a share of the weak owner's version, for a grant (own)
pub record IsLifted {T : Type 0} (r : Reading T) (tie : Tie T) (me share : Sat T) : Type 0 where
  pub mark : Mark T
  pub of : IsOfTie tie mark
  pub share_is : share ≡ (Has mark, [])
  pub me_is : me ≡ (Reads (with_grant_less r), [])

-- the reader as an upgrade leaves it that gives none: it has seen the number buried, and has a grant less where the upgrade raised (own)
abbrev pub sunk_by : {T : Type 0} → Reading T → ℕ → Bool → Reading T
sunk_by r number true = with_gone number (with_grant_less r)
sunk_by r number false = with_gone number r

-- a note: the publisher has made one weak owner more, and two seats, of the owner and of a weak owner of its version (own)
abbrev pub IsNoted : {T : Type 0} → Publishing T → Mark T → Sat T → Sat T → Sat T → Type 0
IsNoted p mark me owner weak =
    (me ≡ (Publishes (record p { noted = p.noted + 1; fixed = None }), [])) × (owner ≡ (Has mark, [])) × (weak ≡ (HasWeakly (tie_of mark), []))

-- the publisher's token with no share that isn't split off, which may note once more (own)
abbrev pub CanNote : {T : Type 0} → Publishing T → List (View T) → Type 0
CanNote p views = (views ≡ Publishes p ∷ []) × (p.share ≡ None) × (p.noted < notes)

-- the publisher that has made one weak owner more (own)
abbrev pub with_note : {T : Type 0} → Publishing T → Publishing T
with_note p = record p { noted = p.noted + 1; fixed = None }

-- a load by the publisher with a note: what it gives its caller, beside the owners (own)
pub record IsNewestNoted {T : Type 0} (p : Publishing T) (r : Reading T) (views reader : List (View T)) (version : Version T) : Type 0 where
  pub last : IsOld p version
  pub views_are : views ≡ Publishes (record (gave_back p) { noted = p.noted + 1 }) ∷ []
  pub reader_is : reader ≡ met_by p r.gone (r.left - 1) ∷ []
  pub begun : Begins r.seen p.published
