-- What lies in a slot: its place, and of a version that isn't buried the value and the stake.
use Rattle.std.proofs.Common.{◌≡◌, refl, ap, ◌∙◌, subst, ℕ, ◌<◌, List, [], ◌∷◌, arith, Some}
use Rattle.std.specs.List.{slice_get}
use mathlib.Core.Option as maybe
use mathlib.Core.Option.{none, some}
use lib.ListN.{get_elem?}
use Rattle.cell_core.proofs.SeatLemmas.{get_within}
use Rattle.cell_core.proofs.ShowsLemmas.{last_lies}
use Rattle.cell_core.specs.Words.{State, slots}
use Rattle.cell_core.specs.Shows.{IsLive, SlotIs}
use Rattle.cell_core.specs.Shows.Phase.{live}
use Rattle.cell_core.specs.declared.words.Slot.{Slot}
use Rattle.cell_core.specs.declared.words.Version.{Version}
use Rattle.counted_handles.specs.declared.view.Mark.{Mark}
use Rattle.counted_handles.specs.Shown.{Room, Board, version_at, behind, shown}
use Rattle.counted_handles.specs.Ruled.{RoomSpot, HomeIs, LiesAt, IsShared, MarkIs, Holds, mark_of, stake_of}
use Rattle.counted_handles.proofs.Slots.{slot_by, slot_made}

-- a slot of a table, with its words and its place
pub record Slotted {T : Type 0} (s : Board T) (place : ℕ) : Type 0 where
  pub there : Slot T
  pub at : slice_get (shown s).table place ≡ Some there
  pub home : maybe.Option (Room T)
  pub home_at : get_elem? s.homes place ≡ some home
  pub is : slot_by (behind s.words) place home ≡ there

pub slotted : {T : Type 0} {begins : T → Type 0} {follows : T → T → Type 0} {spots : List (RoomSpot T)} (s : Board T) (h : Holds begins follows spots s) (place : ℕ) → place < slots → Slotted s place
slotted s h place l =
    let found = get_within (shown s).table place (omega (arith, l, h.shows.table.size)) in
    let made = slot_made (behind s.words) s.homes place found.0 found.1 in
    record { there = found.0; at = found.1; home = made.0; home_at = made.1; is = made.2 }

-- a place at home in which a version lies that isn't buried
pub record LiveRoom {T : Type 0} (spots : List (RoomSpot T)) (s : Board T) (published : List T) (name number place : ℕ) : Type 0 where
  pub value : T
  pub room : Room T
  pub home : get_elem? s.homes place ≡ some (some room)
  pub lies : LiesAt spots place room
  pub version : room.value ≡ Some (record { number = number; value = value })
  pub published_is : slice_get published number ≡ Some value
  pub life : ℕ
  pub tally : ℕ
  pub stake : room.stake ≡ stake_of (mark_of name place (record { number = number; value = value }) life tally) ∷ []

-- a place that shows a version is at home
room_of : {T : Type 0} (spots : List (RoomSpot T)) (name : ℕ) (state : State T) (place : ℕ) (home : maybe.Option (Room T)) (version : Version T) → HomeIs spots name state place home → version_at home ≡ Some version → (room : Room T) × (home ≡ some room) × LiesAt spots place room × (room.value ≡ Some version) × IsShared name place (Some version) room.stake
room_of spots name state place none version is full = absurd (let wrong = full in cc)
room_of spots name state place (some room) version is full = (room, refl, is.0, full, subst (λ v. IsShared name place v room.stake) full is.1)

pub live_room : {T : Type 0} {begins : T → Type 0} {follows : T → T → Type 0} (spots : List (RoomSpot T)) (s : Board T) (h : Holds begins follows spots s) (number place : ℕ) → place < slots → h.shows.plan.phase place ≡ live number → LiveRoom spots s h.cell.published h.name number place
live_room {T} spots s h number place l phase =
    let at = slotted s h place l in
    let is : IsLive (shown s) h.cell h.shows.plan place number at.there = subst (λ p. SlotIs (shown s) h.cell h.shows.plan place p at.there) phase (h.shows.table.slot_is place at.there at.at) in
    let full : version_at at.home ≡ Some (record { number = number; value = is.value }) = ap (λ (x : Slot T). x.version) at.is ∙ is.version in
    let room = room_of spots h.name (shown s) place at.home (record { number = number; value = is.value }) (h.homes place at.home at.home_at) full in
    record {
      value = is.value;
      room = room.0;
      home = at.home_at ∙ ap some room.1;
      lies = room.2;
      version = room.3;
      published_is = is.published;
      life = room.4.0;
      tally = room.4.1;
      stake = room.4.2;
    }

-- the share of it
abbrev pub live_mark : {T : Type 0} {spots : List (RoomSpot T)} {s : Board T} {published : List T} {name number place : ℕ} → LiveRoom spots s published name number place → Mark T
live_mark {name = name} {number = number} {place = place} r = mark_of name place (record { number = number; value = r.value }) r.life r.tally

pub live_mark_is : {T : Type 0} {spots : List (RoomSpot T)} {s : Board T} {published : List T} {name number place : ℕ} (r : LiveRoom spots s published name number place) → MarkIs s.homes name (live_mark r)
live_mark_is r = record { name_is = refl; room = r.room; home = r.home; version = r.version; stake = r.stake }

-- the value published last
pub last_room : {T : Type 0} {begins : T → Type 0} {follows : T → T → Type 0} (spots : List (RoomSpot T)) (s : Board T) (h : Holds begins follows spots s) → LiveRoom spots s h.cell.published h.name h.shows.plan.last (h.shows.plan.slot h.shows.plan.last)
last_room spots s h = let lies = last_lies (shown s) h.cell h.shows in live_room spots s h h.shows.plan.last (h.shows.plan.slot h.shows.plan.last) lies.0 lies.1
