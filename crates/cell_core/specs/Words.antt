-- The words of a cell of 64 slots: their values, and the state of a cell whose steps are atomic acts on one word (own).
use Rattle.std.specs.Prelude.{ℕ, ◌+◌, ◌-◌, ◌*◌, ◌/◌, ◌%◌, ◌^◌, List, [], ◌∷◌, replicate, Option, None, Some}
use Rattle.std.specs.List.{slice_get}
use Rattle.std.specs.Option.{option_and_then, option_map}
use Rattle.cell_core.specs.declared.words.Slot.{Slot}
use Rattle.cell_core.specs.declared.words.Version.{Version}
use Rattle.cell_core.specs.declared.words.Publisher.{Publisher}
use Rattle.cell_core.specs.declared.words.Publisher.TheVariants.{Probing}
use Rattle.cell_core.specs.declared.words.Owner.{Owner}
use Rattle.cell_core.specs.declared.words.Owner.TheVariants.{Holding, Twice, Weakly, Both, Burying, Fading, Resetting, Freeing, Spent}

-- how many slots there are (own)
abbrev pub slots : ℕ
slots = 64

-- at most so many shares are given out of W in all (own)
abbrev pub grants : ℕ
grants = 2 ^ 46

-- at most so many weak owners are made in all (own)
abbrev pub notes : ℕ
notes = 2 ^ 32

-- S of a free slot (own)
abbrev pub free_word : ℕ
free_word = 2 ^ 63 - 1

-- S of a slot whose version is buried; raises that come too late add to it (own)
abbrev pub dead_word : ℕ
dead_word = 2 ^ 63

-- the shares that the cell has of a version that is published, before it gives any of them out (own)
abbrev pub bulk : ℕ
bulk = 2 ^ 62

-- W: the slot of the version published last, and how many of its shares were given out since (own)
abbrev pub word_of : ℕ → ℕ → ℕ
word_of slot given = slot * 2 ^ 48 + given

-- the slot that W tells, and the shares given out (own)
abbrev pub slot_of : ℕ → ℕ
slot_of latest = latest / 2 ^ 48

abbrev pub given_of : ℕ → ℕ
given_of latest = latest % 2 ^ 48

-- an atomic addition to a word, and a subtraction from it, go round at 2 ^ 64 (own)
abbrev pub fetch_add : ℕ → ℕ → ℕ
fetch_add word n = (word + n) % 2 ^ 64

abbrev pub fetch_sub : ℕ → ℕ → ℕ
fetch_sub word n = (word + (2 ^ 64 - n)) % 2 ^ 64

-- the words with their slots, and how far each call has come: W, the slots with S, K and the version that lies there, the
-- publisher, each owner, how many shares were given out in all, by loads and by raises, and how many weak owners were made (own)
pub record State (T : Type 0) : Type 0 where
  pub latest : ℕ
  pub table : List (Slot T)
  pub publisher : Publisher
  pub owners : List Owner
  pub granted : ℕ
  pub noted : ℕ

-- the version that lies in a slot; none where there is none (own)
abbrev pub version_in : {T : Type 0} → State T → ℕ → Option (Version T)
version_in state slot = option_and_then (λ there. there.version) (slice_get state.table slot)

-- its number (own)
abbrev pub number_in : {T : Type 0} → State T → ℕ → Option ℕ
number_in state slot = option_map (λ version. version.number) (version_in state slot)

-- the slot of what an owner has, and nothing besides; none where it has nothing, or has it weakly (own)
abbrev pub place_of : Owner → Option ℕ
place_of (Holding number place) = Some place
place_of (Twice number place) = None
place_of (Weakly number place) = None
place_of (Both number place) = None
place_of (Burying place) = None
place_of (Fading place) = None
place_of (Resetting place) = None
place_of (Freeing place) = None
place_of Spent = None

-- the number and the slot of the version that an owner has, weakly or not, and nothing besides (own)
abbrev pub owned_of : Owner → Option (ℕ × ℕ)
owned_of (Holding number place) = Some (number, place)
owned_of (Weakly number place) = Some (number, place)
owned_of (Twice number place) = None
owned_of (Both number place) = None
owned_of (Burying place) = None
owned_of (Fading place) = None
owned_of (Resetting place) = None
owned_of (Freeing place) = None
owned_of Spent = None

-- the slot whose K counts an owner that is to fade: a weak owner, or who buried the version (own)
abbrev pub fading_of : Owner → Option ℕ
fading_of (Weakly number place) = Some place
fading_of (Fading place) = Some place
fading_of (Holding number place) = None
fading_of (Twice number place) = None
fading_of (Both number place) = None
fading_of (Burying place) = None
fading_of (Resetting place) = None
fading_of (Freeing place) = None
fading_of Spent = None

-- the value that an owner finds in its slot; none where it has nothing, or has it weakly (own)
abbrev pub found_by : {T : Type 0} → State T → ℕ → Option T
found_by state owner =
    option_map (λ version. version.value) (option_and_then (version_in state) (option_and_then place_of (slice_get state.owners owner)))

-- the value that lies in the slot in W (own)
abbrev pub found_last : {T : Type 0} → State T → Option T
found_last state = option_map (λ version. version.value) (version_in state (slot_of state.latest))

-- a slot that nobody has used (own)
abbrev pub free_slot : {T : Type 0} → Slot T
free_slot = record { shares = free_word; weak = 1; version = None }

-- the slot of the first value (own)
abbrev pub first_slot : {T : Type 0} → T → Slot T
first_slot value = record { shares = bulk; weak = 1; version = Some (record { number = 0; value = value }) }

-- the words with one value published, in slot 0, and nobody who owns it (own)
abbrev pub begun : {T : Type 0} → T → State T
begun value =
    record {
      latest = word_of 0 0;
      table = first_slot value ∷ replicate 63 free_slot;
      publisher = Probing 0;
      owners = [];
      granted = 0;
      noted = 0;
    }
