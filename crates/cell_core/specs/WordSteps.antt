-- WordSteps: the steps on one word, and what each makes of the words, the slots and the calls under way (own).
use Rattle.std.specs.Prelude.{◌≡◌, ℕ, ◌+◌, ◌-◌, ◌^◌, ◌<◌, ◌==◌, nat_lt, [], ◌∷◌, ◌++◌, length, Option, None, Some, MatchBool}
use Rattle.std.specs.List.{slice_get, slice_set}
use Rattle.std.specs.Option.{option_and_then}
use Rattle.cell_core.specs.Words.{State, slots, grants, notes, free_word, dead_word, bulk, word_of, slot_of, given_of, fetch_add, fetch_sub, number_in, owned_of, fading_of}
use Rattle.cell_core.specs.declared.words.Slot.{Slot}
use Rattle.cell_core.specs.declared.words.Version.{Version}
use Rattle.cell_core.specs.declared.words.Owner.{Owner}
use Rattle.cell_core.specs.declared.words.Owner.TheVariants.{Holding, Weakly, Burying, Fading, Resetting, Freeing, Spent}
use Rattle.cell_core.specs.declared.words.Publisher.{Publisher}
use Rattle.cell_core.specs.declared.words.Publisher.TheVariants.{Probing, Preparing, Swapping, Settling}
use Rattle.cell_core.specs.declared.words.WordStep.{WordStep}
use Rattle.cell_core.specs.declared.words.WordStep.TheVariants.{Load, Probe, Prepare, Swap, Settle, Release, Bury, Free, Look, Raise, Note, Fade, Reset}
use Rattle.cell_core.specs.declared.words.WordEvent.{WordEvent}
use Rattle.cell_core.specs.declared.words.WordEvent.TheVariants.{Loaded, Passed, Taken, NoSlot, Prepared, Swapped, Settled, Left, Emptied, Buried, Kept, Freed, Alive, Dead, Raised, Noted, Faded, Closed, Restored}

-- the table with another slot at a place (own)
abbrev pub with_slot : {T : Type 0} → ℕ → Slot T → State T → State T
with_slot place there state = record state { table = slice_set state.table place there }

-- an owner that has come further (own)
abbrev pub with_owner : {T : Type 0} → ℕ → Owner → State T → State T
with_owner place owner state = record state { owners = slice_set state.owners place owner }

-- one owner more (own)
abbrev pub with_new_owner : {T : Type 0} → Owner → State T → State T
with_new_owner owner state = record state { owners = state.owners ++ owner ∷ [] }

-- the publisher has come further (own)
abbrev pub with_publisher : {T : Type 0} → Publisher → State T → State T
with_publisher publisher state = record state { publisher = publisher }

-- the word S of a slot (own)
abbrev pub with_shares : {T : Type 0} → ℕ → Slot T → Slot T
with_shares shares there = record there { shares = shares }

-- the word K of a slot (own)
abbrev pub with_weak_word : {T : Type 0} → ℕ → Slot T → Slot T
with_weak_word weak there = record there { weak = weak }

-- what lies in a slot (own)
abbrev pub with_version : {T : Type 0} → Option (Version T) → Slot T → Slot T
with_version version there = record there { version = version }

-- one share more is given out (own)
abbrev pub with_grant : {T : Type 0} → State T → State T
with_grant state = record state { granted = state.granted + 1 }

-- one weak owner more is made (own)
abbrev pub with_note : {T : Type 0} → State T → State T
with_note state = record state { noted = state.noted + 1 }

-- load, on W: fetch_add 1. A reader gains an owner of the version in W (own)
abbrev pub Loads : {T : Type 0} → State T → WordEvent → State T → Type 0
Loads old event new =
    (number : ℕ) × (number_in old (slot_of old.latest) ≡ Some number) × (old.granted < grants)
    × (event ≡ Loaded (length old.owners) number)
    × (new ≡ with_new_owner (Holding number (slot_of old.latest)) (record old { latest = fetch_add old.latest 1; granted = old.granted + 1 }))

-- probe, on S: load. The publisher takes the slot where it sees FREE; the 64th that isn't free ends the publication (own)
abbrev pub Probes : {T : Type 0} → State T → WordEvent → State T → Type 0
Probes {T} old event new =
    (place : ℕ) × (there : Slot T) × (old.publisher ≡ Probing place) × (slice_get old.table place ≡ Some there)
    × MatchBool (there.shares == free_word)
    ((event ≡ Taken) × (new ≡ with_publisher (Preparing place) old))
    (MatchBool (place + 1 == slots)
    ((event ≡ NoSlot) × (new ≡ with_publisher (Probing 0) old))
    ((event ≡ Passed) × (new ≡ with_publisher (Probing (place + 1)) old)))

-- prepare, on S: store 2^62. The version is put into the slot first, with the number after that of the version in W (own)
abbrev pub Prepares : {T : Type 0} → State T → T → WordEvent → State T → Type 0
Prepares {T} old value event new =
    (place : ℕ) × (there : Slot T) × (last : ℕ) × (old.publisher ≡ Preparing place) × (slice_get old.table place ≡ Some there)
    × (number_in old (slot_of old.latest) ≡ Some last) × (last + 1 < 2 ^ 64) × (event ≡ Prepared)
    × (new ≡ with_publisher (Swapping place) (with_slot place (with_shares bulk (with_version (Some (record { number = last + 1; value = value })) there)) old))

-- swap, on W: swap to the publisher's slot and 0. The publisher owns the version that was in W (own)
abbrev pub Swaps : {T : Type 0} → State T → WordEvent → State T → Type 0
Swaps old event new =
    (place : ℕ) × (last : ℕ) × (old.publisher ≡ Swapping place) × (place < slots)
    × (number_in old (slot_of old.latest) ≡ Some last) × (event ≡ Swapped last)
    × (new ≡ with_publisher (Settling last (slot_of old.latest) (given_of old.latest)) (record old { latest = word_of place 0 }))

-- settle, on S: fetch_sub 2^62 - n - 1. The publisher keeps one share, which is an owner's (own)
abbrev pub Settles : {T : Type 0} → State T → WordEvent → State T → Type 0
Settles {T} old event new =
    (number : ℕ) × (place : ℕ) × (given : ℕ) × (there : Slot T) × (old.publisher ≡ Settling number place given)
    × (slice_get old.table place ≡ Some there) × (event ≡ Settled (length old.owners) number)
    × (new ≡ with_publisher (Probing 0) (with_new_owner (Holding number place) (with_slot place (with_shares (fetch_sub there.shares (bulk - given - 1)) there) old)))

-- release, on S: fetch_sub 1. The owner has given its share back; a bury follows where S is now 0 (own)
abbrev pub Releases : {T : Type 0} → State T → ℕ → WordEvent → State T → Type 0
Releases {T} old owner event new =
    (number : ℕ) × (place : ℕ) × (there : Slot T) × (slice_get old.owners owner ≡ Some (Holding number place))
    × (slice_get old.table place ≡ Some there)
    × MatchBool (fetch_sub there.shares 1 == 0)
    ((event ≡ Emptied) × (new ≡ with_owner owner (Burying place) (with_slot place (with_shares 0 there) old)))
    ((event ≡ Left) × (new ≡ with_owner owner Spent (with_slot place (with_shares (fetch_sub there.shares 1) there) old)))

-- bury, on S: compare_exchange 0 to DEAD, one try. Where it wins, the version that is in the slot now is taken out, and a
-- fade follows (own)
abbrev pub Buries : {T : Type 0} → State T → ℕ → WordEvent → State T → Type 0
Buries {T} old owner event new =
    (place : ℕ) × (there : Slot T) × (slice_get old.owners owner ≡ Some (Burying place)) × (slice_get old.table place ≡ Some there)
    × MatchBool (there.shares == 0)
    ((number : ℕ) × (number_in old place ≡ Some number) × (event ≡ Buried number)
    × (new ≡ with_owner owner (Fading place) (with_slot place (with_shares dead_word (with_version None there)) old)))
    ((event ≡ Kept) × (new ≡ with_owner owner Spent old))

-- free, on S: store FREE (own)
abbrev pub Frees : {T : Type 0} → State T → ℕ → WordEvent → State T → Type 0
Frees {T} old owner event new =
    (place : ℕ) × (there : Slot T) × (slice_get old.owners owner ≡ Some (Freeing place)) × (slice_get old.table place ≡ Some there)
    × (event ≡ Freed) × (new ≡ with_owner owner Spent (with_slot place (with_shares free_word there) old))

-- the number and the slot of what an owner has, weakly or not (own)
abbrev pub owned_in : {T : Type 0} → State T → ℕ → Option (ℕ × ℕ)
owned_in state owner = option_and_then owned_of (slice_get state.owners owner)

-- look, on S: load. A reader sees whether the version that an owner has is buried (own)
abbrev pub Looks : {T : Type 0} → State T → ℕ → WordEvent → State T → Type 0
Looks {T} old owner event new =
    (number : ℕ) × (place : ℕ) × (there : Slot T) × (owned_in old owner ≡ Some (number, place)) × (slice_get old.table place ≡ Some there)
    × MatchBool (nat_lt there.shares dead_word) ((event ≡ Alive) × (new ≡ old)) ((event ≡ Dead) × (new ≡ old))

-- raise, on S: fetch_add 1. A reader gains an owner of the version that an owner has, where S was less than DEAD; else what it
-- added is without meaning (own)
abbrev pub Raises : {T : Type 0} → State T → ℕ → WordEvent → State T → Type 0
Raises {T} old owner event new =
    (number : ℕ) × (place : ℕ) × (there : Slot T) × (owned_in old owner ≡ Some (number, place)) × (slice_get old.table place ≡ Some there)
    × (old.granted < grants)
    × MatchBool (nat_lt there.shares dead_word)
    ((event ≡ Raised (length old.owners) number)
    × (new ≡ with_new_owner (Holding number place) (with_grant (with_slot place (with_shares (fetch_add there.shares 1) there) old))))
    ((event ≡ Dead) × (new ≡ with_grant (with_slot place (with_shares (fetch_add there.shares 1) there) old)))

-- note, on K: fetch_add 1. The publisher makes a weak owner of the version that an owner has (own)
abbrev pub Notes : {T : Type 0} → State T → ℕ → WordEvent → State T → Type 0
Notes {T} old owner event new =
    (number : ℕ) × (place : ℕ) × (there : Slot T) × (slice_get old.owners owner ≡ Some (Holding number place))
    × (slice_get old.table place ≡ Some there) × (old.noted < notes) × (event ≡ Noted (length old.owners) number)
    × (new ≡ with_new_owner (Weakly number place) (with_note (with_slot place (with_weak_word (fetch_add there.weak 1) there) old)))

-- fade, on K: fetch_sub 1. A weak owner is one no more, or who buried the version is past it; a reset follows where K is now 0 (own)
abbrev pub Fades : {T : Type 0} → State T → ℕ → WordEvent → State T → Type 0
Fades {T} old owner event new =
    (place : ℕ) × (there : Slot T) × (option_and_then fading_of (slice_get old.owners owner) ≡ Some place) × (slice_get old.table place ≡ Some there)
    × MatchBool (fetch_sub there.weak 1 == 0)
    ((event ≡ Closed) × (new ≡ with_owner owner (Resetting place) (with_slot place (with_weak_word 0 there) old)))
    ((event ≡ Faded) × (new ≡ with_owner owner Spent (with_slot place (with_weak_word (fetch_sub there.weak 1) there) old)))

-- reset, on K: store 1. A free follows (own)
abbrev pub Resets : {T : Type 0} → State T → ℕ → WordEvent → State T → Type 0
Resets {T} old owner event new =
    (place : ℕ) × (there : Slot T) × (slice_get old.owners owner ≡ Some (Resetting place)) × (slice_get old.table place ≡ Some there)
    × (event ≡ Restored) × (new ≡ with_owner owner (Freeing place) (with_slot place (with_weak_word 1 there) old))

-- what a step on a word may make of a state, and what it tells (own)
abbrev pub Makes : {T : Type 0} → State T → WordStep T → WordEvent → State T → Type 0
Makes old Load event new = Loads old event new
Makes old Probe event new = Probes old event new
Makes old (Prepare value) event new = Prepares old value event new
Makes old Swap event new = Swaps old event new
Makes old Settle event new = Settles old event new
Makes old (Release owner) event new = Releases old owner event new
Makes old (Bury owner) event new = Buries old owner event new
Makes old (Free owner) event new = Frees old owner event new
Makes old (Look owner) event new = Looks old owner event new
Makes old (Raise owner) event new = Raises old owner event new
Makes old (Note owner) event new = Notes old owner event new
Makes old (Fade owner) event new = Fades old owner event new
Makes old (Reset owner) event new = Resets old owner event new

-- a step can be made (own)
abbrev pub HasWordStep : {T : Type 0} → State T → WordStep T → Type 0
HasWordStep {T} state step = (event : WordEvent) × (new : State T) × Makes state step event new

-- a step that takes memory: one that makes an owner (own)
abbrev pub GrowsOwners : {T : Type 0} → WordStep T → Type 0
GrowsOwners Load = Unit {0}
GrowsOwners Settle = Unit {0}
GrowsOwners (Raise owner) = Unit {0}
GrowsOwners (Note owner) = Unit {0}
GrowsOwners step = ⊥
