-- Made: what a step on a word makes, as a function; `Makes` of WordSteps says what that is (own).
use Rattle.std.specs.Prelude.{ℕ, ◌+◌, ◌-◌, ◌^◌, ◌==◌, nat_lt, length, Option, None, Some, if◌then◌else◌}
use Rattle.std.specs.List.{slice_get}
use Rattle.std.specs.Option.{option_and_then, option_map}
use Rattle.cell_core.specs.Words.{State, slots, grants, notes, free_word, dead_word, bulk, word_of, slot_of, given_of, fetch_add, fetch_sub, number_in, fading_of}
use Rattle.cell_core.specs.WordSteps.{with_slot, with_owner, with_new_owner, with_publisher, with_shares, with_weak_word, with_version, with_grant, with_note, owned_in}
use Rattle.cell_core.specs.declared.words.Slot.{Slot}
use Rattle.cell_core.specs.declared.words.Owner.{Owner}
use Rattle.cell_core.specs.declared.words.Owner.TheVariants.{Holding, Weakly, Burying, Fading, Resetting, Freeing, Spent}
use Rattle.cell_core.specs.declared.words.Publisher.{Publisher}
use Rattle.cell_core.specs.declared.words.Publisher.TheVariants.{Probing, Preparing, Swapping, Settling}
use Rattle.cell_core.specs.declared.words.WordStep.{WordStep}
use Rattle.cell_core.specs.declared.words.WordStep.TheVariants.{Load, Probe, Prepare, Swap, Settle, Release, Bury, Free, Look, Raise, Note, Fade, Reset}
use Rattle.cell_core.specs.declared.words.WordEvent.{WordEvent}
use Rattle.cell_core.specs.declared.words.WordEvent.TheVariants.{Loaded, Passed, Taken, NoSlot, Prepared, Swapped, Settled, Left, Emptied, Buried, Kept, Freed, Alive, Dead, Raised, Noted, Faded, Closed, Restored}

-- a load of a number from W, while there are shares to give out (own)
abbrev pub load_made : {T : Type 0} → State T → ℕ → Option (WordEvent × State T)
load_made old number =
    if nat_lt old.granted grants
    then Some (Loaded (length old.owners) number, with_new_owner (Holding number (slot_of old.latest)) (record old { latest = fetch_add old.latest 1; granted = old.granted + 1 }))
    else None

-- a probe, by how far the publisher has come and what it sees (own)
abbrev pub probe_seen : {T : Type 0} → State T → ℕ → Slot T → WordEvent × State T
probe_seen old place there =
    if there.shares == free_word then (Taken, with_publisher (Preparing place) old)
    else if place + 1 == slots then (NoSlot, with_publisher (Probing 0) old)
    else (Passed, with_publisher (Probing (place + 1)) old)

abbrev pub probe_made : {T : Type 0} → State T → Publisher → Option (WordEvent × State T)
probe_made old (Probing place) = option_map (probe_seen old place) (slice_get old.table place)
probe_made old (Preparing place) = None
probe_made old (Swapping place) = None
probe_made old (Settling number place given) = None

-- a prepare, by how far the publisher has come, its slot, and the number in W (own)
abbrev pub prepared_in : {T : Type 0} → State T → T → ℕ → Slot T → ℕ → Option (WordEvent × State T)
prepared_in old value place there last =
    if nat_lt (last + 1) (2 ^ 64)
    then Some (Prepared, with_publisher (Swapping place) (with_slot place (with_shares bulk (with_version (Some (record { number = last + 1; value = value })) there)) old))
    else None

abbrev pub prepare_made : {T : Type 0} → State T → T → Publisher → Option (WordEvent × State T)
prepare_made old value (Preparing place) =
    option_and_then (λ there. option_and_then (prepared_in old value place there) (number_in old (slot_of old.latest))) (slice_get old.table place)
prepare_made old value (Probing place) = None
prepare_made old value (Swapping place) = None
prepare_made old value (Settling number place given) = None

-- a swap, by how far the publisher has come, and the number in W (own)
abbrev pub swapped_from : {T : Type 0} → State T → ℕ → ℕ → Option (WordEvent × State T)
swapped_from old place last =
    if nat_lt place slots
    then Some (Swapped last, with_publisher (Settling last (slot_of old.latest) (given_of old.latest)) (record old { latest = word_of place 0 }))
    else None

abbrev pub swap_made : {T : Type 0} → State T → Publisher → Option (WordEvent × State T)
swap_made old (Swapping place) = option_and_then (swapped_from old place) (number_in old (slot_of old.latest))
swap_made old (Probing place) = None
swap_made old (Preparing place) = None
swap_made old (Settling number place given) = None

-- a settle, by how far the publisher has come (own)
abbrev pub settled_in : {T : Type 0} → State T → ℕ → ℕ → ℕ → Slot T → WordEvent × State T
settled_in old number place given there =
    (Settled (length old.owners) number, with_publisher (Probing 0) (with_new_owner (Holding number place) (with_slot place (with_shares (fetch_sub there.shares (bulk - given - 1)) there) old)))

abbrev pub settle_made : {T : Type 0} → State T → Publisher → Option (WordEvent × State T)
settle_made old (Settling number place given) = option_map (settled_in old number place given) (slice_get old.table place)
settle_made old (Probing place) = None
settle_made old (Preparing place) = None
settle_made old (Swapping place) = None

-- a release, by how far the owner has come and what its slot is (own)
abbrev pub released_from : {T : Type 0} → State T → ℕ → ℕ → Slot T → WordEvent × State T
released_from old owner place there =
    if fetch_sub there.shares 1 == 0 then (Emptied, with_owner owner (Burying place) (with_slot place (with_shares 0 there) old))
    else (Left, with_owner owner Spent (with_slot place (with_shares (fetch_sub there.shares 1) there) old))

abbrev pub release_made : {T : Type 0} → State T → ℕ → Owner → Option (WordEvent × State T)
release_made old owner (Holding number place) = option_map (released_from old owner place) (slice_get old.table place)
release_made old owner how = None

-- a bury, by how far the owner has come, what its slot is, and the number there (own)
abbrev pub buried_number : {T : Type 0} → State T → ℕ → ℕ → Slot T → ℕ → WordEvent × State T
buried_number old owner place there number =
    (Buried number, with_owner owner (Fading place) (with_slot place (with_shares dead_word (with_version None there)) old))

abbrev pub buried_in : {T : Type 0} → State T → ℕ → ℕ → Slot T → Option (WordEvent × State T)
buried_in old owner place there =
    if there.shares == 0 then option_map (buried_number old owner place there) (number_in old place)
    else Some (Kept, with_owner owner Spent old)

abbrev pub bury_made : {T : Type 0} → State T → ℕ → Owner → Option (WordEvent × State T)
bury_made old owner (Burying place) = option_and_then (buried_in old owner place) (slice_get old.table place)
bury_made old owner how = None

-- a free, by how far the owner has come (own)
abbrev pub freed_in : {T : Type 0} → State T → ℕ → ℕ → Slot T → WordEvent × State T
freed_in old owner place there = (Freed, with_owner owner Spent (with_slot place (with_shares free_word there) old))

abbrev pub free_made : {T : Type 0} → State T → ℕ → Owner → Option (WordEvent × State T)
free_made old owner (Freeing place) = option_map (freed_in old owner place) (slice_get old.table place)
free_made old owner how = None

-- a look, by what the owner has and what its slot is (own)
abbrev pub looked_in : {T : Type 0} → State T → Slot T → WordEvent × State T
looked_in old there = if nat_lt there.shares dead_word then (Alive, old) else (Dead, old)

abbrev pub look_made : {T : Type 0} → State T → ℕ × ℕ → Option (WordEvent × State T)
look_made old (number, place) = option_map (looked_in old) (slice_get old.table place)

-- a raise, by what the owner has and what its slot is, while there are shares to give out (own)
abbrev pub raised_in : {T : Type 0} → State T → ℕ → ℕ → Slot T → Option (WordEvent × State T)
raised_in old number place there =
    if nat_lt old.granted grants
    then (if nat_lt there.shares dead_word
    then Some (Raised (length old.owners) number, with_new_owner (Holding number place) (with_grant (with_slot place (with_shares (fetch_add there.shares 1) there) old)))
    else Some (Dead, with_grant (with_slot place (with_shares (fetch_add there.shares 1) there) old)))
    else None

abbrev pub raise_made : {T : Type 0} → State T → ℕ × ℕ → Option (WordEvent × State T)
raise_made old (number, place) = option_and_then (raised_in old number place) (slice_get old.table place)

-- a note, by how far the owner has come, while there are weak owners to make (own)
abbrev pub noted_in : {T : Type 0} → State T → ℕ → ℕ → Slot T → Option (WordEvent × State T)
noted_in old number place there =
    if nat_lt old.noted notes
    then Some (Noted (length old.owners) number, with_new_owner (Weakly number place) (with_note (with_slot place (with_weak_word (fetch_add there.weak 1) there) old)))
    else None

abbrev pub note_made : {T : Type 0} → State T → Owner → Option (WordEvent × State T)
note_made old (Holding number place) = option_and_then (noted_in old number place) (slice_get old.table place)
note_made old how = None

-- a fade, by the slot whose K counts the owner (own)
abbrev pub faded_in : {T : Type 0} → State T → ℕ → ℕ → Slot T → WordEvent × State T
faded_in old owner place there =
    if fetch_sub there.weak 1 == 0 then (Closed, with_owner owner (Resetting place) (with_slot place (with_weak_word 0 there) old))
    else (Faded, with_owner owner Spent (with_slot place (with_weak_word (fetch_sub there.weak 1) there) old))

abbrev pub fade_made : {T : Type 0} → State T → ℕ → ℕ → Option (WordEvent × State T)
fade_made old owner place = option_map (faded_in old owner place) (slice_get old.table place)

-- a reset, by how far the owner has come (own)
abbrev pub reset_in : {T : Type 0} → State T → ℕ → ℕ → Slot T → WordEvent × State T
reset_in old owner place there = (Restored, with_owner owner (Freeing place) (with_slot place (with_weak_word 1 there) old))

abbrev pub reset_made : {T : Type 0} → State T → ℕ → Owner → Option (WordEvent × State T)
reset_made old owner (Resetting place) = option_map (reset_in old owner place) (slice_get old.table place)
reset_made old owner how = None

-- what a step on a word tells and makes of a state; none where there is no such step (own)
abbrev pub made : {T : Type 0} → State T → WordStep T → Option (WordEvent × State T)
made old Load = option_and_then (load_made old) (number_in old (slot_of old.latest))
made old Probe = probe_made old old.publisher
made old (Prepare value) = prepare_made old value old.publisher
made old Swap = swap_made old old.publisher
made old Settle = settle_made old old.publisher
made old (Release owner) = option_and_then (release_made old owner) (slice_get old.owners owner)
made old (Bury owner) = option_and_then (bury_made old owner) (slice_get old.owners owner)
made old (Free owner) = option_and_then (free_made old owner) (slice_get old.owners owner)
made old (Look owner) = option_and_then (look_made old) (owned_in old owner)
made old (Raise owner) = option_and_then (raise_made old) (owned_in old owner)
made old (Note owner) = option_and_then (note_made old) (slice_get old.owners owner)
made old (Fade owner) = option_and_then (fade_made old owner) (option_and_then fading_of (slice_get old.owners owner))
made old (Reset owner) = option_and_then (reset_made old owner) (slice_get old.owners owner)
