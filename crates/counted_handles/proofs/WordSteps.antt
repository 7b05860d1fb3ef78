-- What a table shows when the word S or K of a slot is set, and its place.
use Rattle.std.proofs.Common.{◌≡◌, ◌≢◌, sym, ap, ◌∙◌, ℕ, suc, ◌+◌, ◌-◌, get_or, set, arith}
use Rattle.std.specs.List.{slice_set}
use mathlib.Core.Option as maybe
use mathlib.Core.Option.{none, some}
use lib.ListN.{get_elem?}
use Rattle.atomic_table.proofs.Lists.{set_again}
use Rattle.cell_core.proofs.SeatLemmas.{set_there}
use Rattle.cell_core.specs.Words.{grants}
use Rattle.cell_core.specs.WordSteps.{with_owner, with_slot, with_shares, with_weak_word, with_version}
use Rattle.cell_core.specs.declared.words.Slot.{Slot}
use Rattle.counted_handles.specs.declared.view.View.{View}
use Rattle.counted_handles.specs.Shown.{Room, Board, version_at, owner_of, left_of, lefts, slots_in, behind, shown}
use Rattle.counted_handles.proofs.Lists.{map_set, sum_set}
use Rattle.counted_handles.proofs.Slots.{slot_set, weak_set, behind_set, first_kept, read_behind}
use Rattle.counted_handles.proofs.Frames.{publisher_else, noted_else, state_is}
use Rattle.counted_handles.proofs.Live.{Slotted}

-- S of a slot is the word that a step finds, and K
pub found_shares : {T : Type 0} (s : Board T) (place : ℕ) (at : Slotted s place) → at.there.shares ≡ get_or s.words (suc (place + place)) 0
found_shares {T} s place at = ap (λ (x : Slot T). x.shares) (sym at.is) ∙ sym (read_behind s.words (place + place))

pub found_weak : {T : Type 0} (s : Board T) (place : ℕ) (at : Slotted s place) → at.there.weak ≡ get_or s.words (suc (suc (place + place))) 0
found_weak {T} s place at = ap (λ (x : Slot T). x.weak) (sym at.is) ∙ sym (read_behind s.words (suc (place + place)))

pub home_version : {T : Type 0} (s : Board T) (place : ℕ) (at : Slotted s place) → version_at at.home ≡ at.there.version
home_version {T} s place at = ap (λ (x : Slot T). x.version) at.is

-- the slots, when a slot's S and its place are set
pub place_set : {T : Type 0} (s : Board T) (place n : ℕ) (home : maybe.Option (Room T)) (at : Slotted s place) → slots_in (behind (set s.words (suc (place + place)) n)) (set s.homes place home) ≡ slice_set (shown s).table place (with_shares n (with_version (version_at home) at.there))
place_set s place n home at = ap (λ w. slots_in w (set s.homes place home)) (behind_set s.words (place + place) n) ∙ slot_set (behind s.words) s.homes place n home at.there at.at

pub shares_set : {T : Type 0} (s : Board T) (place n : ℕ) (at : Slotted s place) → slots_in (behind (set s.words (suc (place + place)) n)) s.homes ≡ slice_set (shown s).table place (with_shares n at.there)
shares_set {T} s place n at =
    ap (slots_in (behind (set s.words (suc (place + place)) n))) (sym (set_again s.homes place at.home at.home_at))
    ∙ place_set s place n at.home at
    ∙ ap (λ v. slice_set (shown s).table place (with_shares n (with_version v at.there))) (home_version s place at)

-- what the table shows, when a seat that isn't the first has done so
pub shown_place : {T : Type 0} (s : Board T) (place n : ℕ) (home : maybe.Option (Room T)) (at : Slotted s place) (id : ℕ) (old new : View T) → get_elem? s.views id ≡ some old → id ≢ 0 → left_of new ≡ left_of old → shown (record { words = set s.words (suc (place + place)) n; homes = set s.homes place home; views = set s.views id new }) ≡ with_owner id (owner_of new) (with_slot place (with_shares n (with_version (version_at home) at.there)) (shown s))
shown_place s place n home at id old new seat first left =
    let sums = sum_set left_of s.views id old new seat in
    state_is _ _ (first_kept s.words (place + place) n) (place_set s place n home at) (publisher_else s.views id new first) (map_set owner_of s.views id new)
    (ap (λ k. grants - k) (let e : lefts (set s.views id new) ≡ lefts s.views = omega (arith, sums, left) in e))
    (noted_else s.views id new first)

pub shown_shares : {T : Type 0} (s : Board T) (place n : ℕ) (at : Slotted s place) (id : ℕ) (old new : View T) → get_elem? s.views id ≡ some old → id ≢ 0 → left_of new ≡ left_of old → shown (record { words = set s.words (suc (place + place)) n; homes = s.homes; views = set s.views id new }) ≡ with_owner id (owner_of new) (with_slot place (with_shares n at.there) (shown s))
shown_shares s place n at id old new seat first left =
    let sums = sum_set left_of s.views id old new seat in
    state_is _ _ (first_kept s.words (place + place) n) (shares_set s place n at) (publisher_else s.views id new first) (map_set owner_of s.views id new)
    (ap (λ k. grants - k) (let e : lefts (set s.views id new) ≡ lefts s.views = omega (arith, sums, left) in e))
    (noted_else s.views id new first)

-- the same of K
weak_place_set : {T : Type 0} (s : Board T) (place n : ℕ) (home : maybe.Option (Room T)) (at : Slotted s place) → slots_in (behind (set s.words (suc (suc (place + place))) n)) (set s.homes place home) ≡ slice_set (shown s).table place (with_weak_word n (with_version (version_at home) at.there))
weak_place_set s place n home at = ap (λ w. slots_in w (set s.homes place home)) (behind_set s.words (suc (place + place)) n) ∙ weak_set (behind s.words) s.homes place n home at.there at.at

pub weak_shares_set : {T : Type 0} (s : Board T) (place n : ℕ) (at : Slotted s place) → slots_in (behind (set s.words (suc (suc (place + place))) n)) s.homes ≡ slice_set (shown s).table place (with_weak_word n at.there)
weak_shares_set {T} s place n at =
    ap (slots_in (behind (set s.words (suc (suc (place + place))) n))) (sym (set_again s.homes place at.home at.home_at))
    ∙ weak_place_set s place n at.home at
    ∙ ap (λ v. slice_set (shown s).table place (with_weak_word n (with_version v at.there))) (home_version s place at)

pub shown_weak_place : {T : Type 0} (s : Board T) (place n : ℕ) (home : maybe.Option (Room T)) (at : Slotted s place) (id : ℕ) (old new : View T) → get_elem? s.views id ≡ some old → id ≢ 0 → left_of new ≡ left_of old → shown (record { words = set s.words (suc (suc (place + place))) n; homes = set s.homes place home; views = set s.views id new }) ≡ with_owner id (owner_of new) (with_slot place (with_weak_word n (with_version (version_at home) at.there)) (shown s))
shown_weak_place s place n home at id old new seat first left =
    let sums = sum_set left_of s.views id old new seat in
    state_is _ _ (first_kept s.words (suc (place + place)) n) (weak_place_set s place n home at) (publisher_else s.views id new first) (map_set owner_of s.views id new)
    (ap (λ k. grants - k) (let e : lefts (set s.views id new) ≡ lefts s.views = omega (arith, sums, left) in e))
    (noted_else s.views id new first)

pub shown_weak : {T : Type 0} (s : Board T) (place n : ℕ) (at : Slotted s place) (id : ℕ) (old new : View T) → get_elem? s.views id ≡ some old → id ≢ 0 → left_of new ≡ left_of old → shown (record { words = set s.words (suc (suc (place + place))) n; homes = s.homes; views = set s.views id new }) ≡ with_owner id (owner_of new) (with_slot place (with_weak_word n at.there) (shown s))
shown_weak s place n at id old new seat first left =
    let sums = sum_set left_of s.views id old new seat in
    state_is _ _ (first_kept s.words (suc (place + place)) n) (weak_shares_set s place n at) (publisher_else s.views id new first) (map_set owner_of s.views id new)
    (ap (λ k. grants - k) (let e : lefts (set s.views id new) ≡ lefts s.views = omega (arith, sums, left) in e))
    (noted_else s.views id new first)

-- the same where S is set to what it was
pub slots_kept : {T : Type 0} (s : Board T) (place n : ℕ) (at : Slotted s place) → n ≡ at.there.shares → slice_set (shown s).table place (with_shares n at.there) ≡ (shown s).table
slots_kept {T} s place n at e = ap (λ m. slice_set (shown s).table place (with_shares m at.there)) e ∙ sym (set_there (shown s).table place at.there at.at)
