-- A call under way finds its next step.
use Rattle.std.proofs.Common.{◌≡◌, refl, ap, ◌∙◌, subst, ℕ, ◌+◌, ◌<◌, inl, inr, length, arith}
use Rattle.std.specs.Prelude.{None, Some, ◌==◌, ◌^◌}
use Rattle.std.specs.List.{slice_get}
use Rattle.std.specs.Option.{option_and_then}
use Rattle.std.proofs.lemmas.Bool.{cases_Bool, cases_lt, lt-ltb, le-ltb}
use Rattle.std.proofs.lemmas.Bool.Decides.{eqb_tells}
use Rattle.cell_core.proofs.SeatLemmas.{get_within}
use Rattle.cell_core.specs.Cell.{Cell}
use Rattle.cell_core.specs.Words.{State, slots, grants, notes, free_word, dead_word, slot_of, fetch_add, fetch_sub, number_in, owned_of, fading_of}
use Rattle.cell_core.specs.WordSteps.{with_slot, with_owner, with_new_owner, with_publisher, with_shares, with_weak_word, with_version, with_grant, owned_in}
use Rattle.cell_core.specs.Shows.{IsLive, SlotIs, PublisherIs, Shows}
use Rattle.cell_core.specs.declared.words.Slot.{Slot}
use Rattle.cell_core.specs.declared.words.Owner.TheVariants.{Holding, Weakly, Burying, Fading, Resetting, Freeing, Spent}
use Rattle.cell_core.specs.declared.words.Publisher.TheVariants.{Probing, Preparing, Swapping, Settling}
use Rattle.cell_core.proofs.ShowsLemmas.{last_lies, latest_slot, number_there}
use Rattle.cell_core.proofs.BuryKeeps.{can_bury}
use Rattle.cell_core.proofs.WordMachineLemmas.{has_load}
use Rattle.cell_core.proofs.WeakShows.{has_cases, to_fade}
use Rattle.cell_core.specs.WordSteps.{HasWordStep}
use Rattle.cell_core.specs.declared.words.WordStep.TheVariants.{Load, Probe, Prepare, Swap, Settle, Release, Bury, Free, Look, Raise, Note, Fade, Reset}
use Rattle.cell_core.specs.declared.words.WordEvent.TheVariants.{Taken, NoSlot, Passed, Emptied, Left, Buried, Kept, Alive, Dead, Raised, Faded, Closed}

-- a slot that is there
there_is : {T : Type 0} (state : State T) (cell : Cell T) (s : Shows state cell) (place : ℕ) → place < slots → (there : Slot T) × (slice_get state.table place ≡ Some there)
there_is state cell s place l = get_within state.table place (omega (arith, l, s.table.size))

latest_is : {T : Type 0} (state : State T) (cell : Cell T) (s : Shows state cell) → number_in state (slot_of state.latest) ≡ Some s.plan.last
latest_is {T} state cell s =
    let lies = last_lies state cell s in
    let found = there_is state cell s (s.plan.slot s.plan.last) lies.0 in
    let is : IsLive state cell s.plan (s.plan.slot s.plan.last) s.plan.last found.0 = subst (λ p. SlotIs state cell s.plan (s.plan.slot s.plan.last) p found.0) lies.1 (s.table.slot_is (s.plan.slot s.plan.last) found.0 found.1) in
    ap (number_in state) (latest_slot state cell s) ∙ number_there state (s.plan.slot s.plan.last) s.plan.last is.value found.0 found.1 is.version

pub load_goes_on : {T : Type 0} (state : State T) (cell : Cell T) → Shows state cell → state.granted < grants → HasWordStep {T = T} state Load
load_goes_on state cell s room = has_load state s.plan.last (latest_is state cell s) room

pub release_goes_on : {T : Type 0} (state : State T) (cell : Cell T) (owner number place : ℕ) → Shows state cell → slice_get state.owners owner ≡ Some (Holding number place) → HasWordStep {T = T} state (Release owner)
release_goes_on {T} state cell owner number place s seat =
    let lies = s.owner_is owner (Holding number place) seat in
    let at = s.numbers.lies number (omega (arith, lies.published, s.numbers.last)) lies.unburied in
    let found = there_is state cell s place (omega (arith, at.0, lies.here)) in
    elim (cases_Bool (fetch_sub found.0.shares 1 == 0)) [
      | inl none ↦ (Emptied, with_owner owner (Burying place) (with_slot place (with_shares 0 found.0) state), (number, place, found.0, seat, found.1, rw none (refl, refl)))
      | inr some ↦ (Left, with_owner owner Spent (with_slot place (with_shares (fetch_sub found.0.shares 1) found.0) state), (number, place, found.0, seat, found.1, rw some (refl, refl)))
    ]

pub bury_goes_on : {T : Type 0} (state : State T) (cell : Cell T) (owner place : ℕ) → Shows state cell → slice_get state.owners owner ≡ Some (Burying place) → HasWordStep {T = T} state (Bury owner)
bury_goes_on {T} state cell owner place s seat =
    let found = there_is state cell s place (s.owner_is owner (Burying place) seat) in
    elim (eqb_tells found.0.shares 0) [
      | inl none ↦ (
          let can = can_bury state cell s place found.0 found.1 none.1 in
          let number = number_there state place can.0 can.1.is.value found.0 found.1 can.1.is.version in
          (Buried can.0, with_owner owner (Fading place) (with_slot place (with_shares dead_word (with_version None found.0)) state), (place, found.0, seat, found.1, rw none.0 (can.0, number, refl, refl)))
          )
      | inr some ↦ (Kept, with_owner owner Spent state, (place, found.0, seat, found.1, rw some.0 (refl, refl)))
    ]

pub free_goes_on : {T : Type 0} (state : State T) (cell : Cell T) (owner place : ℕ) → Shows state cell → slice_get state.owners owner ≡ Some (Freeing place) → HasWordStep {T = T} state (Free owner)
free_goes_on {T} state cell owner place s seat =
    let charge = s.owner_is owner (Freeing place) seat in
    let found = there_is state cell s place charge.2 in
    (_, _, (place, found.0, seat, found.1, refl, refl))

pub probe_goes_on : {T : Type 0} (state : State T) (cell : Cell T) (place : ℕ) → Shows state cell → state.publisher ≡ Probing place → HasWordStep {T = T} state Probe
probe_goes_on {T} state cell place s is =
    let mine = subst (λ p. PublisherIs cell s.plan state.granted p) is s.publisher_is in
    let found = there_is state cell s place mine in
    elim (cases_Bool (found.0.shares == free_word)) [
      | inl is_free ↦ (Taken, with_publisher (Preparing place) state, (place, found.0, is, found.1, rw is_free (refl, refl)))
      | inr isnt ↦ elim (cases_Bool (place + 1 == slots)) [
        | inl all ↦ (NoSlot, with_publisher (Probing 0) state, (place, found.0, is, found.1, rw (isnt, all) (refl, refl)))
        | inr more ↦ (Passed, with_publisher (Probing (place + 1)) state, (place, found.0, is, found.1, rw (isnt, more) (refl, refl)))
      ]
    ]

pub prepare_goes_on : {T : Type 0} (state : State T) (cell : Cell T) (place : ℕ) (value : T) → Shows state cell → state.publisher ≡ Preparing place → length cell.published < 2 ^ 64 → HasWordStep state (Prepare value)
prepare_goes_on {T} state cell place value s is room =
    let mine = subst (λ p. PublisherIs cell s.plan state.granted p) is s.publisher_is in
    let found = there_is state cell s place mine.0 in
    (_, _, (place, found.0, s.plan.last, is, found.1, latest_is state cell s, omega (arith, room, s.numbers.last), refl, refl))

pub swap_goes_on : {T : Type 0} (state : State T) (cell : Cell T) (place : ℕ) → Shows state cell → state.publisher ≡ Swapping place → HasWordStep {T = T} state Swap
swap_goes_on {T} state cell place s is =
    let mine = subst (λ p. PublisherIs cell s.plan state.granted p) is s.publisher_is in
    (_, _, (place, s.plan.last, is, mine.0, latest_is state cell s, refl, refl))

pub settle_goes_on : {T : Type 0} (state : State T) (cell : Cell T) (number place given : ℕ) → Shows state cell → state.publisher ≡ Settling number place given → HasWordStep {T = T} state Settle
settle_goes_on {T} state cell number place given s is =
    let mine = subst (λ p. PublisherIs cell s.plan state.granted p) is s.publisher_is in
    let at = s.numbers.lies number (omega (arith, mine.1)) mine.0.unburied in
    let found = there_is state cell s place (omega (arith, at.0, mine.0.here)) in
    (_, _, (number, place, given, found.0, is, found.1, refl, refl))

-- the slot of a version that an owner has, weakly or not
owned_there : {T : Type 0} (state : State T) (cell : Cell T) (s : Shows state cell) (owner number place : ℕ) → owned_in state owner ≡ Some (number, place) → (there : Slot T) × (slice_get state.table place ≡ Some there)
owned_there state cell s owner number place own =
    elim (has_cases state owner number place own) [
      | inl seat ↦ (
          let lies = s.owner_is owner (Holding number place) seat in
          let at = s.numbers.lies number (omega (arith, lies.published, s.numbers.last)) lies.unburied in
          there_is state cell s place (omega (arith, at.0, lies.here))
          )
      | inr seat ↦ there_is state cell s place (s.owner_is owner (Weakly number place) seat).0
    ]

pub look_goes_on : {T : Type 0} (state : State T) (cell : Cell T) (owner number place : ℕ) → Shows state cell → owned_in state owner ≡ Some (number, place) → HasWordStep {T = T} state (Look owner)
look_goes_on {T} state cell owner number place s own =
    let found = owned_there state cell s owner number place own in
    elim (cases_lt found.0.shares dead_word) [
      | inl little ↦ (Alive, state, (number, place, found.0, own, found.1, rw (lt-ltb found.0.shares dead_word little) (refl, refl)))
      | inr great ↦ (Dead, state, (number, place, found.0, own, found.1, rw (le-ltb found.0.shares dead_word great) (refl, refl)))
    ]

pub raise_goes_on : {T : Type 0} (state : State T) (cell : Cell T) (owner number place : ℕ) → Shows state cell → owned_in state owner ≡ Some (number, place) → state.granted < grants → HasWordStep {T = T} state (Raise owner)
raise_goes_on {T} state cell owner number place s own room =
    let found = owned_there state cell s owner number place own in
    let same : State T = with_grant (with_slot place (with_shares (fetch_add found.0.shares 1) found.0) state) in
    elim (cases_lt found.0.shares dead_word) [
      | inl little ↦ (Raised (length state.owners) number, with_new_owner (Holding number place) same, (number, place, found.0, own, found.1, room, rw (lt-ltb found.0.shares dead_word little) (refl, refl)))
      | inr great ↦ (Dead, same, (number, place, found.0, own, found.1, room, rw (le-ltb found.0.shares dead_word great) (refl, refl)))
    ]

pub note_goes_on : {T : Type 0} (state : State T) (cell : Cell T) (owner number place : ℕ) → Shows state cell → slice_get state.owners owner ≡ Some (Holding number place) → state.noted < notes → HasWordStep {T = T} state (Note owner)
note_goes_on {T} state cell owner number place s seat room =
    let found = owned_there state cell s owner number place (ap (option_and_then owned_of) seat) in
    (_, _, (number, place, found.0, seat, found.1, room, refl, refl))

pub fade_goes_on : {T : Type 0} (state : State T) (cell : Cell T) (owner place : ℕ) → Shows state cell → option_and_then fading_of (slice_get state.owners owner) ≡ Some place → HasWordStep {T = T} state (Fade owner)
fade_goes_on {T} state cell owner place s fades =
    let within : place < slots = elim (to_fade state owner place fades) [
      | inl seat ↦ (s.owner_is owner (Weakly seat.0 place) seat.1).0
      | inr seat ↦ (s.owner_is owner (Fading place) seat).2
    ] in
    let found = there_is state cell s place within in
    elim (cases_Bool (fetch_sub found.0.weak 1 == 0)) [
      | inl none ↦ (Closed, with_owner owner (Resetting place) (with_slot place (with_weak_word 0 found.0) state), (place, found.0, fades, found.1, rw none (refl, refl)))
      | inr some ↦ (Faded, with_owner owner Spent (with_slot place (with_weak_word (fetch_sub found.0.weak 1) found.0) state), (place, found.0, fades, found.1, rw some (refl, refl)))
    ]

pub reset_goes_on : {T : Type 0} (state : State T) (cell : Cell T) (owner place : ℕ) → Shows state cell → slice_get state.owners owner ≡ Some (Resetting place) → HasWordStep {T = T} state (Reset owner)
reset_goes_on {T} state cell owner place s seat =
    let charge = s.owner_is owner (Resetting place) seat in
    let found = there_is state cell s place charge.2 in
    (_, _, (place, found.0, seat, found.1, refl, refl))
