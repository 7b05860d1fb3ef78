-- What words that show a cell tell of its last number, and of numbers that nobody has.
use Rattle.std.proofs.Common.{◌≡◌, refl, ap, ◌∙◌, subst, ℕ, ◌<◌, ◌≤◌, false, inl, inr, arith}
use Rattle.std.specs.Prelude.{Some}
use Rattle.std.specs.List.{slice_get}
use Rattle.std.proofs.lemmas.Bool.{cases_Bool}
use Rattle.std.proofs.lemmas.Bool.Decides.{eqb_tells}
use Rattle.std.proofs.lemmas.Option.{slice_get_within}
use Rattle.cell_core.proofs.SeatLemmas.{held_none, weaks_none, get_within}
use Rattle.cell_core.specs.Cell.{Cell, IsLast}
use Rattle.cell_core.specs.Words.{State, slots, grants, word_of, slot_of, given_of, number_in}
use Rattle.cell_core.specs.Shows.{Phase, Plan, IsLive, SlotIs, number_of, IsOf, OwnerIs, Shows, held, holds, has_weakly, weaks, kept_by, owned_by}
use Rattle.cell_core.specs.Shows.Phase.{free, taken, live, dead}
use Rattle.cell_core.specs.declared.words.Slot.{Slot}
use Rattle.cell_core.specs.declared.words.Owner.{Owner}
use Rattle.cell_core.specs.declared.words.Owner.TheVariants.{Holding, Twice, Weakly, Both, Burying, Fading, Resetting, Freeing, Spent}
use Rattle.cell_core.specs.declared.words.Publisher.{Publisher}

-- the version in W is the last one
pub last_lies : {T : Type 0} (state : State T) (cell : Cell T) (s : Shows state cell) → (s.plan.slot s.plan.last < slots) × (s.plan.phase (s.plan.slot s.plan.last) ≡ live s.plan.last) × (cell.buried s.plan.last ≡ false)
last_lies state cell s =
    let unburied : cell.buried s.plan.last ≡ false = elim (cases_Bool (cell.buried s.plan.last)) [ inl gone ↦ (let l = s.numbers.buried s.plan.last gone in absurd (omega arith)) | inr there ↦ there ] in
    let lies = s.numbers.lies s.plan.last (omega arith) unburied in
    (lies.0, lies.1, unburied)

-- W tells its slot and the shares given out
pub tells_slot : (slot given : ℕ) → given ≤ grants → slot_of (word_of slot given) ≡ slot
tells_slot slot given l = omega arith

pub tells_given : (slot given : ℕ) → given ≤ grants → given_of (word_of slot given) ≡ given
tells_given slot given l = omega arith

pub latest_slot : {T : Type 0} (state : State T) (cell : Cell T) (s : Shows state cell) → slot_of state.latest ≡ s.plan.slot s.plan.last
latest_slot state cell s = ap slot_of s.given.latest ∙ tells_slot (s.plan.slot s.plan.last) s.plan.given (omega (arith, s.given.given, s.given.granted))

pub latest_given : {T : Type 0} (state : State T) (cell : Cell T) (s : Shows state cell) → given_of state.latest ≡ s.plan.given
latest_given state cell s = ap given_of s.given.latest ∙ tells_given (s.plan.slot s.plan.last) s.plan.given (omega (arith, s.given.given, s.given.granted))

-- the number that lies in a slot, by the version that lies there
pub number_there : {T : Type 0} (state : State T) (place number : ℕ) (value : T) (there : Slot T) → slice_get state.table place ≡ Some there → there.version ≡ Some (record { number = number; value = value }) → number_in state place ≡ Some number
number_there state place number value there at is = rw at (rw is refl)

-- the number in W's slot is the last one
pub latest_number : {T : Type 0} (state : State T) (cell : Cell T) (s : Shows state cell) (number : ℕ) → number_in state (slot_of state.latest) ≡ Some number → number ≡ s.plan.last
latest_number {T} state cell s number h =
    let lies = last_lies state cell s in
    let found = get_within state.table (s.plan.slot s.plan.last) (omega (arith, lies.0, s.table.size)) in
    let is : IsLive state cell s.plan (s.plan.slot s.plan.last) s.plan.last found.0 = subst (λ p. SlotIs state cell s.plan (s.plan.slot s.plan.last) p found.0) lies.1 (s.table.slot_is (s.plan.slot s.plan.last) found.0 found.1) in
    let reported = number_there state (s.plan.slot s.plan.last) s.plan.last is.value found.0 found.1 is.version in
    let same = ap (number_in state) (latest_slot state cell s) in
    (cc)

-- a number that nobody published has no owner
unheld : {T : Type 0} (cell : Cell T) (plan : Plan) (j i : ℕ) (how : Owner) → IsLast cell plan.last → plan.last < j → OwnerIs cell plan i how → holds j how ≡ 0
unheld cell plan j i (Holding number place) last l is = elim (eqb_tells j number) [ inl same ↦ absurd (omega (arith, same.1, is.published, last)) | inr other ↦ rw other.0 refl ]
unheld cell plan j i (Twice number place) last l is = elim (eqb_tells j number) [ inl same ↦ absurd (omega (arith, same.1, is.published, last)) | inr other ↦ rw other.0 refl ]
unheld cell plan j i (Both number place) last l is = elim (eqb_tells j number) [ inl same ↦ absurd (omega (arith, same.1, is.0.published, last)) | inr other ↦ rw other.0 refl ]
unheld cell plan j i (Weakly number place) last l is = refl
unheld cell plan j i (Burying place) last l is = refl
unheld cell plan j i (Fading place) last l is = refl
unheld cell plan j i (Resetting place) last l is = refl
unheld cell plan j i (Freeing place) last l is = refl
unheld cell plan j i Spent last l is = refl

pub unpublished : {T : Type 0} (state : State T) (cell : Cell T) (s : Shows state cell) (j : ℕ) → s.plan.last < j → held state.owners j ≡ 0
unpublished state cell s j l = held_none state.owners j (λ i how h. unheld cell s.plan j i how s.numbers.last l (s.owner_is i how h))

-- the number of a slot is published
number_within : {T : Type 0} (state : State T) (cell : Cell T) (s : Shows state cell) (place number : ℕ) (there : Slot T) (phase : Phase) → SlotIs state cell s.plan place phase there → number_of phase ≡ Some number → number ≤ s.plan.last
number_within state cell s place number there free is e = absurd (let wrong = e in cc)
number_within state cell s place number there (taken prepared) is e = absurd (let wrong = e in cc)
number_within state cell s place number there (live j) is e =
    let within = slice_get_within cell.published j is.value is.published in
    let same : j ≡ number = cc in
    omega (arith, within, same, s.numbers.last)
number_within state cell s place number there (dead j late rest) is e =
    let old = s.numbers.buried j is.buried in
    let same : j ≡ number = cc in
    omega (arith, old, same)

pub is_of_within : {T : Type 0} (state : State T) (cell : Cell T) (s : Shows state cell) (number place : ℕ) → IsOf s.plan number place → number ≤ s.plan.last
is_of_within state cell s number place is =
    let found = get_within state.table place (omega (arith, is.0, s.table.size)) in
    number_within state cell s place number found.0 (s.plan.phase place) (s.table.slot_is place found.0 found.1) is.1

-- one that nobody published has no weak owner
unnoted : {T : Type 0} (state : State T) (cell : Cell T) (s : Shows state cell) (j i : ℕ) (how : Owner) → s.plan.last < j → OwnerIs cell s.plan i how → has_weakly j how ≡ 0
unnoted state cell s j i (Weakly number place) l is = elim (eqb_tells j number) [ inl same ↦ (let w = is_of_within state cell s number place is in absurd (omega (arith, same.1, w, l))) | inr other ↦ rw other.0 refl ]
unnoted state cell s j i (Both number place) l is = elim (eqb_tells j number) [ inl same ↦ (let w = is_of_within state cell s number place is.1 in absurd (omega (arith, same.1, w, l))) | inr other ↦ rw other.0 refl ]
unnoted state cell s j i (Holding number place) l is = refl
unnoted state cell s j i (Twice number place) l is = refl
unnoted state cell s j i (Burying place) l is = refl
unnoted state cell s j i (Fading place) l is = refl
unnoted state cell s j i (Resetting place) l is = refl
unnoted state cell s j i (Freeing place) l is = refl
unnoted state cell s j i Spent l is = refl

pub unpublished_weak : {T : Type 0} (state : State T) (cell : Cell T) (s : Shows state cell) (j : ℕ) → s.plan.last < j → weaks state.owners j ≡ 0
unpublished_weak state cell s j l = weaks_none state.owners j (λ i how h. unnoted state cell s j i how l (s.owner_is i how h))

-- the publisher has nothing to settle
pub unsettled : (publisher how : Publisher) (j : ℕ) → publisher ≡ how → owned_by how j ≡ 0 → kept_by how j ≡ 0 → (owned_by publisher j ≡ 0) × (kept_by publisher j ≡ 0)
unsettled publisher how j e o k = (ap (λ p. owned_by p j) e ∙ o, ap (λ p. kept_by p j) e ∙ k)
