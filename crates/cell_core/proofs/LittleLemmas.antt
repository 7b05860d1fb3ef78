-- The words of a slot are small.
use Rattle.std.proofs.Common.{◌≡◌, sym, ap, ◌∙◌, subst, refl, ℕ, ◌+◌, ◌-◌, ◌<◌, ◌≤◌, inl, inr, length, arith}
use Rattle.std.proofs.lemmas.Bool.Decides.{eqb_tells}
use Rattle.std.proofs.lemmas.Option.{slice_get_within}
use Rattle.cell_core.specs.Cell.{Cell}
use Rattle.cell_core.specs.Words.{State, grants, notes, bulk}
use Rattle.cell_core.specs.Shows.{IsLive, PublisherIs, Plan, Shows, held, weaks, owned_by, kept_by, kept_by_cell}
use Rattle.cell_core.specs.declared.words.Slot.{Slot}
use Rattle.cell_core.specs.declared.words.Publisher.{Publisher}
use Rattle.cell_core.specs.declared.words.Publisher.TheVariants.{Probing, Preparing, Swapping, Settling}

-- S of a slot whose version isn't buried
settling_few : {T : Type 0} (cell : Cell T) (plan : Plan) (granted held_of strong j : ℕ) (publisher : Publisher) → PublisherIs cell plan granted publisher → strong ≡ held_of + owned_by publisher j → strong ≤ granted + 1 → granted ≤ grants → j < plan.last → held_of + kept_by publisher j ≤ bulk + grants
settling_few cell plan granted held_of strong j (Settling number place given) is e few l before =
    elim (eqb_tells j number) [
      | inl same ↦ rw same.0 (let f : strong ≡ held_of + 1 = rw same.0 at e in omega (arith, f, few, l))
      | inr other ↦ rw other.0 (let f : strong ≡ held_of + 0 = rw other.0 at e in omega (arith, f, few, l))
    ]
settling_few cell plan granted held_of strong j (Probing place) is e few l before = omega (arith, e, few, l)
settling_few cell plan granted held_of strong j (Preparing place) is e few l before = omega (arith, e, few, l)
settling_few cell plan granted held_of strong j (Swapping place) is e few l before = omega (arith, e, few, l)

-- the publisher isn't to settle the last number
not_the_last : {T : Type 0} (cell : Cell T) (plan : Plan) (granted : ℕ) (publisher : Publisher) → PublisherIs cell plan granted publisher → kept_by publisher plan.last ≡ 0
not_the_last cell plan granted (Settling number place given) is =
    elim (eqb_tells plan.last number) [ inl same ↦ absurd (omega (arith, same.1, is.1)) | inr other ↦ rw other.0 refl ]
not_the_last cell plan granted (Probing place) is = refl
not_the_last cell plan granted (Preparing place) is = refl
not_the_last cell plan granted (Swapping place) is = refl

pub live_little : {T : Type 0} (state : State T) (cell : Cell T) (s : Shows state cell) (place j : ℕ) (there : Slot T) → IsLive state cell s.plan place j there → there.shares ≤ bulk + grants
live_little state cell s place j there is =
    let strong = s.counts.strong j in
    let few = s.counts.few j in
    let published : j < length cell.published = slice_get_within cell.published j is.value is.published in
    elim (eqb_tells j s.plan.last) [
      | inl same ↦ (
          let by_cell : kept_by_cell s.plan.last s.plan.given j ≡ bulk - s.plan.given = rw same.0 refl in
          let by_it : kept_by state.publisher j ≡ 0 = ap (kept_by state.publisher) same.1 ∙ not_the_last cell s.plan state.granted state.publisher s.publisher_is in
          let few_of : cell.strong j ≤ state.granted = subst (λ n. cell.strong n ≤ state.granted) (sym same.1) s.counts.few_of_last in
          omega (arith, is.shares, by_cell, by_it, strong, few_of, s.given.granted)
          )
      | inr other ↦ (
          let by_cell : kept_by_cell s.plan.last s.plan.given j ≡ 0 = rw other.0 refl in
          let before : j < s.plan.last = omega (arith, published, s.numbers.last, other.1) in
          let by_it = settling_few cell s.plan state.granted (held state.owners j) (cell.strong j) j state.publisher s.publisher_is strong few s.given.granted before in
          omega (arith, is.shares, by_cell, by_it)
          )
    ]

-- and few weak owners are there
pub few_weak : {T : Type 0} (state : State T) (cell : Cell T) (s : Shows state cell) (j : ℕ) → weaks state.owners j ≤ notes
few_weak state cell s j =
    let few = s.counts.few_weak j in
    let weak = s.counts.weak j in
    omega (arith, few, weak, s.given.noted)
