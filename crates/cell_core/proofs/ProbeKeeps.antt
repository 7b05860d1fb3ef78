-- A probe and a prepare keep what the words show.
use Rattle.std.proofs.Common.{◌≡◌, refl, sym, ap, ◌∙◌, subst, ℕ, ◌+◌, ◌-◌, ◌<◌, ◌≤◌, true, false, inl, inr, arith}
use Rattle.std.specs.Prelude.{None, Some}
use Rattle.std.specs.List.{slice_get}
use Rattle.std.proofs.lemmas.Bool.Decides.{eqb_tells}
use Rattle.std.proofs.lemmas.Option.{slice_get_within}
use Rattle.cell_core.proofs.SeatLemmas.{set_there}
use Rattle.cell_core.proofs.FrameLemmas.{with_phase, Elsewhere, table_with, table_as, beside_itself, owner_stays, knows_beside, phase_here, phase_there, numbers_with}
use Rattle.cell_core.specs.Cell.{Cell}
use Rattle.cell_core.specs.Words.{State, slots, grants, free_word, bulk}
use Rattle.cell_core.specs.WordSteps.{with_slot, with_publisher, with_shares, with_version}
use Rattle.cell_core.specs.Shows.{Phase, Plan, SlotIs, InCharge, WeakWord, number_of, PublisherIs, Counts, Shows, held, weaks, kept_by, kept_by_cell, owned_by}
use Rattle.cell_core.specs.Shows.Phase.{free, taken, live, dead}
use Rattle.cell_core.specs.declared.words.Slot.{Slot}
use Rattle.cell_core.specs.declared.words.Publisher.{Publisher}
use Rattle.cell_core.specs.declared.words.Publisher.TheVariants.{Probing, Preparing, Swapping}

-- the publisher that has nothing to settle goes on to a step of another kind, and a slot that isn't its own stays as it is
pub publisher_elsewhere : {T : Type 0} (state new : State T) (cell : Cell T) (plan later : Plan) (before after : Publisher) (p : ℕ) (there : Slot T) → state.publisher ≡ before → new.publisher ≡ after → (before ≡ Preparing p → ⊥) → (before ≡ Swapping p → ⊥) → new.owners ≡ state.owners → new.granted ≡ state.granted → later.last ≡ plan.last → later.given ≡ plan.given → ((j : ℕ) → later.slot j ≡ plan.slot j) → ((j : ℕ) → kept_by before j ≡ 0) → ((j : ℕ) → kept_by after j ≡ 0) → Elsewhere state new cell cell plan later p there
publisher_elsewhere {T} state new cell plan later before after p there was is preparing swapping owners granted last given slot none none_still =
    record {
      preparing = λ e. absurd (preparing (sym was ∙ e));
      swapping = λ e. absurd (swapping (sym was ∙ e));
      burying = λ zero k q. ap (λ l. slice_get l k) owners ∙ q;
      charge = λ rest c. subst (λ l. InCharge l p rest) (sym owners) c;
      granted = omega (arith, granted);
      gone = λ j u. u;
      weak = λ j e l. ap (λ x. weaks x j) owners;
      slot = λ j e l. slot j ∙ e;
      buried = λ j e l u. u;
      published = λ j v q. q;
      shares = λ j e l.
          let a : kept_by state.publisher j ≡ 0 = ap (λ x. kept_by x j) was ∙ none j in
          let b : kept_by new.publisher j ≡ 0 = ap (λ x. kept_by x j) is ∙ none_still j in
          let c : held new.owners j ≡ held state.owners j = ap (λ l. held l j) owners in
          let d : kept_by_cell later.last later.given j ≡ kept_by_cell plan.last plan.given j = ap (λ x. kept_by_cell x later.given j) last ∙ ap (λ x. kept_by_cell plan.last x j) given in
          omega (arith, a, b, c, d);
    }

-- a publisher that owns nothing, and goes on to own nothing
pub counts_as : {T : Type 0} (state new : State T) (cell : Cell T) (plan later : Plan) (before after : Publisher) → Counts state cell plan → state.publisher ≡ before → new.publisher ≡ after → new.owners ≡ state.owners → new.granted ≡ state.granted → new.noted ≡ state.noted → later.last ≡ plan.last → ((j : ℕ) → owned_by before j ≡ 0) → ((j : ℕ) → owned_by after j ≡ 0) → Counts new cell later
counts_as state new cell plan later before after counts was is owners granted noted last none none_still =
    record {
      strong = λ j.
          let a : owned_by state.publisher j ≡ 0 = ap (λ x. owned_by x j) was ∙ none j in
          let b : owned_by new.publisher j ≡ 0 = ap (λ x. owned_by x j) is ∙ none_still j in
          let c : held new.owners j ≡ held state.owners j = ap (λ l. held l j) owners in
          let d = counts.strong j in
          omega (arith, a, b, c, d);
      few = λ j. let a = counts.few j in omega (arith, a, granted);
      few_of_last = let e : cell.strong later.last ≡ cell.strong plan.last = ap cell.strong last in omega (arith, e, counts.few_of_last, granted);
      weak = λ j. counts.weak j ∙ ap (λ l. weaks l j) (sym owners);
      few_weak = λ j. let a = counts.few_weak j in omega (arith, a, noted);
    }

-- S of a slot in which a version lies isn't FREE
pub few_shares : (publisher : Publisher) (held_of last given m : ℕ) → held_of ≤ grants + 1 → kept_by publisher m ≡ 0 → held_of + kept_by_cell last given m + kept_by publisher m ≡ free_word → ⊥
few_shares publisher held_of last given m few none e =
    elim (eqb_tells m last) [
      | inl same ↦ (let f : held_of + (bulk - given) + kept_by publisher m ≡ free_word = rw same.0 at e in omega (arith, f, few, none))
      | inr other ↦ (let f : held_of + 0 + kept_by publisher m ≡ free_word = rw other.0 at e in omega (arith, f, few, none))
    ]

-- a slot whose S is FREE and that the publisher hasn't taken is free
free_is_free : {T : Type 0} (state : State T) (cell : Cell T) (plan : Plan) (place : ℕ) (there : Slot T) (phase : Phase) (k : ℕ) → state.publisher ≡ Probing k → Counts state cell plan → state.granted ≤ grants → SlotIs state cell plan place phase there → there.shares ≡ free_word → (phase ≡ free) × (there.version ≡ None)
free_is_free state cell plan place there free k probing counts granted s e = (refl, s.1)
free_is_free state cell plan place there (taken false) k probing counts granted s e = absurd (let apart : Probing k ≡ Preparing place = sym probing ∙ s.0 in cc)
free_is_free state cell plan place there (taken true) k probing counts granted s e = absurd (let apart : Probing k ≡ Swapping place = sym probing ∙ s.0 in cc)
free_is_free state cell plan place there (live m) k probing counts granted s e =
    let none : kept_by state.publisher m ≡ 0 = ap (λ x. kept_by x m) probing in
    let few = counts.few m in
    let strong = counts.strong m in
    absurd (few_shares state.publisher (held state.owners m) plan.last plan.given m (omega (arith, few, strong, granted)) none (sym s.shares ∙ e))
free_is_free state cell plan place there (dead m late rest) k probing counts granted s e = absurd (omega (arith, s.shares, e))

-- probe, where FREE is seen: the slot is the publisher's
pub take_keeps : {T : Type 0} (state : State T) (cell : Cell T) (place : ℕ) (there : Slot T) (s : Shows state cell) → state.publisher ≡ Probing place → slice_get state.table place ≡ Some there → there.shares ≡ free_word → Shows (with_publisher (Preparing place) state) cell
take_keeps {T} state cell place there s is at shares =
    let new : State T = with_publisher (Preparing place) state in
    let later : Plan = with_phase place (taken false) s.plan in
    let was = free_is_free state cell s.plan place there (s.plan.phase place) place is s.counts s.given.granted (s.table.slot_is place there at) shares in
    let within = slice_get_within state.table place there at in
    record {
      plan = later;
      numbers = numbers_with cell s.plan place (taken false) (λ j e. let apart : free ≡ live j = sym was.0 ∙ e in cc) s.numbers;
      given = record { latest = s.given.latest; given = s.given.given; granted = s.given.granted; noted = s.given.noted };
      counts = counts_as state new cell s.plan later (Probing place) (Preparing place) s.counts is refl refl refl refl refl (λ j. refl) (λ j. refl);
      table = table_with state new cell cell s.plan later place there there s.numbers s.table at (set_there state.table place there at)
          (λ p other. phase_there place p (taken false) s.plan other)
          (subst (λ p. SlotIs new cell later place p there) (sym (phase_here place (taken false) s.plan)) (refl, shares, was.1))
          (subst (λ p. WeakWord state.owners place p there.weak) (sym (phase_here place (taken false) s.plan)) (subst (λ p. WeakWord state.owners place p there.weak) was.0 (s.table.weak_word place there at)))
          (λ p slot here other. publisher_elsewhere state new cell s.plan later (Probing place) (Preparing place) p slot is refl (λ e. cc) (λ e. cc) refl refl refl refl (λ j. refl) (λ j. refl) (λ j. refl));
      owner_is = λ k how h. owner_stays cell cell s.plan later k how (beside_itself cell cell s.plan place (taken false) refl) (knows_beside cell s.plan place (taken false) k how (ap number_of was.0))
          (s.owner_is k how h);
      publisher_is = (omega (arith, within, s.table.size), phase_here place (taken false) s.plan);
    }

-- probe, where it isn't: nothing is shown
pub pass_keeps : {T : Type 0} (state : State T) (cell : Cell T) (place beyond : ℕ) (s : Shows state cell) → state.publisher ≡ Probing place → beyond < slots → Shows (with_publisher (Probing beyond) state) cell
pass_keeps {T} state cell place beyond s is l =
    let new : State T = with_publisher (Probing beyond) state in
    record {
      plan = s.plan;
      numbers = s.numbers;
      given = record { latest = s.given.latest; given = s.given.given; granted = s.given.granted; noted = s.given.noted };
      counts = counts_as state new cell s.plan s.plan (Probing place) (Probing beyond) s.counts is refl refl refl refl refl (λ j. refl) (λ j. refl);
      table = table_as state new cell cell s.plan s.plan s.numbers s.table refl (λ p. refl)
          (λ p slot here. publisher_elsewhere state new cell s.plan s.plan (Probing place) (Probing beyond) p slot is refl (λ e. cc) (λ e. cc) refl refl refl refl (λ j. refl) (λ j. refl) (λ j. refl));
      owner_is = s.owner_is;
      publisher_is = l;
    }

-- prepare: the version lies in the publisher's slot
pub prepare_keeps : {T : Type 0} (state : State T) (cell : Cell T) (place : ℕ) (there : Slot T) (value : T) (s : Shows state cell) → state.publisher ≡ Preparing place → slice_get state.table place ≡ Some there → Shows (with_publisher (Swapping place) (with_slot place (with_shares bulk (with_version (Some (record { number = s.plan.last + 1; value = value })) there)) state)) cell
prepare_keeps {T} state cell place there value s is at =
    let slot : Slot T = with_shares bulk (with_version (Some (record { number = s.plan.last + 1; value = value })) there) in
    let new : State T = with_publisher (Swapping place) (with_slot place slot state) in
    let later : Plan = with_phase place (taken true) s.plan in
    let mine = subst (λ p. PublisherIs cell s.plan state.granted p) is s.publisher_is in
    record {
      plan = later;
      numbers = numbers_with cell s.plan place (taken true) (λ j e. let apart : taken false ≡ live j = sym mine.1 ∙ e in cc) s.numbers;
      given = record { latest = s.given.latest; given = s.given.given; granted = s.given.granted; noted = s.given.noted };
      counts = counts_as state new cell s.plan later (Preparing place) (Swapping place) s.counts is refl refl refl refl refl (λ j. refl) (λ j. refl);
      table = table_with state new cell cell s.plan later place there slot s.numbers s.table at refl
          (λ p other. phase_there place p (taken true) s.plan other)
          (subst (λ p. SlotIs new cell later place p slot) (sym (phase_here place (taken true) s.plan)) (refl, refl, value, refl))
          (subst (λ p. WeakWord state.owners place p there.weak) (sym (phase_here place (taken true) s.plan)) (subst (λ p. WeakWord state.owners place p there.weak) mine.1 (s.table.weak_word place there at)))
          (λ p there_too here other. publisher_elsewhere state new cell s.plan later (Preparing place) (Swapping place) p there_too is refl (λ e. other (let f : p ≡ place = cc in f)) (λ e. cc) refl refl refl refl (λ j. refl) (λ j. refl) (λ j. refl));
      owner_is = λ k how h. owner_stays cell cell s.plan later k how (beside_itself cell cell s.plan place (taken true) refl) (knows_beside cell s.plan place (taken true) k how (ap number_of mine.1))
          (s.owner_is k how h);
      publisher_is = (mine.0, phase_here place (taken true) s.plan);
    }
