-- A free keeps what the words show.
use Rattle.std.proofs.Common.{◌≡◌, refl, sym, ap, ◌∙◌, subst, ℕ, ◌+◌, arith}
use Rattle.std.specs.Prelude.{Some}
use Rattle.std.specs.List.{slice_get}
use Rattle.cell_core.proofs.FrameLemmas.{with_phase, charge_of, table_with, held_stays, weaks_stay, beside_itself, owner_stays, publisher_stays, phase_here, phase_there, phase_stays, number_stays, rest_stays, numbers_with, owners_after, seat_elsewhere}
use Rattle.cell_core.proofs.SeatLemmas.{weaks_some}
use Rattle.cell_core.specs.Cell.{Cell}
use Rattle.cell_core.specs.Words.{State, free_word}
use Rattle.cell_core.specs.WordSteps.{with_slot, with_owner, with_shares}
use Rattle.cell_core.specs.Shows.{Plan, SlotIs, IsDead, WeakWord, number_of, Shows, held, weaks, kept_by, kept_by_cell, owned_by}
use Rattle.cell_core.specs.Shows.Rest.{closed}
use Rattle.cell_core.specs.Shows.Phase.{free, taken, live, dead}
use Rattle.cell_core.specs.declared.words.Slot.{Slot}
use Rattle.cell_core.specs.declared.words.Owner.TheVariants.{Freeing, Spent}

-- free: who has reset K of a slot gives it free
pub free_keeps : {T : Type 0} (state : State T) (cell : Cell T) (i place : ℕ) (there : Slot T) (s : Shows state cell) → slice_get state.owners i ≡ Some (Freeing place) → slice_get state.table place ≡ Some there → Shows (with_owner i Spent (with_slot place (with_shares free_word there) state)) cell
free_keeps {T} state cell i place there s seat at =
    let new : State T = with_owner i Spent (with_slot place (with_shares free_word there) state) in
    let later : Plan = with_phase place free s.plan in
    let charge = s.owner_is i (Freeing place) seat in
    let was : IsDead state cell s.plan place charge.0 charge.1 there = subst (λ p. SlotIs state cell s.plan place p there) charge.3 (s.table.slot_is place there at) in
    let weak = subst (λ p. WeakWord state.owners place p there.weak) charge.3 (s.table.weak_word place there at) in
    let still : (j : ℕ) → held new.owners j ≡ held state.owners j = λ j. held_stays state.owners i (Freeing place) Spent j seat refl refl in
    let still_weak : (j : ℕ) → weaks new.owners j ≡ weaks state.owners j = λ j. weaks_stay state.owners i (Freeing place) Spent j seat refl refl in
    record {
      plan = later;
      numbers = numbers_with cell s.plan place free (λ j e. let apart : dead charge.0 charge.1 (closed i) ≡ live j = sym charge.3 ∙ e in cc) s.numbers;
      given = record { latest = s.given.latest; given = s.given.given; granted = s.given.granted; noted = s.given.noted };
      counts = record { strong = λ j. s.counts.strong j ∙ ap (λ n. n + owned_by state.publisher j) (sym (still j)); few = s.counts.few; few_of_last = s.counts.few_of_last; weak = λ j. s.counts.weak j ∙ sym (still_weak j); few_weak = s.counts.few_weak };
      table = table_with state new cell cell s.plan later place there (with_shares free_word there) s.numbers s.table at refl
          (λ p other. phase_there place p free s.plan other)
          (subst (λ p. SlotIs new cell later place p (with_shares free_word there)) (sym (phase_here place free s.plan)) (refl, was.version))
          (subst (λ p. WeakWord new.owners place p there.weak) (sym (phase_here place free s.plan)) weak.0.0)
          (λ p slot here other. seat_elsewhere state new cell cell s.plan later i (Freeing place) Spent p slot seat refl refl refl
          (λ zero e. cc)
          (λ e. other (let f : place ≡ p = cc in sym f))
          refl (λ j. refl) refl (λ j e u. u) (λ j u. u)
          (λ j e. ap (λ n. n + kept_by_cell s.plan.last s.plan.given j + kept_by state.publisher j) (still j))
          (λ j e. still_weak j));
      owner_is = owners_after cell later state.owners i (Freeing place) Spent seat tt
          (λ k how other h. owner_stays cell cell s.plan later k how (beside_itself cell cell s.plan place free refl) (record {
            held = λ j some u. u;
            weak = λ j p some e. number_stays place free s.plan j (λ f. (
                let same : Some charge.0 ≡ Some j = sym (ap number_of charge.3) ∙ f in
                let is : charge.0 ≡ j = cc in
                let none = ap (weaks state.owners) (sym is) ∙ weak.0.1 in
                let counted = weaks_some state.owners k j how h in
                absurd (omega (arith, some, counted, none))
                )) p e;
            rest = λ p rest e c. rest_stays place free s.plan rest (λ number late f. (
                let same : dead charge.0 charge.1 (closed i) ≡ dead number late rest = sym charge.3 ∙ f in
                let is : closed i ≡ rest = cc in
                let mine : Some i ≡ Some k = ap charge_of is ∙ e in
                absurd (other (let g : i ≡ k = cc in sym g))
                )) p c;
          })
          (s.owner_is k how h));
      publisher_is = publisher_stays cell cell s.plan later state.granted state.granted state.publisher (beside_itself cell cell s.plan place free refl) (omega arith) refl (λ number where_to given e u. u)
          (λ p prepared e. phase_stays place free s.plan (taken prepared) (λ f. let same : dead charge.0 charge.1 (closed i) ≡ taken prepared = sym charge.3 ∙ f in cc) p e)
          s.publisher_is;
    }
