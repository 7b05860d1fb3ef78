-- The slot in W has no weak owner where its K is 1.
use Rattle.std.proofs.Common.{◌≡◌, sym, ap, ◌∙◌, subst, ℕ, suc, ◌+◌, List, get_or, arith, Some}
use Rattle.std.specs.List.{slice_get}
use Rattle.cell_core.proofs.SeatLemmas.{weaks_some, one_at_itself}
use Rattle.cell_core.proofs.ShowsLemmas.{last_lies, latest_slot}
use Rattle.cell_core.specs.Words.{State, slot_of}
use Rattle.cell_core.specs.Shows.{WeakWord, number_of, weaks}
use Rattle.cell_core.specs.Shows.Phase.{live}
use Rattle.cell_core.specs.declared.words.Owner.TheVariants.{Weakly}
use Rattle.counted_handles.specs.Shown.{Board, shown}
use Rattle.counted_handles.specs.Ruled.{RoomSpot, Holds}
use Rattle.counted_handles.proofs.Live.{slotted}
use Rattle.counted_handles.proofs.WordSteps.{found_weak}

module _ {T : Type 0} (begins : T → Type 0) (follows : T → T → Type 0) (spots : List (RoomSpot T)) where
  pub last_untied : (s : Board T) (h : Holds begins follows spots s) (last i number place : ℕ) → slot_of (get_or s.words 0 0) ≡ last → get_or s.words (suc (suc (last + last))) 0 ≡ 1 → slice_get (shown s).owners i ≡ Some (Weakly number place) → place ≡ last → ⊥
  last_untied s h last i number place is one seat same =
      let st : State T = shown s in
      let plan = h.shows.plan in
      let of = h.shows.owner_is i (Weakly number place) seat in
      let there = slotted s h place of.0 in
      let here : place ≡ plan.slot plan.last = same ∙ sym is ∙ latest_slot st h.cell h.shows in
      let phase : plan.phase place ≡ live plan.last = ap plan.phase here ∙ (last_lies st h.cell h.shows).1 in
      let numbers : Some plan.last ≡ Some number = sym (ap number_of phase) ∙ of.1 in
      let its : plan.last ≡ number = cc in
      let k = subst (λ x. WeakWord st.owners place x there.there.weak) phase (h.shows.table.weak_word place there.there there.at) in
      let found : there.there.weak ≡ 1 = found_weak s place there ∙ ap (λ n. get_or s.words (suc (suc (n + n))) 0) same ∙ one in
      let weak : weaks st.owners plan.last ≡ weaks st.owners number = ap (weaks st.owners) its in
      let some_weak = weaks_some st.owners i number (Weakly number place) seat in
      let once = one_at_itself number in
      omega (arith, k, found, weak, some_weak, once)
