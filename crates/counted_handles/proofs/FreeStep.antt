-- A free keeps the rule.
use Rattle.std.proofs.Common.{◌≡◌, refl, sym, ap, ◌∙◌, subst, ℕ, suc, ◌+◌, List, [], set, arith, Some}
use Rattle.std.specs.List.{slice_get}
use Rattle.atomic_table.specs.Table.{Allows, keeps}
use Rattle.cell_core.proofs.FreeKeeps.{free_keeps}
use Rattle.cell_core.proofs.FrameLemmas.{seat_stays}
use Rattle.cell_core.specs.Words.{State, slots, free_word}
use Rattle.cell_core.specs.WordSteps.{with_owner, with_slot, with_shares}
use Rattle.cell_core.specs.Shows.{Shows, SlotIs}
use Rattle.cell_core.specs.declared.words.Owner.TheVariants.{Fading, Freeing, Spent}
use Rattle.counted_handles.specs.declared.view.View.TheVariants.{Frees, Gone}
use Rattle.counted_handles.specs.Shown.{owner_of, shown}
use Rattle.counted_handles.specs.Ruled.{RoomSpot, Holds}
use Rattle.counted_handles.specs.Tells.{Freed}
use Rattle.counted_handles.proofs.Lists.{got_map}
use Rattle.counted_handles.proofs.Slots.{first_kept}
use Rattle.counted_handles.proofs.FreeSlots.{free_stay, frees_stay}
use Rattle.counted_handles.proofs.Frames.{unmoved, home_stays, not_first, seat_step}
use Rattle.counted_handles.proofs.Live.{slotted}
use Rattle.counted_handles.proofs.WordSteps.{found_shares, shown_shares}

module _ {T : Type 0} (begins : T → Type 0) (follows : T → T → Type 0) (spots : List (RoomSpot T)) where
  pub frees : (id slot : ℕ) → Allows (Holds begins follows spots) slots id (Frees slot, []) (suc (slot + slot)) (λ _. free_word) (λ found me. Freed me)
  frees id slot s h size at bound =
      let st : State T = shown s in
      let words : List ℕ = set s.words (suc (slot + slot)) free_word in
      let first = not_first s h id (Frees slot) at (λ p e. cc) in
      let seat : slice_get st.owners id ≡ Some (Freeing slot) = got_map owner_of s.views id (Frees slot) at in
      let charge = h.shows.owner_is id (Freeing slot) seat in
      let there = slotted s h slot charge.2 in
      let was = subst (λ p. SlotIs st h.cell h.shows.plan slot p there.there) charge.3 (h.shows.table.slot_is slot there.there there.at) in
      let shows = free_keeps st h.cell id slot there.there h.shows seat there.at in
      let after : State T = shown (record { words = words; homes = s.homes; views = set s.views id Gone }) in
      let same : after ≡ with_owner id Spent (with_slot slot (with_shares free_word there.there) st) = shown_shares s slot free_word there id (Frees slot) Gone at first refl in (
        Gone,
        keeps,
        tt,
        seat_step begins follows spots s h words s.homes id (Frees slot) Gone (record {
          at = at;
          was_none = λ p e. cc;
          is_none = λ p e. cc;
          cell = h.cell;
          published = refl;
          gone = λ j u. u;
          shows = subst (λ x. Shows x h.cell) (sym same) shows;
          left = omega arith;
          read = refl;
          fixed = λ p here counts w e. first_kept s.words (slot + slot) free_word ∙ (counts.fixed w e).1;
          free = λ last swept is are. frees_stay s.words s.homes slot free_word last swept (λ unused. omega (arith, unused.shares, found_shares s slot there, was.shares)) are;
          spare = λ place is. free_stay s.words s.homes slot free_word place (λ unused. omega (arith, unused.shares, found_shares s slot there, was.shares)) is;
          homes_are = λ place home e. home_stays spots h.name st after place home
              (λ p. ap (λ (x : State T). x.publisher) same ∙ p)
              (λ i q. ap (λ (x : State T). slice_get x.owners i) same ∙ seat_stays st.owners id (Freeing slot) Spent (Fading place) seat (λ e. cc) i q)
              (h.homes place home e);
          mine = tt;
          others = λ j view other e. unmoved s.homes h.name view;
        }),
        refl,
      )
