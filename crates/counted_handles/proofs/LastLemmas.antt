-- When no reader is about, the publisher that has seen W tells by S whether anybody has a share of the last version.
use Rattle.std.proofs.Common.{◌≡◌, ◌≢◌, refl, sym, ap, ◌∙◌, subst, ℕ, suc, ◌+◌, ◌-◌, inl, inr, List, get_or, arith, Some}
use Rattle.std.proofs.lemmas.Bool.Decides.{eqb_tells}
use mathlib.Core.Option.{some}
use lib.ListN.{get_elem?}
use Rattle.cell_core.proofs.ShowsLemmas.{last_lies, latest_slot, latest_given}
use Rattle.cell_core.specs.Words.{State, bulk, slot_of, given_of}
use Rattle.cell_core.specs.Shows.{IsLive, SlotIs, held, kept_by, kept_by_cell}
use Rattle.cell_core.specs.declared.words.Publisher.TheVariants.{Probing}
use Rattle.counted_handles.specs.declared.view.Mark.{Mark}
use Rattle.counted_handles.specs.declared.view.Publishing.{Publishing}
use Rattle.counted_handles.specs.declared.view.View.{View}
use Rattle.counted_handles.specs.declared.view.View.TheVariants.{Publishes}
use Rattle.counted_handles.specs.Shown.{Board, shown}
use Rattle.counted_handles.specs.Ruled.{RoomSpot, MarkIs, Holds}
use Rattle.counted_handles.proofs.Frames.{mark_in, knows_publisher}
use Rattle.counted_handles.proofs.Live.{slotted, last_room}
use Rattle.counted_handles.proofs.WordSteps.{found_shares}
use Rattle.counted_handles.proofs.PublisherWords.{how_is}
use Rattle.counted_handles.proofs.BuryStep.{unheld_mark}

-- the shares that the cell has of the last number
kept_of_last : (last given : ℕ) → kept_by_cell last given last ≡ bulk - given
kept_of_last last given = elim (eqb_tells last last) [ inl same ↦ rw same.0 refl | inr other ↦ absurd (other.1 refl) ]

module _ {T : Type 0} (begins : T → Type 0) (follows : T → T → Type 0) (spots : List (RoomSpot T)) where
  -- nobody owns the last number where S is what the cell has of it
  pub last_unheld : (s : Board T) (h : Holds begins follows spots s) (p : Publishing T) (k word : ℕ) → get_elem? s.views 0 ≡ some (Publishes p) → p.how ≡ Probing k → p.fixed ≡ Some word
      → get_or s.words (suc (slot_of word + slot_of word)) 0 ≡ bulk - given_of word → (slot_of word ≡ h.shows.plan.slot h.shows.plan.last) × (held (shown s).owners h.shows.plan.last ≡ 0)
  last_unheld s h p k word at how fixed shares =
      let st : State T = shown s in
      let plan = h.shows.plan in
      let latest : get_or s.words 0 0 ≡ word = ((knows_publisher begins follows spots s h p at).fixed word fixed).1 in
      let slot : slot_of word ≡ plan.slot plan.last = ap slot_of (sym latest) ∙ latest_slot st h.cell h.shows in
      let given : given_of word ≡ plan.given = ap given_of (sym latest) ∙ latest_given st h.cell h.shows in
      let lies = last_lies st h.cell h.shows in
      let there = slotted s h (plan.slot plan.last) lies.0 in
      let is : IsLive st h.cell plan (plan.slot plan.last) plan.last there.there = subst (λ x. SlotIs st h.cell plan (plan.slot plan.last) x there.there) lies.1 (h.shows.table.slot_is (plan.slot plan.last) there.there there.at) in
      let found : there.there.shares ≡ bulk - plan.given =
      found_shares s (plan.slot plan.last) there ∙ ap (λ n. get_or s.words (suc (n + n)) 0) (sym slot) ∙ shares ∙ ap (λ n. bulk - n) given in
      let settled : kept_by st.publisher plan.last ≡ 0 = ap (λ q. kept_by q plan.last) (how_is s p at ∙ how) in
      let cells : kept_by_cell plan.last plan.given plan.last ≡ bulk - plan.given = kept_of_last plan.last plan.given in
      (slot, omega (arith, is.shares, found, settled, cells))

  -- so nobody has a share of it
  pub last_unshared : (s : Board T) (h : Holds begins follows spots s) (p : Publishing T) (k word : ℕ) → get_elem? s.views 0 ≡ some (Publishes p) → p.how ≡ Probing k → p.fixed ≡ Some word
      → get_or s.words (suc (slot_of word + slot_of word)) 0 ≡ bulk - given_of word
      → (j : ℕ) (view : View T) → get_elem? s.views j ≡ some view → (mark : Mark T) → mark_in view ≡ Some mark → MarkIs s.homes h.name mark → mark.slot ≢ slot_of word
  last_unshared s h p k word at how fixed shares j view there mark e is same =
      let unheld = last_unheld s h p k word at how fixed shares in
      let room = last_room spots s h in
      unheld_mark begins follows spots s h (h.shows.plan.slot h.shows.plan.last) h.shows.plan.last room.room room.value unheld.1 room.home room.version j view there mark e is (same ∙ unheld.0)
