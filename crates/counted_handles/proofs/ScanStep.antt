-- A scan keeps the rule, whether it has seen the slot free or not.
use Rattle.std.proofs.Common.{◌≡◌, refl, sym, ap, ◌∙◌, subst, ℕ, zero, suc, ◌+◌, ◌<◌, inl, inr, List, [], ◌∷◌, get_or, set, arith, append-nil}
use Rattle.std.specs.List.{slice_get}
use Rattle.std.proofs.lemmas.Bool.Decides.{eqb_tells}
use mathlib.Core.Option as maybe
use mathlib.Core.Option.{some}
use lib.ListN.{get_elem?}
use Rattle.atomic_table.specs.Table.{Allows, keeps}
use Rattle.cell_core.proofs.ProbeKeeps.{pass_keeps}
use Rattle.cell_core.specs.Words.{State, slots, free_word, slot_of}
use Rattle.cell_core.specs.WordSteps.{with_publisher}
use Rattle.cell_core.specs.Shows.{Shows, PublisherIs}
use Rattle.cell_core.specs.declared.words.Publisher.TheVariants.{Probing, Preparing}
use Rattle.counted_handles.specs.declared.view.Publishing.{Publishing}
use Rattle.counted_handles.specs.declared.view.View.TheVariants.{Publishes}
use Rattle.counted_handles.specs.Found.{found_before}
use Rattle.counted_handles.specs.Shown.{Room, Board, shown}
use Rattle.counted_handles.specs.Ruled.{RoomSpot, AllFree, Holds}
use Rattle.counted_handles.specs.Tells.{Scanned, beyond}
use Rattle.counted_handles.proofs.Lists.{when_equal, when_apart}
use Rattle.counted_handles.proofs.Slots.{first_kept}
use Rattle.counted_handles.proofs.FreeSlots.{free_again, frees_again, all_free}
use Rattle.counted_handles.proofs.Frames.{unmoved, home_stays, publisher_step, knows_publisher}
use Rattle.counted_handles.proofs.Live.{slotted}
use Rattle.counted_handles.proofs.WordSteps.{found_shares, shares_set, slots_kept}
use Rattle.counted_handles.proofs.PublisherWords.{how_is, shown_publisher}
use Rattle.counted_handles.proofs.ProbeStep.{beyond_within}
use Rattle.counted_handles.proofs.EndStep.{seen_free}

-- those that were seen so far are free
all_before : {T : Type 0} (words : List ℕ) (homes : List (maybe.Option (Room T))) (slot : ℕ) (found : List ℕ) → AllFree words homes found → AllFree words homes (found_before slot found)
all_before words homes zero found are = tt
all_before words homes (suc slot) found are = are

module _ {T : Type 0} (begins : T → Type 0) (follows : T → T → Type 0) (spots : List (RoomSpot T)) where
  -- the next slot is due, and these are free
  scanned : (s : Board T) (h : Holds begins follows spots s) (p : Publishing T) (slot : ℕ) (found : List ℕ) → get_elem? s.views 0 ≡ some (Publishes p) → p.how ≡ Probing slot → AllFree s.words s.homes found
      → Holds begins follows spots (record { words = set s.words (suc (slot + slot)) (get_or s.words (suc (slot + slot)) 0); homes = s.homes; views = set s.views 0 (Publishes (record p { how = Probing (beyond slot); found = found })) })
  scanned s h p slot found at how are =
      let st : State T = shown s in
      let word : ℕ = get_or s.words (suc (slot + slot)) 0 in
      let words : List ℕ = set s.words (suc (slot + slot)) word in
      let probing : st.publisher ≡ Probing slot = how_is s p at ∙ how in
      let l : slot < slots = subst (λ x. PublisherIs h.cell h.shows.plan st.granted x) probing h.shows.publisher_is in
      let there = slotted s h slot l in
      let shares = found_shares s slot there in
      let known = h.knows 0 (Publishes p) at in
      let counts = knows_publisher begins follows spots s h p at in
      let new : Publishing T = record p { how = Probing (beyond slot); found = found } in
      let after : State T = shown (record { words = words; homes = s.homes; views = set s.views 0 (Publishes new) }) in
      let same : after ≡ with_publisher (Probing (beyond slot)) st =
      shown_publisher s words s.homes p new st.latest st.table at refl refl refl (first_kept s.words (slot + slot) word) (shares_set s slot word there ∙ slots_kept s slot word there (sym shares)) in
      publisher_step begins follows spots s h words s.homes p new (record {
        at = at;
        cell = h.cell;
        begun = ([], append-nil h.cell.published);
        history = h.history;
        shows = subst (λ x. Shows x h.cell) (sym same) (pass_keeps st h.cell slot (beyond slot) h.shows probing (beyond_within slot l));
        left = omega arith;
        readers = refl;
        guests = counts.guests;
        sunk = counts.sunk;
        gone = λ j u. u;
        fixed = λ w e. ((counts.fixed w e).0, first_kept s.words (slot + slot) word ∙ (counts.fixed w e).1);
        free = λ w k e q. frees_again s.words s.homes (suc (slot + slot)) (slot_of w) p.swept (counts.free w slot e how);
        spare = all_free s.words words s.homes s.homes (λ k free. free_again s.words s.homes (suc (slot + slot)) k free) found are;
        homes_are = λ place home e. home_stays spots h.name st after place home
            (λ q. absurd (let wrong : Probing slot ≡ Preparing place = sym probing ∙ q in cc))
            (λ i q. ap (λ (x : State T). slice_get x.owners i) same ∙ q)
            (h.homes place home e);
        mine = (known.0, known.1, known.2, tt);
        others = λ j view ne e. unmoved s.homes h.name view;
      })

  pub scans : (p : Publishing T) (slot : ℕ) → p.how ≡ Probing slot → Allows (Holds begins follows spots) slots 0 (Publishes p, []) (suc (slot + slot)) (λ n. n) (λ found me. Scanned p slot found me)
  scans p slot how s h size at bound =
      let st : State T = shown s in
      let found : ℕ = get_or s.words (suc (slot + slot)) 0 in
      let probing : st.publisher ≡ Probing slot = how_is s p at ∙ how in
      let l : slot < slots = subst (λ x. PublisherIs h.cell h.shows.plan st.granted x) probing h.shows.publisher_is in
      let counts = knows_publisher begins follows spots s h p at in
      let before = all_before s.words s.homes slot p.found counts.spare in
      elim (eqb_tells found free_word) [
        | inl free ↦ (
          Publishes (record p { how = Probing (beyond slot); found = slot ∷ found_before slot p.found }),
          keeps,
          tt,
          scanned s h p slot (slot ∷ found_before slot p.found) at how (seen_free begins follows spots s h p slot slot at how l free.1, before),
          when_equal found free_word _ _ free.1 refl,
        )
        | inr other ↦ (
          Publishes (record p { how = Probing (beyond slot); found = found_before slot p.found }),
          keeps,
          tt,
          scanned s h p slot (found_before slot p.found) at how before,
          when_apart found free_word _ _ other.1 refl,
        )
      ]
