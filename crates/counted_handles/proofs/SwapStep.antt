-- A swap keeps the rule.
use Rattle.std.proofs.Common.{◌≡◌, refl, sym, ap, ◌∙◌, subst, ℕ, ◌+◌, ◌<◌, List, [], ◌∷◌, ◌++◌, length, get_or, set, arith, Option, Some, None}
use Rattle.std.specs.List.{slice_get}
use mathlib.Core.Option.{some}
use Rattle.atomic_table.specs.Table.{Allows, keeps}
use Rattle.cell_core.proofs.SwapKeeps.{swap_keeps}
use Rattle.cell_core.proofs.ShowsLemmas.{last_lies, latest_slot, latest_given}
use Rattle.cell_core.specs.Cell.{with_value, with_strong}
use Rattle.cell_core.specs.Words.{State, slots, word_of, slot_of, given_of}
use Rattle.cell_core.specs.WordSteps.{with_publisher}
use Rattle.cell_core.specs.Shows.{Shows, SlotIs, PublisherIs}
use Rattle.cell_core.specs.declared.words.Version.{Version}
use Rattle.cell_core.specs.declared.words.Publisher.TheVariants.{Preparing, Swapping, Settling}
use Rattle.counted_handles.specs.declared.view.Publishing.{Publishing}
use Rattle.counted_handles.specs.declared.view.View.TheVariants.{Publishes}
use Rattle.counted_handles.specs.History.{IsHistory}
use Rattle.counted_handles.specs.Shown.{version_at, slots_in, shown}
use Rattle.counted_handles.specs.Ruled.{RoomSpot, Comes, NextIs, Holds}
use Rattle.counted_handles.specs.Tells.{Swapped}
use Rattle.counted_handles.proofs.Lists.{one_there}
use Rattle.counted_handles.proofs.Slots.{behind_first, first_set}
use Rattle.counted_handles.proofs.Frames.{unmoved, home_stays, publisher_step, knows_publisher, guests_longer, held_kept}
use Rattle.counted_handles.proofs.FreeSlots.{free_behind, all_free}
use Rattle.counted_handles.proofs.Live.{slotted}
use Rattle.counted_handles.proofs.WordSteps.{home_version}
use Rattle.counted_handles.proofs.PublisherWords.{how_is, shown_publisher}

-- the value of a version, if there is one
abbrev value_or : {T : Type 0} → T → Option (Version T) → T
value_or other None = other
value_or other (Some version) = version.value

module _ {T : Type 0} (begins : T → Type 0) (follows : T → T → Type 0) (spots : List (RoomSpot T)) where
  pub swaps : (p : Publishing T) (slot : ℕ) (value : T) → p.how ≡ Swapping slot → p.next ≡ Some value → IsHistory begins follows (p.published ++ value ∷ []) → Allows (Holds begins follows spots) slots 0 (Publishes p, []) 0 (λ _. word_of slot 0) (λ found me. Swapped p value found me)
  swaps p slot value how next history s h size at bound =
      let st : State T = shown s in
      let plan = h.shows.plan in
      let last : ℕ = plan.last in
      let found : ℕ = get_or s.words 0 0 in
      let words : List ℕ = set s.words 0 (word_of slot 0) in
      let new : Publishing T = record p { published = p.published ++ value ∷ []; how = Settling last (slot_of found) (given_of found); next = None; fixed = None } in
      let swapping : st.publisher ≡ Swapping slot = how_is s p at ∙ how in
      let mine = subst (λ x. PublisherIs h.cell plan st.granted x) swapping h.shows.publisher_is in
      let there = slotted s h slot mine.0 in
      let was = subst (λ x. SlotIs st h.cell plan slot x there.there) mine.1 (h.shows.table.slot_is slot there.there there.at) in
      let known = h.knows 0 (Publishes p) at in
      let lies : NextIs s.homes p.next slot = subst (λ x. Comes spots s.homes p x) how known.3 in
      let homes : there.home ≡ some lies.room = one_there s.homes slot there.home (some lies.room) there.home_at lies.home in
      let versions : Some (record { number = last + 1; value = was.2 }) ≡ Some (record { number = lies.number; value = lies.value }) = sym was.3 ∙ sym (home_version s slot there) ∙ ap version_at homes ∙ lies.version in
      let values : was.2 ≡ value = ap (value_or value) versions ∙ (let e : Some lies.value ≡ Some value = sym lies.next_is ∙ next in cc) in
      let version : there.there.version ≡ Some (record { number = last + 1; value = value }) = was.3 ∙ ap (λ v. Some (record { number = last + 1; value = v })) values in
      let shows = swap_keeps st h.cell slot there.there value h.shows swapping there.at was.1 version in
      let after : State T = shown (record { words = words; homes = s.homes; views = set s.views 0 (Publishes new) }) in
      let settling : Settling last (slot_of found) (given_of found) ≡ Settling last (plan.slot last) plan.given = λ i. Settling last (latest_slot st h.cell h.shows i) (latest_given st h.cell h.shows i) in
      let same : after ≡ with_publisher (Settling last (plan.slot last) plan.given) (record st { latest = word_of slot 0 }) =
      shown_publisher s words s.homes p new (word_of slot 0) st.table at refl refl refl (first_set s.words s.homes slot (word_of slot 0) there.there there.at) (ap (λ w. slots_in w s.homes) (behind_first s.words (word_of slot 0)))
      ∙ ap (λ q. with_publisher q (record st { latest = word_of slot 0 })) settling in (
        Publishes new,
        keeps,
        tt,
        publisher_step begins follows spots s h words s.homes p new (record {
          at = at;
          cell = with_value value (with_strong last h.cell);
          begun = (value ∷ [], refl);
          history = subst (λ l. IsHistory begins follows (l ++ value ∷ [])) known.1 history;
          shows = subst (λ x. Shows x (with_value value (with_strong last h.cell))) (sym same) shows;
          left = omega arith;
          readers = refl;
          guests = guests_longer p.name p.published value p.guests (knows_publisher begins follows spots s h p at).guests;
          sunk = (knows_publisher begins follows spots s h p at).sunk;
          gone = λ j u. u;
          fixed = λ w e. absurd (let wrong = e in cc);
          free = λ w k e q. absurd (let wrong = e in cc);
          spare = all_free s.words words s.homes s.homes (λ k free. free_behind s.words s.homes (word_of slot 0) k free) p.found (knows_publisher begins follows spots s h p at).spare;
          homes_are = λ place home e. home_stays spots h.name st after place home
              (λ q. absurd (let wrong : Swapping slot ≡ Preparing place = sym swapping ∙ q in cc))
              (λ i q. ap (λ (x : State T). slice_get x.owners i) same ∙ q)
              (h.homes place home e);
          mine = (known.0, ap (λ l. l ++ value ∷ []) known.1, held_kept s.homes s.homes h.name h.cell.published (h.cell.published ++ value ∷ []) p.share (λ mark e is. is) (value ∷ [], refl) known.2, tt);
          others = λ j view other e. unmoved s.homes h.name view;
        }),
        (last, ap length known.1 ∙ h.shows.numbers.last, subst (λ k. k < slots) (sym (latest_slot st h.cell h.shows)) (last_lies st h.cell h.shows).0, refl),
      )
