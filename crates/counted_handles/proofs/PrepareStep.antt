-- A prepare keeps the rule.
use Rattle.std.proofs.Common.{◌≡◌, ◌≢◌, refl, sym, ap, ◌∙◌, subst, ℕ, suc, ◌+◌, ⊎_elim, List, [], ◌∷◌, length, set, arith, Some, None, append-nil}
use Rattle.std.specs.List.{slice_get, slice_set}
use mathlib.Core.Option as maybe
use mathlib.Core.Option.{none, some}
use lib.ListN.{get_elem?}
use Rattle.atomic_table.specs.Table.{Allows, gives}
use Rattle.atomic_table.proofs.Lists.{at_set, set_here}
use Rattle.cell_core.proofs.ProbeKeeps.{prepare_keeps}
use Rattle.cell_core.specs.Words.{State, slots, bulk}
use Rattle.cell_core.specs.WordSteps.{with_publisher, with_slot, with_shares, with_version}
use Rattle.cell_core.specs.Shows.{Shows, SlotIs, PublisherIs}
use Rattle.cell_core.specs.declared.words.Publisher.TheVariants.{Probing, Preparing, Swapping}
use Rattle.counted_handles.specs.declared.view.Publishing.{Publishing}
use Rattle.counted_handles.specs.declared.view.View.TheVariants.{Publishes}
use Rattle.counted_handles.specs.Shown.{Room, version_at, shown}
use Rattle.counted_handles.specs.Ruled.{RoomSpot, HomeIs, IsShared, Comes, Holds, stake_of, mark_of}
use Rattle.counted_handles.specs.Tells.{Prepared}
use Rattle.counted_handles.proofs.Lists.{got_within}
use Rattle.counted_handles.proofs.Slots.{first_kept}
use Rattle.counted_handles.proofs.Frames.{no_share, held_kept, home_stays, publisher_step, knows_publisher}
use Rattle.counted_handles.proofs.FreeSlots.{free_else, all_apart}
use Rattle.counted_handles.proofs.Live.{slotted}
use Rattle.counted_handles.proofs.WordSteps.{home_version, place_set}
use Rattle.counted_handles.proofs.PublisherWords.{how_is, shown_publisher}

module _ {T : Type 0} (begins : T → Type 0) (follows : T → T → Type 0) (spots : List (RoomSpot T)) where
  pub prepares : (p : Publishing T) (slot number : ℕ) (value : T) (room : Room T) (life tally : ℕ) → p.how ≡ Preparing slot → length p.published ≡ number → room.at ≡ p.spot.at → room.value ≡ Some (record { number = number; value = value })
      → room.stake ≡ stake_of (mark_of p.name slot (record { number = number; value = value }) life tally) ∷ []
      → Allows (Holds begins follows spots) slots 0 (Publishes p, (slot, room) ∷ []) (suc (slot + slot)) (λ _. bulk) (λ found me. Prepared p slot value me)
  prepares p slot number value room life tally how next lies full stake s h size at bound =
      let st : State T = shown s in
      let last : ℕ = h.shows.plan.last in
      let words : List ℕ = set s.words (suc (slot + slot)) bulk in
      let homes : List (maybe.Option (Room T)) = set s.homes slot (some room) in
      let new : Publishing T = record p { how = Swapping slot; next = Some value } in
      let preparing : st.publisher ≡ Preparing slot = how_is s p at ∙ how in
      let mine = subst (λ x. PublisherIs h.cell h.shows.plan st.granted x) preparing h.shows.publisher_is in
      let there = slotted s h slot mine.0 in
      let was = subst (λ x. SlotIs st h.cell h.shows.plan slot x there.there) mine.1 (h.shows.table.slot_is slot there.there there.at) in
      let empty : version_at there.home ≡ None = home_version s slot there ∙ was.2 in
      let known = h.knows 0 (Publishes p) at in
      let counts = knows_publisher begins follows spots s h p at in
      let is_next : number ≡ last + 1 = sym next ∙ ap length known.1 ∙ h.shows.numbers.last in
      let comes : Comes spots s.homes p (Preparing slot) = subst (λ x. Comes spots s.homes p x) how known.3 in
      let spot : slice_get spots slot ≡ Some p.spot = comes.0 in
      let shows = prepare_keeps st h.cell slot there.there value h.shows preparing there.at in
      let after : State T = shown (record { words = words; homes = homes; views = set s.views 0 (Publishes new) }) in
      let version : room.value ≡ Some (record { number = last + 1; value = value }) = full ∙ ap (λ n. Some (record { number = n; value = value })) is_next in
      let same : after ≡ with_publisher (Swapping slot) (with_slot slot (with_shares bulk (with_version (Some (record { number = last + 1; value = value })) there.there)) st) =
      shown_publisher s words homes p new st.latest (slice_set st.table slot (with_shares bulk (with_version (Some (record { number = last + 1; value = value })) there.there))) at refl refl refl (first_kept s.words (slot + slot) bulk)
      (place_set s slot bulk (some room) there ∙ ap (λ v. slice_set st.table slot (with_shares bulk (with_version v there.there))) version) in
      let here : get_elem? homes slot ≡ some (some room) = set_here s.homes slot (some room) (got_within s.homes slot there.home there.home_at) in (
        Publishes new,
        gives,
        tt,
        publisher_step begins follows spots s h words homes p new (record {
          at = at;
          cell = h.cell;
          begun = ([], append-nil h.cell.published);
          history = h.history;
          shows = subst (λ x. Shows x h.cell) (sym same) shows;
          left = omega arith;
          readers = refl;
          guests = counts.guests;
          sunk = counts.sunk;
          gone = λ j u. u;
          fixed = λ w e. ((counts.fixed w e).0, first_kept s.words (slot + slot) bulk ∙ (counts.fixed w e).1);
          free = λ w k e q. absurd (let wrong : Swapping slot ≡ Probing k = q in cc);
          spare = all_apart s.words words s.homes homes slot (λ k apart free. free_else s.words s.homes slot bulk (some room) k apart free) p.found comes.1 counts.spare;
          homes_are = λ place home e. ⊎_elim
              (λ (t : (place ≡ slot) × (some room ≡ home)).
              subst (λ x. HomeIs spots h.name after place x) t.1 (subst (λ k. HomeIs spots h.name after k (some room)) (sym t.0) (
                (p.spot, spot, lies),
                subst (λ v. IsShared h.name slot v room.stake) (sym full)
                    (life, tally, subst (λ n. room.stake ≡ stake_of (mark_of n slot (record { number = number; value = value }) life tally) ∷ []) known.0 stake),
              )))
              (λ (t : (place ≢ slot) × (get_elem? s.homes place ≡ some home)). home_stays spots h.name st after place home
              (λ q. absurd (t.0 (let f : Preparing slot ≡ Preparing place = sym preparing ∙ q in let g : slot ≡ place = cc in sym g)))
              (λ i q. ap (λ (x : State T). slice_get x.owners i) same ∙ q)
              (h.homes place home t.1))
              (at_set s.homes slot place (some room) home e);
          mine = (
            known.0,
            known.1,
            held_kept s.homes homes h.name h.cell.published h.cell.published p.share (no_share s.homes h.name slot there.home (some room) (Publishes p) there.home_at empty).mark ([], append-nil h.cell.published) known.2,
            record { room = room; home = here; number = number; value = value; next_is = refl; version = full },
          );
          others = λ j view other e. no_share s.homes h.name slot there.home (some room) view there.home_at empty;
        }),
        refl,
      )
