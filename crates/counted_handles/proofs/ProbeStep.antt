-- A probe keeps the rule, whether it takes the slot or not.
use Rattle.std.proofs.Common.{◌≡◌, ◌≢◌, refl, sym, ap, ◌∙◌, subst, ℕ, suc, ◌+◌, ◌<◌, inl, inr, ⊎_elim, List, [], get_or, set, arith, Some, None, append-nil}
use Rattle.std.specs.List.{slice_get, slice_set}
use Rattle.std.proofs.lemmas.Bool.Decides.{eqb_tells}
use mathlib.Core.Option as maybe
use mathlib.Core.Option.{none, some}
use lib.ListN.{get_elem?}
use Rattle.atomic_table.specs.Table.{Allows, keeps, takes}
use Rattle.atomic_table.proofs.Lists.{at_set}
use Rattle.cell_core.proofs.ProbeKeeps.{take_keeps, pass_keeps}
use Rattle.cell_core.specs.Words.{State, slots, free_word, slot_of}
use Rattle.cell_core.specs.WordSteps.{with_publisher, with_shares, with_version}
use Rattle.cell_core.specs.Shows.{Shows, SlotIs, PublisherIs}
use Rattle.cell_core.specs.declared.words.Publisher.TheVariants.{Probing, Preparing}
use Rattle.cell_core.specs.declared.words.Owner.TheVariants.{Fading}
use Rattle.counted_handles.specs.declared.view.Publishing.{Publishing}
use Rattle.counted_handles.specs.declared.view.View.TheVariants.{Publishes}
use Rattle.counted_handles.specs.Found.{without}
use Rattle.counted_handles.specs.Shown.{Room, version_at, shown}
use Rattle.counted_handles.specs.Ruled.{RoomSpot, HomeIs, LiesAt, IsShared, Holds}
use Rattle.counted_handles.specs.Tells.{Probed, beyond}
use Rattle.counted_handles.proofs.Lists.{when_equal, when_apart}
use Rattle.counted_handles.proofs.Slots.{first_kept}
use Rattle.counted_handles.proofs.FreeSlots.{free_again, free_away, frees_again, all_free, all_taken, absent_without, absent_busy}
use Rattle.counted_handles.proofs.Frames.{no_share, held_kept, unmoved, home_stays, publisher_step, knows_publisher}
use Rattle.counted_handles.proofs.Live.{slotted}
use Rattle.counted_handles.proofs.WordSteps.{found_shares, home_version, place_set, shares_set, slots_kept}
use Rattle.counted_handles.proofs.PublisherWords.{how_is, shown_publisher}

-- a slot whose S is FREE has its place at home while the publisher probes: whole, and with nothing in it
pub free_room : {T : Type 0} (spots : List (RoomSpot T)) (name : ℕ) (state : State T) (place k : ℕ) (home : maybe.Option (Room T)) → state.publisher ≡ Probing k → ((i : ℕ) → slice_get state.owners i ≡ Some (Fading place) → ⊥) → version_at home ≡ None → HomeIs spots name state place home → (room : Room T) × (home ≡ some room) × LiesAt spots place room × (room.value ≡ None) × (room.stake ≡ [])
free_room spots name state place k none probing unfreed empty is = ⊎_elim (λ e. absurd (let wrong : Probing k ≡ Preparing place = sym probing ∙ e in cc)) (λ e. absurd (unfreed e.0 e.1)) is
free_room spots name state place k (some room) probing unfreed empty is = (room, refl, is.0, empty, subst (λ v. IsShared name place v room.stake) empty is.1)

-- the next slot is one of them
pub beyond_within : (slot : ℕ) → slot < slots → beyond slot < slots
beyond_within slot l = elim (eqb_tells (slot + 1) slots) [ inl same ↦ rw same.0 (omega arith) | inr other ↦ rw other.0 (omega (arith, other.1, l)) ]

module _ {T : Type 0} (begins : T → Type 0) (follows : T → T → Type 0) (spots : List (RoomSpot T)) where
  pub probes : (p : Publishing T) (slot : ℕ) → p.how ≡ Probing slot → Allows (Holds begins follows spots) slots 0 (Publishes p, []) (suc (slot + slot)) (λ n. n) (λ found me. Probed p slot found me)
  probes p slot how s h size at bound =
      let st : State T = shown s in
      let found : ℕ = get_or s.words (suc (slot + slot)) 0 in
      let words : List ℕ = set s.words (suc (slot + slot)) found in
      let probing : st.publisher ≡ Probing slot = how_is s p at ∙ how in
      let l : slot < slots = subst (λ x. PublisherIs h.cell h.shows.plan st.granted x) probing h.shows.publisher_is in
      let there = slotted s h slot l in
      let shares = found_shares s slot there in
      let known = h.knows 0 (Publishes p) at in
      let counts = knows_publisher begins follows spots s h p at in
      elim (eqb_tells found free_word) [
        | inl free ↦ (
            let taken = take_keeps st h.cell slot there.there h.shows probing there.at (shares ∙ free.1) in
            let was = subst (λ x. SlotIs (with_publisher (Preparing slot) st) h.cell taken.plan slot x there.there) taken.publisher_is.1 (taken.table.slot_is slot there.there there.at) in
            let empty : version_at there.home ≡ None = home_version s slot there ∙ was.2 in
            let unfreed : (i : ℕ) → slice_get st.owners i ≡ Some (Fading slot) → ⊥ = λ i q.
            let charge = h.shows.owner_is i (Fading slot) q in
            let was_dead = subst (λ x. SlotIs st h.cell h.shows.plan slot x there.there) charge.3 (h.shows.table.slot_is slot there.there there.at) in
            omega (arith, was_dead.shares, shares, free.1) in
            let room = free_room spots h.name st slot slot there.home probing unfreed empty (h.homes slot there.home there.home_at) in
            let spot : RoomSpot T = room.2.0 in
            let new : Publishing T = record p { how = Preparing slot; spot = spot; found = without slot p.found } in
            let homes : List (maybe.Option (Room T)) = set s.homes slot none in
            let after : State T = shown (record { words = words; homes = homes; views = set s.views 0 (Publishes new) }) in
            let same : after ≡ with_publisher (Preparing slot) st =
            shown_publisher s words homes p new st.latest st.table at refl refl refl (first_kept s.words (slot + slot) found)
            (place_set s slot found none there ∙ ap (λ v. slice_set st.table slot (with_shares found (with_version v there.there))) (sym was.2) ∙ slots_kept s slot found there (sym shares)) in (
              Publishes new,
              takes slot room.0,
              there.home_at ∙ ap some room.1,
              publisher_step begins follows spots s h words homes p new (record {
                at = at;
                cell = h.cell;
                begun = ([], append-nil h.cell.published);
                history = h.history;
                shows = subst (λ x. Shows x h.cell) (sym same) taken;
                left = omega arith;
                readers = refl;
                guests = counts.guests;
                sunk = counts.sunk;
                gone = λ j u. u;
                fixed = λ w e. ((counts.fixed w e).0, first_kept s.words (slot + slot) found ∙ (counts.fixed w e).1);
                free = λ w k e q. absurd (let wrong : Preparing slot ≡ Probing k = q in cc);
                spare = all_taken s.words words s.homes homes slot (λ k apart free. free_away s.words s.homes (suc (slot + slot)) slot k apart free) p.found counts.spare;
                homes_are = λ place home e. ⊎_elim
                    (λ (t : (place ≡ slot) × (none ≡ home)). subst (λ x. HomeIs spots h.name after place x) t.1 (inl (ap (λ (x : State T). x.publisher) same ∙ ap Preparing (sym t.0))))
                    (λ (t : (place ≢ slot) × (get_elem? s.homes place ≡ some home)). home_stays spots h.name st after place home
                    (λ q. absurd (let wrong : Probing slot ≡ Preparing place = sym probing ∙ q in cc))
                    (λ i q. ap (λ (x : State T). slice_get x.owners i) same ∙ q)
                    (h.homes place home t.1))
                    (at_set s.homes slot place none home e);
                mine = (known.0, known.1, held_kept s.homes homes h.name h.cell.published h.cell.published p.share (no_share s.homes h.name slot there.home none (Publishes p) there.home_at empty).mark ([], append-nil h.cell.published) known.2, (room.2.1, absent_without slot p.found));
                others = λ j view other e. no_share s.homes h.name slot there.home none view there.home_at empty;
              }),
              when_equal found free_word _ _ free.1 (record { spot = spot; room = room.0; me_is = refl; lies = room.2.2; empty = room.3; whole = room.4 }),
            )
            )
        | inr other ↦ (
            let new : Publishing T = record p { how = Probing (beyond slot) } in
            let after : State T = shown (record { words = words; homes = s.homes; views = set s.views 0 (Publishes new) }) in
            let same : after ≡ with_publisher (Probing (beyond slot)) st =
            shown_publisher s words s.homes p new st.latest st.table at refl refl refl (first_kept s.words (slot + slot) found) (shares_set s slot found there ∙ slots_kept s slot found there (sym shares)) in (
              Publishes new,
              keeps,
              tt,
              publisher_step begins follows spots s h words s.homes p new (record {
                at = at;
                cell = h.cell;
                begun = ([], append-nil h.cell.published);
                history = h.history;
                shows = subst (λ x. Shows x h.cell) (sym same) (pass_keeps st h.cell slot (beyond slot) h.shows probing (beyond_within slot l));
                left = omega arith;
                readers = refl;
                guests = counts.guests;
                sunk = counts.sunk;
                gone = λ j u. u;
                fixed = λ w e. ((counts.fixed w e).0, first_kept s.words (slot + slot) found ∙ (counts.fixed w e).1);
                free = λ w k e q. frees_again s.words s.homes (suc (slot + slot)) (slot_of w) p.swept (counts.free w slot e how);
                spare = all_free s.words words s.homes s.homes (λ k free. free_again s.words s.homes (suc (slot + slot)) k free) p.found counts.spare;
                homes_are = λ place home e. home_stays spots h.name st after place home
                    (λ q. absurd (let wrong : Probing slot ≡ Preparing place = sym probing ∙ q in cc))
                    (λ i q. ap (λ (x : State T). slice_get x.owners i) same ∙ q)
                    (h.homes place home e);
                mine = (known.0, known.1, known.2, tt);
                others = λ j view ne e. unmoved s.homes h.name view;
              }),
              when_apart found free_word _ _ other.1 (refl, absent_busy s.words s.homes slot (λ free. other.1 free.shares) p.found counts.spare),
            )
            )
      ]
