-- A settle keeps the rule.
use Rattle.std.proofs.Common.{◌≡◌, refl, sym, ap, ◌∙◌, subst, ℕ, suc, ◌+◌, ◌-◌, ◌%◌, ◌^◌, ◌<◌, List, [], get_or, set, arith, Some, None, append-nil}
use Rattle.std.specs.List.{slice_get, slice_set}
use Rattle.atomic_table.specs.Table.{Allows, keeps}
use Rattle.cell_core.proofs.LoadKeeps.{settle_keeps}
use Rattle.cell_core.proofs.FrameLemmas.{seat_stays}
use Rattle.cell_core.specs.Words.{State, slots, grants, bulk, fetch_sub}
use Rattle.cell_core.specs.WordSteps.{with_publisher, with_owner, with_slot, with_shares}
use Rattle.cell_core.specs.Shows.{Shows, PublisherIs}
use Rattle.cell_core.specs.declared.words.Publisher.TheVariants.{Probing, Preparing, Settling}
use Rattle.cell_core.specs.declared.words.Owner.TheVariants.{Holding, Fading, Spent}
use Rattle.counted_handles.specs.declared.view.Mark.{Mark}
use Rattle.counted_handles.specs.declared.view.Publishing.{Publishing}
use Rattle.counted_handles.specs.declared.view.Hold.TheVariants.{Once}
use Rattle.counted_handles.specs.declared.view.View.TheVariants.{Publishes}
use Rattle.counted_handles.specs.Shown.{held_by, owner_of, left_of, lefts, shown}
use Rattle.counted_handles.specs.Ruled.{RoomSpot, Holds}
use Rattle.counted_handles.specs.Tells.{IsSettled}
use Rattle.counted_handles.proofs.Lists.{map_set, sum_set}
use Rattle.counted_handles.proofs.Slots.{first_kept}
use Rattle.counted_handles.proofs.Owners.{seated}
use Rattle.counted_handles.proofs.Frames.{unmoved, home_stays, publisher_step, publisher_here, noted_here, noted_is, knows_publisher, state_is}
use Rattle.counted_handles.proofs.FreeSlots.{free_stay, all_free, not_free}
use Rattle.counted_handles.proofs.Live.{slotted, live_room, live_mark, live_mark_is}
use Rattle.counted_handles.proofs.WordSteps.{found_shares, shares_set}
use Rattle.counted_handles.proofs.PublisherWords.{how_is, first_owner}

module _ {T : Type 0} (begins : T → Type 0) (follows : T → T → Type 0) (spots : List (RoomSpot T)) where
  pub settles : (p : Publishing T) (number slot given : ℕ) → p.how ≡ Settling number slot given → p.share ≡ None → p.fixed ≡ None → Allows (Holds begins follows spots) slots 0 (Publishes p, []) (suc (slot + slot)) (λ n. (n + (2 ^ 64 - (bulk - given - 1))) % 2 ^ 64) (λ found me. IsSettled p number slot me)
  settles p number slot given how whole unfixed s h size at bound =
      let st : State T = shown s in
      let plan = h.shows.plan in
      let found : ℕ = get_or s.words (suc (slot + slot)) 0 in
      let word : ℕ = fetch_sub found (bulk - given - 1) in
      let words : List ℕ = set s.words (suc (slot + slot)) word in
      let settling : st.publisher ≡ Settling number slot given = how_is s p at ∙ how in
      let its = subst (λ x. PublisherIs h.cell plan st.granted x) settling h.shows.publisher_is in
      let lies = h.shows.numbers.lies number (omega (arith, its.1)) its.0.unburied in
      let l : slot < slots = subst (λ k. k < slots) its.0.here lies.0 in
      let room = live_room spots s h number slot l (ap plan.phase (sym its.0.here) ∙ lies.1) in
      let mark : Mark T = live_mark room in
      let new : Publishing T = record p { how = Probing 0; share = Some (Once mark) } in
      let there = slotted s h slot l in
      let shares = found_shares s slot there in
      let known = h.knows 0 (Publishes p) at in
      let counts = knows_publisher begins follows spots s h p at in
      let spent : slice_get st.owners 0 ≡ Some Spent = first_owner s p at ∙ ap (λ x. Some (held_by x)) whole in
      let kept = settle_keeps st h.cell number slot given there.there h.shows settling there.at in
      let more : State T = with_publisher (Probing 0) (with_slot slot (with_shares (fetch_sub there.there.shares (bulk - given - 1)) there.there) st) in
      let shows = seated more h.cell 0 number slot spent kept in
      let sums = sum_set left_of s.views 0 (Publishes p) (Publishes new) at in
      let after : State T = shown (record { words = words; homes = s.homes; views = set s.views 0 (Publishes new) }) in
      let same : after ≡ with_owner 0 (Holding number slot) more = state_is _ _
      (first_kept s.words (slot + slot) word)
      (shares_set s slot word there ∙ ap (λ n. slice_set st.table slot (with_shares (fetch_sub n (bulk - given - 1)) there.there)) (sym shares))
      (publisher_here s.views (Publishes p) (Publishes new) at)
      (map_set owner_of s.views 0 (Publishes new))
      (ap (λ k. grants - k) (let e : lefts (set s.views 0 (Publishes new)) ≡ lefts s.views = omega (arith, sums) in e))
      (noted_here s.views (Publishes p) (Publishes new) at ∙ sym (noted_is s.views (Publishes p) at)) in (
        Publishes new,
        keeps,
        tt,
        publisher_step begins follows spots s h words s.homes p new (record {
          at = at;
          cell = h.cell;
          begun = ([], append-nil h.cell.published);
          history = h.history;
          shows = subst (λ x. Shows x h.cell) (sym same) shows;
          left = omega arith;
          readers = refl;
          guests = counts.guests;
          sunk = counts.sunk;
          gone = λ j u. u;
          fixed = λ w e. absurd (let wrong = sym unfixed ∙ e in cc);
          free = λ w k e q. absurd (let wrong = sym unfixed ∙ e in cc);
          spare = all_free s.words words s.homes s.homes (λ k free. free_stay s.words s.homes slot word k (λ busy. not_free s.words s.homes h.name mark (live_mark_is room) busy) free) p.found counts.spare;
          homes_are = λ place home e. home_stays spots h.name st after place home
              (λ q. absurd (let wrong : Settling number slot given ≡ Preparing place = sym settling ∙ q in cc))
              (λ i q. ap (λ (x : State T). slice_get x.owners i) same ∙ seat_stays st.owners 0 Spent (Holding number slot) (Fading place) spent (λ e. cc) i q)
              (h.homes place home e);
          mine = (known.0, known.1, live_mark_is room, tt);
          others = λ j view other e. unmoved s.homes h.name view;
        }),
        record {
          mark = mark;
          me_is = refl;
          number_is = refl;
          slot_is = refl;
          within = l;
          value = ap (λ x. slice_get x number) known.1 ∙ room.published_is;
          name_is = sym known.0;
        },
      )
