-- A load keeps the rule.
use Rattle.std.proofs.Common.{◌≡◌, refl, sym, ap, ◌∙◌, subst, ℕ, ◌+◌, ◌-◌, ◌%◌, ◌^◌, ◌<◌, List, [], get_or, set, arith, Some, None, append-nil}
use Rattle.std.specs.List.{slice_get}
use Rattle.atomic_table.specs.Table.{Allows, keeps}
use Rattle.cell_core.proofs.ShowsLemmas.{last_lies, latest_slot}
use Rattle.cell_core.proofs.LoadKeeps.{load_keeps}
use Rattle.cell_core.specs.Cell.{with_strong}
use Rattle.cell_core.specs.Shows.{Shows}
use Rattle.cell_core.specs.Words.{State, slots, fetch_add}
use Rattle.cell_core.specs.WordSteps.{with_owner}
use Rattle.cell_core.specs.declared.words.Owner.TheVariants.{Holding, Fading, Spent}
use Rattle.cell_core.proofs.FrameLemmas.{seat_stays}
use Rattle.counted_handles.specs.declared.view.Mark.{Mark}
use Rattle.counted_handles.specs.declared.view.Reading.{Reading}
use Rattle.counted_handles.specs.declared.view.View.{View}
use Rattle.counted_handles.specs.declared.view.View.TheVariants.{Reads}
use Rattle.counted_handles.specs.Shown.{holder, owner_of, left_of, read_of, slots_in, shown}
use Rattle.counted_handles.specs.Ruled.{RoomSpot, Holds}
use Rattle.counted_handles.specs.Tells.{Loaded}
use Rattle.counted_handles.proofs.Lists.{got_map, map_set, sum_set, sum_has}
use Rattle.counted_handles.proofs.Slots.{behind_first, first_set}
use Rattle.counted_handles.proofs.Owners.{seated}
use Rattle.counted_handles.proofs.FreeSlots.{free_behind, frees_behind}
use Rattle.counted_handles.proofs.Frames.{unmoved, home_stays, publisher_else, noted_else, not_first, state_is, seat_step}
use Rattle.counted_handles.proofs.Live.{slotted, last_room, live_mark, live_mark_is}

module _ {T : Type 0} (begins : T → Type 0) (follows : T → T → Type 0) (spots : List (RoomSpot T)) where
  pub loads : (id : ℕ) (r : Reading T) → r.share ≡ None → 0 < r.left → Allows (Holds begins follows spots) slots id (Reads r, []) 0 (λ n. (n + 1) % 2 ^ 64) (λ found me. Loaded begins follows r found me)
  loads id r whole some_left s h size at bound =
      let st : State T = shown s in
      let plan = h.shows.plan in
      let lies = last_lies st h.cell h.shows in
      let last : ℕ = plan.last in
      let slot : ℕ = plan.slot plan.last in
      let room = last_room spots s h in
      let mark : Mark T = live_mark room in
      let new : View T = Reads (record r { seen = h.cell.published; share = Some mark; left = r.left - 1 }) in
      let word : ℕ = (get_or s.words 0 0 + 1) % 2 ^ 64 in
      let known = h.knows id (Reads r) at in
      let first = not_first s h id (Reads r) at (λ p e. cc) in
      let mine = sum_has left_of s.views id (Reads r) at in
      let sums = sum_set left_of s.views id (Reads r) new at in
      let spent : slice_get st.owners id ≡ Some Spent = got_map owner_of s.views id (Reads r) at ∙ ap (λ x. Some (holder x)) whole in
      let more : State T = record st { latest = fetch_add st.latest 1; granted = st.granted + 1 } in
      let kept = load_keeps st h.cell h.shows (omega (arith, mine.1, h.few, some_left)) in
      let shows = seated more (with_strong last h.cell) id last slot spent kept in
      let there = slotted s h slot lies.0 in
      let after : State T = shown (record { words = set s.words 0 word; homes = s.homes; views = set s.views id new }) in
      let same : after ≡ with_owner id (Holding last slot) more = state_is _ _
      (first_set s.words s.homes slot word there.there there.at)
      (ap (λ w. slots_in w s.homes) (behind_first s.words word))
      (publisher_else s.views id new first)
      (map_set owner_of s.views id new)
      (omega (arith, sums, mine.1, h.few, some_left))
      (noted_else s.views id new first) in (
        new,
        keeps,
        tt,
        seat_step begins follows spots s h (set s.words 0 word) s.homes id (Reads r) new (record {
          at = at;
          was_none = λ p e. cc;
          is_none = λ p e. cc;
          cell = with_strong last h.cell;
          published = refl;
          gone = λ j u. u;
          shows = subst (λ x. Shows x (with_strong last h.cell)) (sym same) shows;
          left = omega arith;
          read = refl;
          free = λ last swept is are. frees_behind s.words s.homes word last swept are;
          spare = λ place is. free_behind s.words s.homes word place is;
          fixed = λ p here counts w e. let some_reader = sum_has read_of s.views id (Reads r) at in absurd (omega (arith, counts.readers, (counts.fixed w e).0, some_reader.1));
          homes_are = λ place home e. home_stays spots h.name st after place home
              (λ p. ap (λ (x : State T). x.publisher) same ∙ p)
              (λ i q. ap (λ (x : State T). slice_get x.owners i) same ∙ seat_stays st.owners id Spent (Holding last slot) (Fading place) spent (λ e. cc) i q)
              (h.homes place home e);
          mine = (known.0, ([], append-nil h.cell.published), live_mark_is room, known.3);
          others = λ j view other e. unmoved s.homes h.name view;
        }),
        (
          h.cell.published,
          mark,
          refl,
          known.1,
          record {
            history = h.history;
            last = h.shows.numbers.last;
            value = room.published_is;
            slot = sym (latest_slot st h.cell h.shows);
            within = lies.0;
            name_is = sym known.0;
          },
        ),
      )
