-- A load by the publisher keeps the rule, and so do its looks at W.
use Rattle.std.proofs.Common.{◌≡◌, refl, sym, ap, ◌∙◌, subst, false, ℕ, ◌+◌, ◌-◌, ◌%◌, ◌^◌, ◌<◌, List, [], length, get_or, set, arith, Some, None, append-nil}
use Rattle.std.specs.List.{slice_get}
use Rattle.atomic_table.specs.Table.{Allows, keeps}
use Rattle.cell_core.proofs.ShowsLemmas.{last_lies, latest_slot}
use Rattle.cell_core.proofs.LoadKeeps.{load_keeps}
use Rattle.cell_core.proofs.FrameLemmas.{seat_stays}
use Rattle.cell_core.specs.Cell.{with_strong}
use Rattle.cell_core.specs.Shows.{Shows}
use Rattle.cell_core.specs.Words.{State, slots, fetch_add}
use Rattle.cell_core.specs.WordSteps.{with_owner}
use Rattle.cell_core.specs.declared.words.Owner.TheVariants.{Holding, Fading, Spent}
use Rattle.counted_handles.specs.declared.view.Mark.{Mark}
use Rattle.counted_handles.specs.declared.view.Publishing.{Publishing}
use Rattle.counted_handles.specs.declared.view.Hold.TheVariants.{Once}
use Rattle.counted_handles.specs.declared.view.View.TheVariants.{Publishes}
use Rattle.counted_handles.specs.Shown.{held_by, owner_of, left_of, slots_in, shown}
use Rattle.counted_handles.specs.Ruled.{RoomSpot, Holds}
use Rattle.counted_handles.specs.Tells.{Newest, Looked, Greeted}
use Rattle.counted_handles.specs.History.{IsHistory}
use Rattle.counted_handles.proofs.Lists.{map_set, sum_set, sum_has}
use Rattle.counted_handles.proofs.Slots.{behind_first, first_set}
use Rattle.counted_handles.proofs.Owners.{seated}
use Rattle.counted_handles.proofs.Frames.{unmoved, home_stays, publisher_step, knows_publisher, publisher_here, noted_here, noted_is, state_is}
use Rattle.counted_handles.proofs.FreeSlots.{free_behind, all_free}
use Rattle.counted_handles.proofs.Live.{slotted, last_room, live_mark, live_mark_is}
use Rattle.counted_handles.proofs.PublisherWords.{how_is, first_owner, shown_publisher}

module _ {T : Type 0} (begins : T → Type 0) (follows : T → T → Type 0) (spots : List (RoomSpot T)) where
  pub newests : (p : Publishing T) → p.share ≡ None → 0 < p.left → Allows (Holds begins follows spots) slots 0 (Publishes p, []) 0 (λ n. (n + 1) % 2 ^ 64) (λ found me. Newest begins follows p found me)
  newests p whole some_left s h size at bound =
      let st : State T = shown s in
      let plan = h.shows.plan in
      let lies = last_lies st h.cell h.shows in
      let last : ℕ = plan.last in
      let slot : ℕ = plan.slot plan.last in
      let room = last_room spots s h in
      let mark : Mark T = live_mark room in
      let new : Publishing T = record p { share = Some (Once mark); left = p.left - 1; fixed = None } in
      let word : ℕ = (get_or s.words 0 0 + 1) % 2 ^ 64 in
      let known = h.knows 0 (Publishes p) at in
      let mine = sum_has left_of s.views 0 (Publishes p) at in
      let sums = sum_set left_of s.views 0 (Publishes p) (Publishes new) at in
      let spent : slice_get st.owners 0 ≡ Some Spent = first_owner s p at ∙ ap (λ x. Some (held_by x)) whole in
      let more : State T = record st { latest = fetch_add st.latest 1; granted = st.granted + 1 } in
      let kept = load_keeps st h.cell h.shows (omega (arith, mine.1, h.few, some_left)) in
      let shows = seated more (with_strong last h.cell) 0 last slot spent kept in
      let there = slotted s h slot lies.0 in
      let after : State T = shown (record { words = set s.words 0 word; homes = s.homes; views = set s.views 0 (Publishes new) }) in
      let same : after ≡ with_owner 0 (Holding last slot) more = state_is _ _
      (first_set s.words s.homes slot word there.there there.at)
      (ap (λ w. slots_in w s.homes) (behind_first s.words word))
      (publisher_here s.views (Publishes p) (Publishes new) at ∙ sym (how_is s p at))
      (map_set owner_of s.views 0 (Publishes new))
      (omega (arith, sums, mine.1, h.few, some_left))
      (noted_here s.views (Publishes p) (Publishes new) at ∙ sym (noted_is s.views (Publishes p) at)) in (
        Publishes new,
        keeps,
        tt,
        publisher_step begins follows spots s h (set s.words 0 word) s.homes p new (record {
          at = at;
          cell = with_strong last h.cell;
          begun = ([], append-nil h.cell.published);
          history = h.history;
          shows = subst (λ x. Shows x (with_strong last h.cell)) (sym same) shows;
          left = omega arith;
          readers = refl;
          guests = (knows_publisher begins follows spots s h p at).guests;
          sunk = (knows_publisher begins follows spots s h p at).sunk;
          gone = λ j u. u;
          fixed = λ w e. absurd (let wrong = e in cc);
          free = λ w k e q. absurd (let wrong = e in cc);
          spare = all_free s.words (set s.words 0 word) s.homes s.homes (λ k free. free_behind s.words s.homes word k free) p.found (knows_publisher begins follows spots s h p at).spare;
          homes_are = λ place home e. home_stays spots h.name st after place home
              (λ q. ap (λ (x : State T). x.publisher) same ∙ q)
              (λ i q. ap (λ (x : State T). slice_get x.owners i) same ∙ seat_stays st.owners 0 Spent (Holding last slot) (Fading place) spent (λ e. cc) i q)
              (h.homes place home e);
          mine = (known.0, known.1, live_mark_is room, known.3);
          others = λ j view other e. unmoved s.homes h.name view;
        }),
        (
          mark,
          refl,
          record {
            history = subst (IsHistory begins follows) (sym known.1) h.history;
            last = ap length known.1 ∙ h.shows.numbers.last;
            value = ap (λ x. slice_get x last) known.1 ∙ room.published_is;
            slot = sym (latest_slot st h.cell h.shows);
            within = lies.0;
            name_is = sym known.0;
          },
          (knows_publisher begins follows spots s h p at).guests,
        ),
      )

  pub looks : (p : Publishing T) → p.readers ≡ 0 → Allows (Holds begins follows spots) slots 0 (Publishes p, []) 0 (λ n. n) (λ found me. Looked p found me)
  looks p alone s h size at bound =
      let st : State T = shown s in
      let found : ℕ = get_or s.words 0 0 in
      let words : List ℕ = set s.words 0 found in
      let new : Publishing T = record p { fixed = Some found; swept = 0; busy = false } in
      let known = h.knows 0 (Publishes p) at in
      let lies = last_lies st h.cell h.shows in
      let there = slotted s h (h.shows.plan.slot h.shows.plan.last) lies.0 in
      let first = first_set s.words s.homes (h.shows.plan.slot h.shows.plan.last) found there.there there.at in
      let after : State T = shown (record { words = words; homes = s.homes; views = set s.views 0 (Publishes new) }) in
      let same : after ≡ st = shown_publisher s words s.homes p new st.latest st.table at refl refl refl first (ap (λ w. slots_in w s.homes) (behind_first s.words found))
      ∙ ap (λ x. record st { publisher = x }) (sym (how_is s p at)) in (
        Publishes new,
        keeps,
        tt,
        publisher_step begins follows spots s h words s.homes p new (record {
          at = at;
          cell = h.cell;
          begun = ([], append-nil h.cell.published);
          history = h.history;
          shows = subst (λ x. Shows x h.cell) (sym same) h.shows;
          left = omega arith;
          readers = refl;
          guests = (knows_publisher begins follows spots s h p at).guests;
          sunk = (knows_publisher begins follows spots s h p at).sunk;
          gone = λ j u. u;
          fixed = λ w e. (alone, first ∙ (let f : found ≡ w = cc in f));
          free = λ w k e q. (λ slot l apart. absurd (omega (arith, l)), λ l. absurd (omega (arith, l)));
          spare = all_free s.words words s.homes s.homes (λ k free. free_behind s.words s.homes found k free) p.found (knows_publisher begins follows spots s h p at).spare;
          homes_are = λ place home e. home_stays spots h.name st after place home
              (λ q. ap (λ (x : State T). x.publisher) same ∙ q)
              (λ i q. ap (λ (x : State T). slice_get x.owners i) same ∙ q)
              (h.homes place home e);
          mine = (known.0, known.1, known.2, known.3);
          others = λ j view other e. unmoved s.homes h.name view;
        }),
        (subst (λ k. k < slots) (sym (latest_slot st h.cell h.shows)) lies.0, refl),
      )

  pub greets : (p : Publishing T) → Allows (Holds begins follows spots) slots 0 (Publishes p, []) 0 (λ n. n) (λ found me. Greeted p me)
  greets p s h size at bound =
      let st : State T = shown s in
      let found : ℕ = get_or s.words 0 0 in
      let words : List ℕ = set s.words 0 found in
      let new : Publishing T = record p { fixed = None } in
      let known = h.knows 0 (Publishes p) at in
      let counts = knows_publisher begins follows spots s h p at in
      let lies = last_lies st h.cell h.shows in
      let there = slotted s h (h.shows.plan.slot h.shows.plan.last) lies.0 in
      let first = first_set s.words s.homes (h.shows.plan.slot h.shows.plan.last) found there.there there.at in
      let after : State T = shown (record { words = words; homes = s.homes; views = set s.views 0 (Publishes new) }) in
      let same : after ≡ st = shown_publisher s words s.homes p new st.latest st.table at refl refl refl first (ap (λ w. slots_in w s.homes) (behind_first s.words found))
      ∙ ap (λ x. record st { publisher = x }) (sym (how_is s p at)) in (
        Publishes new,
        keeps,
        tt,
        publisher_step begins follows spots s h words s.homes p new (record {
          at = at;
          cell = h.cell;
          begun = ([], append-nil h.cell.published);
          history = h.history;
          shows = subst (λ x. Shows x h.cell) (sym same) h.shows;
          left = omega arith;
          readers = refl;
          guests = counts.guests;
          sunk = counts.sunk;
          gone = λ j u. u;
          fixed = λ w e. absurd (let wrong = e in cc);
          free = λ w k e q. absurd (let wrong = e in cc);
          spare = all_free s.words words s.homes s.homes (λ k free. free_behind s.words s.homes found k free) p.found counts.spare;
          homes_are = λ place home e. home_stays spots h.name st after place home
              (λ q. ap (λ (x : State T). x.publisher) same ∙ q)
              (λ i q. ap (λ (x : State T). slice_get x.owners i) same ∙ q)
              (h.homes place home e);
          mine = (known.0, known.1, known.2, known.3);
          others = λ j view other e. unmoved s.homes h.name view;
        }),
        (refl, counts.guests),
      )
