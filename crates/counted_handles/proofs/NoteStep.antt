-- A note, and a weak owner's fade, keep the rule.
use Rattle.std.proofs.Common.{◌≡◌, refl, sym, ap, ◌∙◌, subst, ℕ, suc, ◌+◌, ◌-◌, ◌%◌, ◌^◌, ◌<◌, inl, inr, List, [], get_or, set, arith, Option, Some, None, append-nil}
use Rattle.std.specs.List.{slice_get, slice_set}
use Rattle.std.proofs.lemmas.Bool.Decides.{eqb_tells}
use mathlib.Core.Option.{some, some-injective}
use lib.ListN.{get_elem?}
use Rattle.atomic_table.specs.Table.{Allows, keeps}
use Rattle.cell_core.proofs.FrameLemmas.{seat_stays}
use Rattle.cell_core.proofs.FadeKeeps.{Outcome, weak_fade_keeps}
use Rattle.cell_core.proofs.RaiseKeeps.{note_keeps}
use Rattle.cell_core.proofs.WeakShows.{holding_sees, fade_counts, fade_less}
use Rattle.cell_core.specs.Cell.{with_weak, without_weak}
use Rattle.cell_core.specs.Words.{State, slots, grants, notes, fetch_add, fetch_sub}
use Rattle.cell_core.specs.WordSteps.{with_owner, with_note, with_slot, with_weak_word}
use Rattle.cell_core.specs.Shows.{Shows}
use Rattle.cell_core.specs.Shows.Phase.{live}
use Rattle.cell_core.specs.declared.words.Version.{Version}
use Rattle.cell_core.specs.declared.words.Owner.TheVariants.{Holding, Weakly, Both, Fading}
use Rattle.counted_handles.specs.declared.view.Mark.{Mark}
use Rattle.counted_handles.specs.declared.view.Tie.{Tie}
use Rattle.counted_handles.specs.declared.view.Hold.{Hold}
use Rattle.counted_handles.specs.declared.view.Hold.TheVariants.{Once, Mixed}
use Rattle.counted_handles.specs.declared.view.Publishing.{Publishing}
use Rattle.counted_handles.specs.declared.view.View.{View}
use Rattle.counted_handles.specs.declared.view.View.TheVariants.{Publishes, HasWeakly, Resets, Gone}
use Rattle.counted_handles.specs.Shown.{Room, Board, held_by, owner_of, left_of, read_of, lefts, shown}
use Rattle.counted_handles.specs.Ruled.{RoomSpot, MarkIs, HeldIs, Knows, Holds, version_of}
use Rattle.counted_handles.specs.Tells.{tie_of, Noted, Faded}
use Rattle.counted_handles.proofs.Lists.{got_map, got_within, map_set, sum_set, one_there}
use Rattle.counted_handles.proofs.Slots.{first_kept}
use Rattle.counted_handles.proofs.Owners.{joint_noted, taken_up}
use Rattle.counted_handles.proofs.FreeSlots.{free_beside, frees_beside, all_free}
use Rattle.counted_handles.proofs.Frames.{unmoved, home_stays, publisher_here, noted_here, noted_is, not_first, state_is, seat_step, publisher_step, knows_publisher}
use Rattle.counted_handles.proofs.Live.{slotted, live_room}
use Rattle.counted_handles.proofs.WordSteps.{found_weak, weak_shares_set, shown_weak}
use Rattle.counted_handles.proofs.PublisherWords.{how_is, first_owner}
use Rattle.counted_handles.proofs.Ties.{last_untied}

-- the value of a version, if there is one
abbrev value_or : {T : Type 0} → T → Option (Version T) → T
value_or other None = other
value_or other (Some version) = version.value

module _ {T : Type 0} (begins : T → Type 0) (follows : T → T → Type 0) (spots : List (RoomSpot T)) where
  -- a share's value is the one that was published with its number
  mark_published : (s : Board T) (h : Holds begins follows spots s) (mark : Mark T) → MarkIs s.homes h.name mark → mark.slot < slots → h.shows.plan.phase mark.slot ≡ live mark.number → slice_get h.cell.published mark.number ≡ Some mark.value
  mark_published s h mark is l phase =
      let lies = live_room spots s h mark.number mark.slot l phase in
      let rooms : lies.room ≡ is.room = some-injective lies.room is.room (one_there s.homes mark.slot (some lies.room) (some is.room) lies.home is.home) in
      let versions : Some (record { number = mark.number; value = lies.value }) ≡ Some (version_of mark) = sym lies.version ∙ ap (λ (x : Room T). x.value) rooms ∙ is.version in
      lies.published_is ∙ ap Some (ap (value_or lies.value) versions)

  pub notes_one : (p : Publishing T) (mark : Mark T) → p.share ≡ Some (Once mark) → p.noted < notes → Allows (Holds begins follows spots) slots 0 (Publishes p, []) (suc (suc (mark.slot + mark.slot))) (λ n. (n + 1) % 2 ^ 64) (λ found me. Noted p mark me)
  notes_one p mark share few s h size at bound =
      let st : State T = shown s in
      let number : ℕ = mark.number in
      let place : ℕ = mark.slot in
      let word : ℕ = fetch_add (get_or s.words (suc (suc (place + place))) 0) 1 in
      let words : List ℕ = set s.words (suc (suc (place + place))) word in
      let new : Publishing T = record p { share = Some (Mixed mark (tie_of mark)); noted = p.noted + 1; fixed = None } in
      let known = h.knows 0 (Publishes p) at in
      let counts = knows_publisher begins follows spots s h p at in
      let is : MarkIs s.homes h.name mark = subst (HeldIs s.homes h.name h.cell.published) share known.2 in
      let l : place < slots = (let w = got_within s.homes place _ is.home in omega (arith, w, size)) in
      let there = slotted s h place l in
      let seat : slice_get st.owners 0 ≡ Some (Holding number place) = first_owner s p at ∙ ap (λ (x : Option (Hold T)). Some (held_by x)) share in
      let sees = holding_sees st h.cell h.shows 0 number place there.there seat there.at in
      let noted : st.noted ≡ p.noted = noted_is s.views (Publishes p) at in
      let kept = note_keeps st h.cell number place there.there h.shows there.at sees.phase (omega (arith, noted, few)) in
      let more : State T = with_note (with_slot place (with_weak_word (fetch_add there.there.weak 1) there.there) st) in
      let shows = taken_up more (with_weak number h.cell) 0 (Holding number place) (Weakly number place) (Both number place) seat (record { unburying = λ slot e. cc; uncharged = refl }) (record { unburying = λ slot e. cc; uncharged = refl }) (joint_noted number place) (λ plan k was also. (was, also)) kept in
      let sums = sum_set left_of s.views 0 (Publishes p) (Publishes new) at in
      let after : State T = shown (record { words = words; homes = s.homes; views = set s.views 0 (Publishes new) }) in
      let same : after ≡ with_owner 0 (Both number place) more = state_is _ _
      (first_kept s.words (suc (place + place)) word)
      (weak_shares_set s place word there ∙ ap (λ n. slice_set st.table place (with_weak_word (fetch_add n 1) there.there)) (sym (found_weak s place there)))
      (publisher_here s.views (Publishes p) (Publishes new) at ∙ sym (how_is s p at))
      (map_set owner_of s.views 0 (Publishes new))
      (ap (λ k. grants - k) (let e : lefts (set s.views 0 (Publishes new)) ≡ lefts s.views = omega (arith, sums) in e))
      (noted_here s.views (Publishes p) (Publishes new) at ∙ ap (λ n. n + 1) (sym noted)) in (
        Publishes new,
        keeps,
        tt,
        publisher_step begins follows spots s h words s.homes p new (record {
          at = at;
          cell = with_weak number h.cell;
          begun = ([], append-nil h.cell.published);
          history = h.history;
          shows = subst (λ x. Shows x (with_weak number h.cell)) (sym same) shows;
          left = omega arith;
          readers = refl;
          guests = counts.guests;
          sunk = counts.sunk;
          gone = λ j u. u;
          fixed = λ w e. absurd (let wrong = e in cc);
          free = λ w k e q. absurd (let wrong = e in cc);
          spare = all_free s.words words s.homes s.homes (λ k free. free_beside s.words s.homes place word k free) p.found counts.spare;
          homes_are = λ slot home e. home_stays spots h.name st after slot home
              (λ q. ap (λ (x : State T). x.publisher) same ∙ q)
              (λ i q. ap (λ (x : State T). slice_get x.owners i) same ∙ seat_stays st.owners 0 (Holding number place) (Both number place) (Fading slot) seat (λ e. cc) i q)
              (h.homes slot home e);
          mine = (known.0, known.1, (is, (is.name_is, mark_published s h mark is l sees.phase), (refl, refl)), known.3);
          others = λ j view other e. unmoved s.homes h.name view;
        }),
        refl,
      )

  -- a weak owner has faded, and goes on as K asks
  gone_on : (s : Board T) (h : Holds begins follows spots s) (id : ℕ) (tie : Tie T) (new : View T) → get_elem? s.views id ≡ some (HasWeakly tie) → ((p : Publishing T) → new ≡ Publishes p → ⊥) → left_of new ≡ 0 → read_of new ≡ 0 → Knows spots h.name (without_weak tie.number h.cell) s.homes new
      → Outcome tie.slot (fetch_sub (get_or s.words (suc (suc (tie.slot + tie.slot))) 0) 1) (owner_of new)
      → Holds begins follows spots (record { words = set s.words (suc (suc (tie.slot + tie.slot))) (fetch_sub (get_or s.words (suc (suc (tie.slot + tie.slot))) 0) 1); homes = s.homes; views = set s.views id new })
  gone_on s h id tie new at not_publishes no_left no_read knows out =
      let st : State T = shown s in
      let number : ℕ = tie.number in
      let place : ℕ = tie.slot in
      let word : ℕ = fetch_sub (get_or s.words (suc (suc (place + place))) 0) 1 in
      let words : List ℕ = set s.words (suc (suc (place + place))) word in
      let first = not_first s h id (HasWeakly tie) at (λ p e. cc) in
      let seat : slice_get st.owners id ≡ Some (Weakly number place) = got_map owner_of s.views id (HasWeakly tie) at in
      let of = h.shows.owner_is id (Weakly number place) seat in
      let there = slotted s h place of.0 in
      let less : word + 1 ≡ there.there.weak = ap (λ k. fetch_sub k 1 + 1) (sym (found_weak s place there)) ∙ fade_less st h.cell h.shows id place there.there (inl (number, seat)) there.at in
      let shows = weak_fade_keeps st h.cell id number place word (owner_of new) there.there h.shows seat there.at less out in
      let after : State T = shown (record { words = words; homes = s.homes; views = set s.views id new }) in
      let same : after ≡ with_owner id (owner_of new) (with_slot place (with_weak_word word there.there) st) = shown_weak s place word there id (HasWeakly tie) new at first no_left in
      seat_step begins follows spots s h words s.homes id (HasWeakly tie) new (record {
        at = at;
        was_none = λ p e. cc;
        is_none = not_publishes;
        cell = without_weak number h.cell;
        published = refl;
        gone = λ j u. u;
        shows = subst (λ x. Shows x (without_weak number h.cell)) (sym same) shows;
        left = omega (arith, no_left);
        read = no_read;
        fixed = λ p here counts w e. first_kept s.words (suc (place + place)) word ∙ (counts.fixed w e).1;
        free = λ last swept is are. frees_beside s.words s.homes place word last swept (λ one here. last_untied begins follows spots s h last id number place is one seat here) are;
        spare = λ k free. free_beside s.words s.homes place word k free;
        homes_are = λ slot home e. home_stays spots h.name st after slot home
            (λ p. ap (λ (x : State T). x.publisher) same ∙ p)
            (λ i q. ap (λ (x : State T). slice_get x.owners i) same ∙ seat_stays st.owners id (Weakly number place) (owner_of new) (Fading slot) seat (λ e. cc) i q)
            (h.homes slot home e);
        mine = knows;
        others = λ j view other e. unmoved s.homes h.name view;
      })

  -- K counts a weak owner
  fade_found : (s : Board T) (h : Holds begins follows spots s) (id : ℕ) (tie : Tie T) → get_elem? s.views id ≡ some (HasWeakly tie) → (0 < get_or s.words (suc (suc (tie.slot + tie.slot))) 0) × (fetch_sub (get_or s.words (suc (suc (tie.slot + tie.slot))) 0) 1 + 1 ≡ get_or s.words (suc (suc (tie.slot + tie.slot))) 0)
  fade_found s h id tie at =
      let st : State T = shown s in
      let place : ℕ = tie.slot in
      let seat : slice_get st.owners id ≡ Some (Weakly tie.number place) = got_map owner_of s.views id (HasWeakly tie) at in
      let of = h.shows.owner_is id (Weakly tie.number place) seat in
      let there = slotted s h place of.0 in
      let found = found_weak s place there in
      let counts = fade_counts st h.cell h.shows id place there.there (inl (tie.number, seat)) there.at in
      (omega (arith, counts.0, found), ap (λ k. fetch_sub k 1 + 1) (sym found) ∙ fade_less st h.cell h.shows id place there.there (inl (tie.number, seat)) there.at ∙ found)

  pub lapses : (id : ℕ) (tie : Tie T) → Allows (Holds begins follows spots) slots id (HasWeakly tie, []) (suc (suc (tie.slot + tie.slot))) (λ n. (n + (2 ^ 64 - 1)) % 2 ^ 64) (λ found me. Faded tie.slot found me)
  lapses id tie s h size at bound =
      let found : ℕ = get_or s.words (suc (suc (tie.slot + tie.slot))) 0 in
      let counts = fade_found s h id tie at in
      elim (eqb_tells found 1) [
        | inl one ↦ (
          Resets tie.slot,
          keeps,
          tt,
          gone_on s h id tie (Resets tie.slot) at (λ p e. cc) refl refl tt (inl (omega (arith, counts.1, one.1), refl)),
          (counts.0, rw one.0 refl),
        )
        | inr other ↦ (
          Gone,
          keeps,
          tt,
          gone_on s h id tie Gone at (λ p e. cc) refl refl tt (inr (omega (arith, counts.0, counts.1, other.1), refl)),
          (counts.0, rw other.0 refl),
        )
      ]
