-- What a reader that has taken an owner in sees and gains keeps the rule.
use Rattle.std.proofs.Common.{◌≡◌, ◌≢◌, refl, sym, ap, ◌∙◌, subst, ℕ, zero, suc, ◌+◌, ◌-◌, ◌%◌, ◌^◌, ◌<◌, inl, inr, Bool, true, false, true≢false, List, [], ◌∷◌, get_or, set, arith, Some}
use Rattle.std.specs.Prelude.{Contains}
use Rattle.std.specs.List.{slice_get, slice_set}
use Rattle.std.proofs.lemmas.List.{set-get_or}
use mathlib.Core.Option.{some}
use lib.ListN.{get_elem?}
use Rattle.atomic_table.specs.Table.{Allows, keeps}
use Rattle.cell_core.proofs.SeatLemmas.{set_there}
use Rattle.cell_core.proofs.FrameLemmas.{seat_stays}
use Rattle.cell_core.proofs.RaiseKeeps.{raise_keeps, late_keeps}
use Rattle.cell_core.proofs.WeakShows.{weak_sees, holding_sees}
use Rattle.cell_core.proofs.WeakLemmas.{keeps_slot}
use Rattle.cell_core.specs.Cell.{with_strong}
use Rattle.cell_core.specs.Words.{State, slots, grants, fetch_add}
use Rattle.cell_core.specs.WordSteps.{with_owner, with_grant, with_slot, with_shares}
use Rattle.cell_core.specs.Shows.{Shows}
use Rattle.cell_core.specs.declared.words.Owner.TheVariants.{Holding, Twice, Weakly, Both, Fading}
use Rattle.counted_handles.specs.declared.view.Mark.{Mark}
use Rattle.counted_handles.specs.declared.view.Tie.{Tie}
use Rattle.counted_handles.specs.declared.view.Hold.{Hold}
use Rattle.counted_handles.specs.declared.view.Hold.TheVariants.{Once, Double, Loose, Mixed}
use Rattle.counted_handles.specs.declared.view.Reading.{Reading}
use Rattle.counted_handles.specs.declared.view.View.{View}
use Rattle.counted_handles.specs.declared.view.View.TheVariants.{Hosts}
use Rattle.counted_handles.specs.Shown.{Board, hold_owner, owner_of, left_of, lefts, shown}
use Rattle.counted_handles.specs.Ruled.{RoomSpot, MarkIs, AreGone, Knows, IsFree, Holds}
use Rattle.counted_handles.specs.Tells.{Cloned, Lifted, SeenBy, SeenAlive, with_gone}
use Rattle.counted_handles.proofs.Lists.{got_map, got_within, map_set, sum_set, sum_has}
use Rattle.counted_handles.proofs.Slots.{first_kept}
use Rattle.counted_handles.proofs.Owners.{Plain, joint_twice, joint_both, taken_up}
use Rattle.counted_handles.proofs.FreeSlots.{free_stay, frees_stay, not_free}
use Rattle.counted_handles.proofs.Frames.{unmoved, home_stays, publisher_else, noted_else, not_first, state_is, seat_step}
use Rattle.counted_handles.proofs.Live.{Slotted, slotted, live_room, live_mark, live_mark_is}
use Rattle.counted_handles.proofs.WordSteps.{found_shares, shares_set}

-- a number of those that are buried is buried
pub gone_has : (buried : ℕ → Bool) (gone : List ℕ) (n : ℕ) → AreGone buried gone → Contains gone n → buried n ≡ true
gone_has buried [] n are (k, l, e) = absurd (omega (arith, l))
gone_has buried (j ∷ js) n are (zero, l, e) = subst (λ x. buried x ≡ true) e are.0
gone_has buried (j ∷ js) n are (suc k, l, e) = gone_has buried js n are.1 (k, omega (arith, l), e)

-- two values that stand at one place
same_value : {T : Type 0} (xs : List T) (k : ℕ) (x y : T) → slice_get xs k ≡ Some x → slice_get xs k ≡ Some y → x ≡ y
same_value xs k x y e f = let g : Some x ≡ Some y = sym e ∙ f in cc

module _ {T : Type 0} (begins : T → Type 0) (follows : T → T → Type 0) (spots : List (RoomSpot T)) where
  -- what the table shows when S of a slot has one share more, and a reader one grant less
  shown_raise : (s : Board T) (h : Holds begins follows spots s) (place : ℕ) (there : Slotted s place) (id : ℕ) (old new : View T) → get_elem? s.views id ≡ some old → id ≢ 0 → left_of new + 1 ≡ left_of old
      → shown (record { words = set s.words (suc (place + place)) (fetch_add (get_or s.words (suc (place + place)) 0) 1); homes = s.homes; views = set s.views id new })
      ≡ with_owner id (owner_of new) (with_grant (with_slot place (with_shares (fetch_add there.there.shares 1) there.there) (shown s)))
  shown_raise s h place there id old new at first left =
      let word : ℕ = fetch_add (get_or s.words (suc (place + place)) 0) 1 in
      let mine = sum_has left_of s.views id old at in
      let sums = sum_set left_of s.views id old new at in
      state_is _ _
      (first_kept s.words (place + place) word)
      (shares_set s place word there ∙ ap (λ n. slice_set (shown s).table place (with_shares (fetch_add n 1) there.there)) (sym (found_shares s place there)))
      (publisher_else s.views id new first)
      (map_set owner_of s.views id new)
      (omega (arith, sums, mine.1, h.few, left))
      (noted_else s.views id new first)

  -- fewer shares are given out than there may be, where a seat has a grant
  has_room : (s : Board T) (h : Holds begins follows spots s) (id : ℕ) (old : View T) → get_elem? s.views id ≡ some old → 0 < left_of old → (shown s).granted < grants
  has_room s h id old at some_left = let mine = sum_has left_of s.views id old at in omega (arith, mine.1, h.few, some_left)

  -- a clone: the owner that was taken in has a share more
  pub clones : (id : ℕ) (r : Reading T) (mark : Mark T) → 0 < r.left → Allows (Holds begins follows spots) slots id (Hosts r (Once mark), []) (suc (mark.slot + mark.slot)) (λ n. (n + 1) % 2 ^ 64) (λ found me. Cloned r mark me)
  clones id r mark some_left s h size at bound =
      let st : State T = shown s in
      let number : ℕ = mark.number in
      let place : ℕ = mark.slot in
      let word : ℕ = fetch_add (get_or s.words (suc (place + place)) 0) 1 in
      let words : List ℕ = set s.words (suc (place + place)) word in
      let old : View T = Hosts r (Once mark) in
      let new : View T = Hosts (record r { left = r.left - 1 }) (Double mark) in
      let known = h.knows id old at in
      let is : MarkIs s.homes h.name mark = known.4 in
      let l : place < slots = (let w = got_within s.homes place _ is.home in omega (arith, w, size)) in
      let there = slotted s h place l in
      let first = not_first s h id old at (λ p e. cc) in
      let seat : slice_get st.owners id ≡ Some (Holding number place) = got_map owner_of s.views id old at in
      let sees = holding_sees st h.cell h.shows id number place there.there seat there.at in
      let kept = raise_keeps st h.cell number place there.there h.shows there.at sees.phase (has_room s h id old at some_left) in
      let more : State T = with_grant (with_slot place (with_shares (fetch_add there.there.shares 1) there.there) st) in
      let plain : Plain (Holding number place) = record { unburying = λ slot e. cc; uncharged = refl } in
      let shows = taken_up more (with_strong number h.cell) id (Holding number place) (Holding number place) (Twice number place) seat plain plain (joint_twice number place) (λ plan k was also. was) kept in
      let after : State T = shown (record { words = words; homes = s.homes; views = set s.views id new }) in
      let same : after ≡ with_owner id (Twice number place) more = shown_raise s h place there id old new at first (omega (arith, some_left)) in (
        new,
        keeps,
        tt,
        seat_step begins follows spots s h words s.homes id old new (record {
          at = at;
          was_none = λ p e. cc;
          is_none = λ p e. cc;
          cell = with_strong number h.cell;
          published = refl;
          gone = λ j u. u;
          shows = subst (λ x. Shows x (with_strong number h.cell)) (sym same) shows;
          left = omega arith;
          read = refl;
          fixed = λ p here counts w e. first_kept s.words (place + place) word ∙ (counts.fixed w e).1;
          free = λ last swept at_last are. frees_stay s.words s.homes place word last swept (λ free. not_free s.words s.homes h.name mark is free) are;
          spare = λ k free. free_stay s.words s.homes place word k (λ busy. not_free s.words s.homes h.name mark is busy) free;
          homes_are = λ slot home e. home_stays spots h.name st after slot home
              (λ p. ap (λ (x : State T). x.publisher) same ∙ p)
              (λ i q. ap (λ (x : State T). slice_get x.owners i) same ∙ seat_stays st.owners id (Holding number place) (Twice number place) (Fading slot) seat (λ e. cc) i q)
              (h.homes slot home e);
          mine = (known.0, known.1, known.2, known.3, known.4);
          others = λ j view other e. unmoved s.homes h.name view;
        }),
        refl,
      )

  -- a slot of which somebody has the version weakly isn't free
  not_free_weak : (s : Board T) (h : Holds begins follows spots s) (id : ℕ) (tie : Tie T) (there : Slotted s tie.slot) → slice_get (shown s).owners id ≡ Some (Weakly tie.number tie.slot) → IsFree s.words s.homes tie.slot → ⊥
  not_free_weak s h id tie there seat free = (keeps_slot (shown s) h.cell id tie.number tie.slot there.there h.shows seat there.at).0 (found_shares s tie.slot there ∙ free.shares)

  -- a step up of a weak owner that was taken in: an owner's share, or DEAD
  pub lifts : (id : ℕ) (r : Reading T) (tie : Tie T) → 0 < r.left → Allows (Holds begins follows spots) slots id (Hosts r (Loose tie true), []) (suc (tie.slot + tie.slot)) (λ n. (n + 1) % 2 ^ 64) (λ found me. Lifted r tie found me)
  lifts id r tie some_left s h size at bound =
      let st : State T = shown s in
      let number : ℕ = tie.number in
      let place : ℕ = tie.slot in
      let word : ℕ = fetch_add (get_or s.words (suc (place + place)) 0) 1 in
      let words : List ℕ = set s.words (suc (place + place)) word in
      let old : View T = Hosts r (Loose tie true) in
      let known = h.knows id old at in
      let seat : slice_get st.owners id ≡ Some (Weakly number place) = got_map owner_of s.views id old at in
      let of = h.shows.owner_is id (Weakly number place) seat in
      let there = slotted s h place of.0 in
      let first = not_first s h id old at (λ p e. cc) in
      let room = has_room s h id old at some_left in
      let shares = found_shares s place there in
      let more : State T = with_grant (with_slot place (with_shares (fetch_add there.there.shares 1) there.there) st) in
      elim (weak_sees st h.cell h.shows id number place there.there seat there.at) [
        | inl open_still ↦ (
            let lies = live_room spots s h number place of.0 open_still.phase in
            let mark : Mark T = live_mark lies in
            let new : View T = Hosts (record r { left = r.left - 1 }) (Mixed mark tie) in
            let kept = raise_keeps st h.cell number place there.there h.shows there.at open_still.phase room in
            let shows = taken_up more (with_strong number h.cell) id (Weakly number place) (Holding number place) (Both number place) seat (record { unburying = λ slot e. cc; uncharged = refl }) (record { unburying = λ slot e. cc; uncharged = refl }) (joint_both number place) (λ plan k was also. (also, was)) kept in
            let after : State T = shown (record { words = words; homes = s.homes; views = set s.views id new }) in
            let same : after ≡ with_owner id (Both number place) more = shown_raise s h place there id old new at first (omega (arith, some_left)) in (
              new,
              keeps,
              tt,
              seat_step begins follows spots s h words s.homes id old new (record {
                at = at;
                was_none = λ p e. cc;
                is_none = λ p e. cc;
                cell = with_strong number h.cell;
                published = refl;
                gone = λ j u. u;
                shows = subst (λ x. Shows x (with_strong number h.cell)) (sym same) shows;
                left = omega arith;
                read = refl;
                fixed = λ p here counts w e. first_kept s.words (place + place) word ∙ (counts.fixed w e).1;
                free = λ last swept at_last are. frees_stay s.words s.homes place word last swept (λ free. not_free_weak s h id tie there seat free) are;
                spare = λ k free. free_stay s.words s.homes place word k (λ busy. not_free_weak s h id tie there seat busy) free;
                homes_are = λ slot home e. home_stays spots h.name st after slot home
                    (λ p. ap (λ (x : State T). x.publisher) same ∙ p)
                    (λ i q. ap (λ (x : State T). slice_get x.owners i) same ∙ seat_stays st.owners id (Weakly number place) (Both number place) (Fading slot) seat (λ e. cc) i q)
                    (h.homes slot home e);
                mine = (known.0, known.1, known.2, known.3, (live_mark_is lies, known.4, (refl, refl)));
                others = λ j view other e. unmoved s.homes h.name view;
              }),
              (
                λ little. (mark, record { number_is = refl; slot_is = refl; value_is = same_value h.cell.published number lies.value tie.value lies.published_is known.4.1; name_is = sym known.4.0; within = of.0 }, refl),
                λ great. absurd (omega (arith, great, shares, open_still.little)),
              ),
            )
            )
        | inr gone ↦ (
            let new : View T = Hosts (with_gone number (record r { left = r.left - 1 })) (Loose tie false) in
            let kept = late_keeps st h.cell number place gone.late gone.rest there.there h.shows there.at gone.phase room in
            let after : State T = shown (record { words = words; homes = s.homes; views = set s.views id new }) in
            let same : after ≡ more = shown_raise s h place there id old new at first (omega (arith, some_left)) ∙ ap (λ l. record more { owners = l }) (sym (set_there st.owners id (Weakly number place) seat)) in (
              new,
              keeps,
              tt,
              seat_step begins follows spots s h words s.homes id old new (record {
                at = at;
                was_none = λ p e. cc;
                is_none = λ p e. cc;
                cell = h.cell;
                published = refl;
                gone = λ j u. u;
                shows = subst (λ x. Shows x h.cell) (sym same) kept;
                left = omega arith;
                read = refl;
                fixed = λ p here counts w e. first_kept s.words (place + place) word ∙ (counts.fixed w e).1;
                free = λ last swept at_last are. frees_stay s.words s.homes place word last swept (λ free. not_free_weak s h id tie there seat free) are;
                spare = λ k free. free_stay s.words s.homes place word k (λ busy. not_free_weak s h id tie there seat busy) free;
                homes_are = λ slot home e. home_stays spots h.name st after slot home
                    (λ p. ap (λ (x : State T). x.publisher) same ∙ p)
                    (λ i q. ap (λ (x : State T). slice_get x.owners i) same ∙ q)
                    (h.homes slot home e);
                mine = (known.0, known.1, known.2, (gone.buried, known.3), known.4);
                others = λ j view other e. unmoved s.homes h.name view;
              }),
              (λ little. absurd (omega (arith, little, shares, gone.great)), λ great. refl),
            )
            )
      ]

  -- a seat that has seen more of what is buried
  seen_more : (s : Board T) (h : Holds begins follows spots s) (id i : ℕ) (r seen : Reading T) (hold its : Hold T) → get_elem? s.views id ≡ some (Hosts r hold) → hold_owner its ≡ hold_owner hold → seen.left ≡ r.left → Knows spots h.name h.cell s.homes (Hosts seen its)
      → Holds begins follows spots (record { words = set s.words i (get_or s.words i 0); homes = s.homes; views = set s.views id (Hosts seen its) })
  seen_more s h id i r seen hold its at owns left knows =
      let st : State T = shown s in
      let old : View T = Hosts r hold in
      let new : View T = Hosts seen its in
      let first = not_first s h id old at (λ p e. cc) in
      let seat : slice_get st.owners id ≡ Some (hold_owner hold) = got_map owner_of s.views id old at in
      let sums = sum_set left_of s.views id old new at in
      let after : State T = shown (record { words = s.words; homes = s.homes; views = set s.views id new }) in
      let same : after ≡ st = state_is _ _ refl refl (publisher_else s.views id new first) (map_set owner_of s.views id new ∙ ap (set st.owners id) owns ∙ sym (set_there st.owners id (hold_owner hold) seat))
      (ap (λ k. grants - k) (let e : lefts (set s.views id new) ≡ lefts s.views = omega (arith, sums, left) in e))
      (noted_else s.views id new first) in
      subst (λ w. Holds begins follows spots (record { words = w; homes = s.homes; views = set s.views id new })) (sym (set-get_or s.words i 0))
      (seat_step begins follows spots s h s.words s.homes id old new (record {
        at = at;
        was_none = λ p e. cc;
        is_none = λ p e. cc;
        cell = h.cell;
        published = refl;
        gone = λ j u. u;
        shows = subst (λ x. Shows x h.cell) (sym same) h.shows;
        left = omega (arith, left);
        read = refl;
        fixed = λ p here counts w e. (counts.fixed w e).1;
        free = λ last swept at_last are. are;
        spare = λ k free. free;
        homes_are = λ slot home e. home_stays spots h.name st after slot home
            (λ p. ap (λ (x : State T). x.publisher) same ∙ p)
            (λ i q. ap (λ (x : State T). slice_get x.owners i) same ∙ q)
            (h.homes slot home e);
        mine = knows;
        others = λ j view other e. unmoved s.homes h.name view;
      }))

  -- a look at the slot of a weak owner that was taken in
  pub sees : (id : ℕ) (r : Reading T) (tie : Tie T) (seen : Bool) → Allows (Holds begins follows spots) slots id (Hosts r (Loose tie seen), []) (suc (tie.slot + tie.slot)) (λ n. n) (λ found me. SeenBy r tie found me)
  sees id r tie seen s h size at bound =
      let st : State T = shown s in
      let number : ℕ = tie.number in
      let place : ℕ = tie.slot in
      let i : ℕ = suc (place + place) in
      let old : View T = Hosts r (Loose tie seen) in
      let known = h.knows id old at in
      let seat : slice_get st.owners id ≡ Some (Weakly number place) = got_map owner_of s.views id old at in
      let of = h.shows.owner_is id (Weakly number place) seat in
      let there = slotted s h place of.0 in
      let shares = found_shares s place there in
      elim (weak_sees st h.cell h.shows id number place there.there seat there.at) [
        | inl open_still ↦ (
          Hosts r (Loose tie true),
          keeps,
          tt,
          seen_more s h id i r r (Loose tie seen) (Loose tie true) at refl refl known,
          (λ little. refl, λ great. absurd (omega (arith, great, shares, open_still.little))),
        )
        | inr gone ↦ (
          Hosts (with_gone number r) (Loose tie false),
          keeps,
          tt,
          seen_more s h id i r (with_gone number r) (Loose tie seen) (Loose tie false) at refl refl (known.0, known.1, known.2, (gone.buried, known.3), known.4),
          (λ little. absurd (omega (arith, little, shares, gone.great)), λ great. refl),
        )
      ]

  -- a look at the slot of an owner that was taken in: its version isn't one of those that the reader has seen buried
  pub finds : (id : ℕ) (r : Reading T) (mark : Mark T) → Allows (Holds begins follows spots) slots id (Hosts r (Once mark), []) (suc (mark.slot + mark.slot)) (λ n. n) (λ found me. SeenAlive r mark me)
  finds id r mark s h size at bound =
      let st : State T = shown s in
      let old : View T = Hosts r (Once mark) in
      let known = h.knows id old at in
      let seat : slice_get st.owners id ≡ Some (Holding mark.number mark.slot) = got_map owner_of s.views id old at in
      let lies = h.shows.owner_is id (Holding mark.number mark.slot) seat in (
        old,
        keeps,
        tt,
        seen_more s h id (suc (mark.slot + mark.slot)) r r (Once mark) (Once mark) at refl refl known,
        (refl, λ has. true≢false (sym (gone_has h.cell.buried r.gone mark.number known.3 has) ∙ lies.unburied)),
      )
