-- A fade of who buried a version, and a reset, keep the rule.
use Rattle.std.proofs.Common.{◌≡◌, ◌≢◌, refl, sym, ap, ◌∙◌, subst, ℕ, suc, ◌+◌, ◌-◌, ◌%◌, ◌^◌, ◌<◌, inl, inr, ⊎_elim, List, [], ◌∷◌, get_or, set, arith, Some, None}
use Rattle.std.specs.List.{slice_get}
use Rattle.std.proofs.lemmas.Bool.Decides.{eqb_tells}
use mathlib.Core.Option as maybe
use mathlib.Core.Option.{none, some}
use lib.ListN.{get_elem?}
use Rattle.atomic_table.specs.Table.{Allows, keeps, gives}
use Rattle.atomic_table.proofs.Lists.{at_set}
use Rattle.cell_core.proofs.FadeKeeps.{Outcome, burier_fade_keeps, reset_keeps}
use Rattle.cell_core.proofs.WeakShows.{fade_counts, fade_less}
use Rattle.cell_core.proofs.ShowsLemmas.{last_lies, latest_slot}
use Rattle.cell_core.proofs.FrameLemmas.{seat_stays}
use Rattle.cell_core.specs.Words.{State, slots, slot_of, fetch_sub}
use Rattle.cell_core.specs.WordSteps.{with_owner, with_slot, with_weak_word, with_version}
use Rattle.cell_core.specs.Shows.{Rest, Shows, SlotIs, HasRest}
use Rattle.cell_core.specs.Shows.Rest.{fading, closing}
use Rattle.cell_core.specs.Shows.Phase.{live, dead}
use Rattle.cell_core.specs.declared.words.Owner.TheVariants.{Fading, Resetting, Freeing}
use Rattle.counted_handles.specs.declared.view.Publishing.{Publishing}
use Rattle.counted_handles.specs.declared.view.View.{View}
use Rattle.counted_handles.specs.declared.view.View.TheVariants.{Publishes, Fades, Resets, Frees, Gone}
use Rattle.counted_handles.specs.Shown.{Room, Board, owner_of, left_of, read_of, shown}
use Rattle.counted_handles.specs.Ruled.{RoomSpot, HomeIs, IsShared, Knows, Holds}
use Rattle.counted_handles.specs.Tells.{Faded, Restored}
use Rattle.counted_handles.proofs.Lists.{got_map}
use Rattle.counted_handles.proofs.Slots.{first_kept}
use Rattle.counted_handles.proofs.FreeSlots.{free_tied, free_beside, frees_tied, frees_beside}
use Rattle.counted_handles.proofs.Frames.{unmoved, no_share, home_stays, not_first, seat_step}
use Rattle.counted_handles.proofs.Live.{slotted}
use Rattle.counted_handles.proofs.WordSteps.{found_shares, found_weak, home_version, shown_weak_place, shown_weak}

module _ {T : Type 0} (begins : T → Type 0) (follows : T → T → Type 0) (spots : List (RoomSpot T)) where
  -- a slot whose version is buried isn't the one in W
  pub rest_not_last : (s : Board T) (h : Holds begins follows spots s) (slot last : ℕ) (rest : Rest) → HasRest h.shows.plan slot rest → slot_of (get_or s.words 0 0) ≡ last → slot ≢ last
  rest_not_last s h slot last rest charge is same =
      let lies = last_lies (shown s) h.cell h.shows in
      let here : slot ≡ h.shows.plan.slot h.shows.plan.last = same ∙ sym is ∙ latest_slot (shown s) h.cell h.shows in
      let wrong : dead charge.0 charge.1 rest ≡ live h.shows.plan.last = sym charge.3 ∙ ap h.shows.plan.phase here ∙ lies.1 in
      cc

  -- who buried a version has given its place back, and goes on as K asks
  gone_on : (s : Board T) (h : Holds begins follows spots s) (id slot : ℕ) (spot : RoomSpot T) (room : Room T) (new : View T) → get_elem? s.views id ≡ some (Fades slot spot) → room.at ≡ spot.at → room.value ≡ None → room.stake ≡ []
      → ((p : Publishing T) → new ≡ Publishes p → ⊥) → left_of new ≡ 0 → read_of new ≡ 0 → Knows spots h.name h.cell (set s.homes slot (some room)) new
      → Outcome slot (fetch_sub (get_or s.words (suc (suc (slot + slot))) 0) 1) (owner_of new)
      → Holds begins follows spots (record { words = set s.words (suc (suc (slot + slot))) (fetch_sub (get_or s.words (suc (suc (slot + slot))) 0) 1); homes = set s.homes slot (some room); views = set s.views id new })
  gone_on s h id slot spot room new at lies empty whole not_publishes no_left no_read knows out =
      let st : State T = shown s in
      let word : ℕ = fetch_sub (get_or s.words (suc (suc (slot + slot))) 0) 1 in
      let words : List ℕ = set s.words (suc (suc (slot + slot))) word in
      let homes : List (maybe.Option (Room T)) = set s.homes slot (some room) in
      let known = h.knows id (Fades slot spot) at in
      let first = not_first s h id (Fades slot spot) at (λ p e. cc) in
      let seat : slice_get st.owners id ≡ Some (Fading slot) = got_map owner_of s.views id (Fades slot spot) at in
      let charge = h.shows.owner_is id (Fading slot) seat in
      let there = slotted s h slot charge.2 in
      let was = subst (λ p. SlotIs st h.cell h.shows.plan slot p there.there) charge.3 (h.shows.table.slot_is slot there.there there.at) in
      let less : word + 1 ≡ there.there.weak = ap (λ k. fetch_sub k 1 + 1) (sym (found_weak s slot there)) ∙ fade_less st h.cell h.shows id slot there.there (inr seat) there.at in
      let shows = burier_fade_keeps st h.cell id slot word (owner_of new) there.there h.shows seat there.at less out in
      let after : State T = shown (record { words = words; homes = homes; views = set s.views id new }) in
      let same : after ≡ with_owner id (owner_of new) (with_slot slot (with_weak_word word there.there) st) =
      shown_weak_place s slot word (some room) there id (Fades slot spot) new at first no_left
      ∙ ap (λ v. with_owner id (owner_of new) (with_slot slot (with_weak_word word (with_version v there.there)) st)) (empty ∙ sym was.version) in
      seat_step begins follows spots s h words homes id (Fades slot spot) new (record {
        at = at;
        was_none = λ p e. cc;
        is_none = not_publishes;
        cell = h.cell;
        published = refl;
        gone = λ j u. u;
        shows = subst (λ x. Shows x h.cell) (sym same) shows;
        left = omega (arith, no_left);
        read = no_read;
        fixed = λ p here counts w e. first_kept s.words (suc (slot + slot)) word ∙ (counts.fixed w e).1;
        free = λ last swept is are. frees_tied s.words s.homes slot word (some room) last swept (λ unused. omega (arith, unused.shares, found_shares s slot there, was.shares)) (rest_not_last s h slot last (fading id) charge is) are;
        spare = λ place is. free_tied s.words s.homes slot word (some room) place (λ unused. omega (arith, unused.shares, found_shares s slot there, was.shares)) is;
        homes_are = λ place home e. ⊎_elim
            (λ (t : (place ≡ slot) × (some room ≡ home)).
            subst (λ x. HomeIs spots h.name after place x) t.1 (subst (λ k. HomeIs spots h.name after k (some room)) (sym t.0) ((spot, known, lies), subst (λ v. IsShared h.name slot v room.stake) (sym empty) whole)))
            (λ (t : (place ≢ slot) × (get_elem? s.homes place ≡ some home)). home_stays spots h.name st after place home
            (λ p. ap (λ (x : State T). x.publisher) same ∙ p)
            (λ i q. ap (λ (x : State T). slice_get x.owners i) same ∙ seat_stays st.owners id (Fading slot) (owner_of new) (Fading place) seat (λ e. t.0 (let f : slot ≡ place = cc in sym f)) i q)
            (h.homes place home t.1))
            (at_set s.homes slot place (some room) home e);
        mine = knows;
        others = λ j view other e. no_share s.homes h.name slot there.home (some room) view there.home_at (home_version s slot there ∙ was.version);
      })

  -- K counts who buried the version
  fade_found : (s : Board T) (h : Holds begins follows spots s) (id slot : ℕ) (spot : RoomSpot T) → get_elem? s.views id ≡ some (Fades slot spot) → (0 < get_or s.words (suc (suc (slot + slot))) 0) × (fetch_sub (get_or s.words (suc (suc (slot + slot))) 0) 1 + 1 ≡ get_or s.words (suc (suc (slot + slot))) 0)
  fade_found s h id slot spot at =
      let st : State T = shown s in
      let seat : slice_get st.owners id ≡ Some (Fading slot) = got_map owner_of s.views id (Fades slot spot) at in
      let charge = h.shows.owner_is id (Fading slot) seat in
      let there = slotted s h slot charge.2 in
      let found = found_weak s slot there in
      let counts = fade_counts st h.cell h.shows id slot there.there (inr seat) there.at in
      (omega (arith, counts.0, found), ap (λ k. fetch_sub k 1 + 1) (sym found) ∙ fade_less st h.cell h.shows id slot there.there (inr seat) there.at ∙ found)

  pub fades : (id slot : ℕ) (spot : RoomSpot T) (room : Room T) → room.at ≡ spot.at → room.value ≡ None → room.stake ≡ [] → Allows (Holds begins follows spots) slots id (Fades slot spot, (slot, room) ∷ []) (suc (suc (slot + slot))) (λ n. (n + (2 ^ 64 - 1)) % 2 ^ 64) (λ found me. Faded slot found me)
  fades id slot spot room lies empty whole s h size at bound =
      let found : ℕ = get_or s.words (suc (suc (slot + slot))) 0 in
      let counts = fade_found s h id slot spot at in
      elim (eqb_tells found 1) [
        | inl one ↦ (
          Resets slot,
          gives,
          tt,
          gone_on s h id slot spot room (Resets slot) at lies empty whole (λ p e. cc) refl refl tt (inl (omega (arith, counts.1, one.1), refl)),
          (counts.0, rw one.0 refl),
        )
        | inr other ↦ (
          Gone,
          gives,
          tt,
          gone_on s h id slot spot room Gone at lies empty whole (λ p e. cc) refl refl tt (inr (omega (arith, counts.0, counts.1, other.1), refl)),
          (counts.0, rw other.0 refl),
        )
      ]

  pub resets : (id slot : ℕ) → Allows (Holds begins follows spots) slots id (Resets slot, []) (suc (suc (slot + slot))) (λ _. 1) (λ found me. Restored slot me)
  resets id slot s h size at bound =
      let st : State T = shown s in
      let words : List ℕ = set s.words (suc (suc (slot + slot))) 1 in
      let first = not_first s h id (Resets slot) at (λ p e. cc) in
      let seat : slice_get st.owners id ≡ Some (Resetting slot) = got_map owner_of s.views id (Resets slot) at in
      let charge = h.shows.owner_is id (Resetting slot) seat in
      let there = slotted s h slot charge.2 in
      let shows = reset_keeps st h.cell id slot there.there h.shows seat there.at in
      let after : State T = shown (record { words = words; homes = s.homes; views = set s.views id (Frees slot) }) in
      let same : after ≡ with_owner id (Freeing slot) (with_slot slot (with_weak_word 1 there.there) st) = shown_weak s slot 1 there id (Resets slot) (Frees slot) at first refl in (
        Frees slot,
        keeps,
        tt,
        seat_step begins follows spots s h words s.homes id (Resets slot) (Frees slot) (record {
          at = at;
          was_none = λ p e. cc;
          is_none = λ p e. cc;
          cell = h.cell;
          published = refl;
          gone = λ j u. u;
          shows = subst (λ x. Shows x h.cell) (sym same) shows;
          left = omega arith;
          read = refl;
          fixed = λ p here counts w e. first_kept s.words (suc (slot + slot)) 1 ∙ (counts.fixed w e).1;
          free = λ last swept is are. frees_beside s.words s.homes slot 1 last swept (λ one. rest_not_last s h slot last (closing id) charge is) are;
          spare = λ place is. free_beside s.words s.homes slot 1 place is;
          homes_are = λ place home e. home_stays spots h.name st after place home
              (λ p. ap (λ (x : State T). x.publisher) same ∙ p)
              (λ i q. ap (λ (x : State T). slice_get x.owners i) same ∙ seat_stays st.owners id (Resetting slot) (Freeing slot) (Fading place) seat (λ e. cc) i q)
              (h.homes place home e);
          mine = tt;
          others = λ j view other e. unmoved s.homes h.name view;
        }),
        refl,
      )
