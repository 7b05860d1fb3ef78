-- A release keeps the rule.
use Rattle.std.proofs.Common.{◌≡◌, refl, sym, ap, ◌∙◌, subst, ℕ, suc, ◌+◌, ◌-◌, ◌%◌, ◌^◌, ◌<◌, inl, inr, List, [], get_or, set, arith, Some}
use Rattle.std.specs.List.{slice_get}
use Rattle.std.proofs.lemmas.Bool.Decides.{eqb_tells}
use mathlib.Core.Option.{some}
use lib.ListN.{get_elem?}
use Rattle.atomic_table.specs.Table.{Allows, keeps}
use Rattle.cell_core.proofs.ReleaseKeeps.{release_keeps, can_release}
use Rattle.cell_core.proofs.FrameLemmas.{seat_stays}
use Rattle.cell_core.specs.Cell.{without_strong}
use Rattle.cell_core.specs.Words.{State, slots, fetch_sub}
use Rattle.cell_core.specs.WordSteps.{with_owner, with_slot, with_shares}
use Rattle.cell_core.specs.Shows.{Shows, OwnerIs, holds, has_weakly}
use Rattle.cell_core.specs.declared.words.Owner.TheVariants.{Holding, Burying, Fading}
use Rattle.counted_handles.specs.declared.view.Mark.{Mark}
use Rattle.counted_handles.specs.declared.view.Publishing.{Publishing}
use Rattle.counted_handles.specs.declared.view.View.{View}
use Rattle.counted_handles.specs.declared.view.View.TheVariants.{Publishes, Has, Buries, Gone}
use Rattle.counted_handles.specs.Shown.{Board, owner_of, left_of, read_of, shown}
use Rattle.counted_handles.specs.Ruled.{RoomSpot, Knows, Holds}
use Rattle.counted_handles.specs.Tells.{Released}
use Rattle.counted_handles.proofs.Lists.{got_map, got_within}
use Rattle.counted_handles.proofs.Slots.{first_kept}
use Rattle.counted_handles.proofs.FreeSlots.{free_stay, frees_stay, not_free}
use Rattle.counted_handles.proofs.Frames.{unmoved, home_stays, not_first, seat_step}
use Rattle.counted_handles.proofs.Live.{slotted}
use Rattle.counted_handles.proofs.WordSteps.{found_shares, shown_shares}

module _ {T : Type 0} (begins : T → Type 0) (follows : T → T → Type 0) (spots : List (RoomSpot T)) where
  -- an owner has given its share back, and goes on as the shares left ask
  gone_on : (s : Board T) (h : Holds begins follows spots s) (id : ℕ) (mark : Mark T) (new : View T) → get_elem? s.views id ≡ some (Has mark) → mark.slot < slots
      → ((p : Publishing T) → new ≡ Publishes p → ⊥) → left_of new ≡ 0 → read_of new ≡ 0 → ((j : ℕ) → (holds j (owner_of new) ≡ 0) × (has_weakly j (owner_of new) ≡ 0))
      → (fetch_sub (get_or s.words (suc (mark.slot + mark.slot)) 0) 1 ≡ 0 → owner_of new ≡ Burying mark.slot)
      → OwnerIs (without_strong mark.number h.cell) h.shows.plan id (owner_of new) → Knows spots h.name (without_strong mark.number h.cell) s.homes new
      → Holds begins follows spots (record { words = set s.words (suc (mark.slot + mark.slot)) (fetch_sub (get_or s.words (suc (mark.slot + mark.slot)) 0) 1); homes = s.homes; views = set s.views id new })
  gone_on s h id mark new at l not_publishes no_left no_read gives_up due mine knows =
      let st : State T = shown s in
      let place : ℕ = mark.slot in
      let found : ℕ = get_or s.words (suc (place + place)) 0 in
      let word : ℕ = fetch_sub found 1 in
      let there = slotted s h place l in
      let shares = found_shares s place there in
      let first = not_first s h id (Has mark) at (λ p e. cc) in
      let seat : slice_get st.owners id ≡ Some (Holding mark.number place) = got_map owner_of s.views id (Has mark) at in
      let can = can_release st h.cell h.shows id mark.number place there.there seat there.at in
      let less : word + 1 ≡ there.there.shares = ap (λ k. fetch_sub k 1 + 1) (sym shares) ∙ can.less in
      let shows = release_keeps st h.cell id mark.number place word there.there (owner_of new) h.shows seat there.at less gives_up due mine in
      let after : State T = shown (record { words = set s.words (suc (place + place)) word; homes = s.homes; views = set s.views id new }) in
      let same : after ≡ with_owner id (owner_of new) (with_slot place (with_shares word there.there) st) = shown_shares s place word there id (Has mark) new at first no_left in
      seat_step begins follows spots s h (set s.words (suc (place + place)) word) s.homes id (Has mark) new (record {
        at = at;
        was_none = λ p e. cc;
        is_none = not_publishes;
        cell = without_strong mark.number h.cell;
        published = refl;
        gone = λ j u. u;
        shows = subst (λ x. Shows x (without_strong mark.number h.cell)) (sym same) shows;
        left = omega (arith, no_left);
        read = no_read;
        fixed = λ p here counts w e. first_kept s.words (place + place) word ∙ (counts.fixed w e).1;
        free = λ last swept is are. frees_stay s.words s.homes place word last swept (λ free. not_free s.words s.homes h.name mark (h.knows id (Has mark) at) free) are;
        spare = λ k free. free_stay s.words s.homes place word k (λ busy. not_free s.words s.homes h.name mark (h.knows id (Has mark) at) busy) free;
        homes_are = λ slot home e. home_stays spots h.name st after slot home
            (λ p. ap (λ (x : State T). x.publisher) same ∙ p)
            (λ i q. ap (λ (x : State T). slice_get x.owners i) same ∙ seat_stays st.owners id (Holding mark.number place) (owner_of new) (Fading slot) seat (λ e. cc) i q)
            (h.homes slot home e);
        mine = knows;
        others = λ j view other e. unmoved s.homes h.name view;
      })

  -- an owner's share is counted in S
  is_counted : (s : Board T) (h : Holds begins follows spots s) (id : ℕ) (mark : Mark T) → get_elem? s.views id ≡ some (Has mark) → mark.slot < slots → 0 < get_or s.words (suc (mark.slot + mark.slot)) 0
  is_counted s h id mark at l =
      let st : State T = shown s in
      let place : ℕ = mark.slot in
      let there = slotted s h place l in
      let seat : slice_get st.owners id ≡ Some (Holding mark.number place) = got_map owner_of s.views id (Has mark) at in
      let can = can_release st h.cell h.shows id mark.number place there.there seat there.at in
      let shares = found_shares s place there in
      omega (arith, can.less, shares)

  pub releases : (id : ℕ) (mark : Mark T) → Allows (Holds begins follows spots) slots id (Has mark, []) (suc (mark.slot + mark.slot)) (λ n. (n + (2 ^ 64 - 1)) % 2 ^ 64) (λ found me. Released mark found me)
  releases id mark s h size at bound =
      let known = h.knows id (Has mark) at in
      let place : ℕ = mark.slot in
      let found : ℕ = get_or s.words (suc (place + place)) 0 in
      let l : place < slots = (let w = got_within s.homes place _ known.home in omega (arith, w, size)) in
      elim (eqb_tells found 1) [
        | inl one ↦ (
          Buries place mark.name,
          keeps,
          tt,
          gone_on s h id mark (Buries place mark.name) at l (λ p e. cc) refl refl (λ j. (refl, refl)) (λ e. refl) l known.name_is,
          (is_counted s h id mark at l, rw one.0 refl),
        )
        | inr other ↦ (
          Gone,
          keeps,
          tt,
          gone_on s h id mark Gone at l (λ p e. cc) refl refl (λ j. (refl, refl)) (λ e. absurd (other.1 (omega (arith, e, bound)))) tt tt,
          (is_counted s h id mark at l, rw other.0 refl),
        )
      ]
