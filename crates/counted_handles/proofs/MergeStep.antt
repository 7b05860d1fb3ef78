-- A seat that takes an owner in keeps the rule.
use Rattle.std.proofs.Common.{◌≡◌, ◌≢◌, refl, sym, ap, ◌∙◌, subst, ℕ, zero, suc, ◌-◌, ⊎_elim, Bool, false, List, [], ◌∷◌, map, get_or, set, arith, Option, Some, None}
use Rattle.std.specs.List.{slice_get, slice_set}
use mathlib.Core.Option.{some, some-injective, some-ne-none}
use lib.ListN.{get_elem?}
use Rattle.atomic_table.specs.Table.{Joins}
use Rattle.atomic_table.proofs.Lists.{at_set, set_here, set_else}
use Rattle.cell_core.proofs.SeatLemmas.{get_set_other}
use Rattle.cell_core.proofs.FrameLemmas.{charged, seat_stays}
use Rattle.cell_core.specs.Shows.{Shows}
use Rattle.cell_core.specs.Words.{State, grants, slot_of}
use Rattle.cell_core.specs.declared.words.Owner.{Owner}
use Rattle.cell_core.specs.declared.words.Owner.TheVariants.{Spent, Fading}
use Rattle.counted_handles.specs.declared.view.Mark.{Mark}
use Rattle.counted_handles.specs.declared.view.Tie.{Tie}
use Rattle.counted_handles.specs.declared.view.Hold.{Hold}
use Rattle.counted_handles.specs.declared.view.Hold.TheVariants.{Once, Loose}
use Rattle.counted_handles.specs.declared.view.Reading.{Reading}
use Rattle.counted_handles.specs.declared.view.Publishing.{Publishing}
use Rattle.counted_handles.specs.declared.view.View.{View}
use Rattle.counted_handles.specs.declared.view.View.TheVariants.{Publishes, Reads, Hosts, Has, HasWeakly, Gone}
use Rattle.counted_handles.specs.Shown.{Board, holder, held_by, hold_owner, owner_of, how_of, publisher_in, noted_of, noted_in, left_of, read_of, lefts, reads, shown}
use Rattle.counted_handles.specs.Ruled.{RoomSpot, HoldIs, Knows, AreFree, AllFree, Counts, Holds}
use Rattle.counted_handles.proofs.Lists.{got_map, got_within, map_set, sum_set}
use Rattle.counted_handles.proofs.Owners.{Plain, moved}
use Rattle.counted_handles.proofs.Frames.{home_stays, not_first, publisher_else, noted_else, knows_publisher, state_is}

-- how far the publisher has come, when the first seat's view is another of the same kind
publisher_kept : {T : Type 0} (views : List (View T)) (id : ℕ) (old view : View T) → get_elem? views id ≡ some old → how_of view ≡ how_of old → publisher_in (set views id view) ≡ publisher_in views
publisher_kept [] id old view at how = absurd (some-ne-none old (sym at))
publisher_kept {T} (v ∷ views) zero old view at how = how ∙ ap (λ (x : View T). how_of x) (sym (some-injective v old at))
publisher_kept (v ∷ views) (suc id) old view at how = refl

noted_kept : {T : Type 0} (views : List (View T)) (id : ℕ) (old view : View T) → get_elem? views id ≡ some old → noted_of view ≡ noted_of old → noted_in (set views id view) ≡ noted_in views
noted_kept [] id old view at how = absurd (some-ne-none old (sym at))
noted_kept {T} (v ∷ views) zero old view at how = how ∙ ap (λ (x : View T). noted_of x) (sym (some-injective v old at))
noted_kept (v ∷ views) (suc id) old view at how = refl

-- who is to fade stays, when an owner goes to another seat
fading_stays : {T : Type 0} (state : State T) (id other : ℕ) (how : Owner) (place : ℕ) → slice_get state.owners id ≡ Some Spent → slice_get state.owners other ≡ Some how → other ≢ id → Plain how → (i : ℕ) → slice_get state.owners i ≡ Some (Fading place) → slice_get (slice_set (slice_set state.owners id how) other Spent) i ≡ Some (Fading place)
fading_stays state id other how place spent there apart plain i q =
    seat_stays (slice_set state.owners id how) other how Spent (Fading place) (get_set_other state.owners id other how apart ∙ there)
    (λ e. (let wrong : None ≡ Some place = sym plain.uncharged ∙ ap charged e in cc)) i
    (seat_stays state.owners id Spent how (Fading place) spent (λ e. cc) i q)

module _ {T : Type 0} (begins : T → Type 0) (follows : T → T → Type 0) (spots : List (RoomSpot T)) where
  -- what it owes that a seat takes another's owner over
  record Merge (s : Board T) (h : Holds begins follows spots s) (id other : ℕ) (view guest both : View T) : Type 0 where
    at : get_elem? s.views id ≡ some view
    there : get_elem? s.views other ≡ some guest
    apart : other ≢ id
    how : how_of both ≡ how_of view
    noted : noted_of both ≡ noted_of view
    left : left_of both ≡ left_of view
    read : read_of both ≡ read_of view
    none_left : left_of guest ≡ 0
    none_read : read_of guest ≡ 0
    spent : owner_of view ≡ Spent
    gets : owner_of both ≡ owner_of guest
    plain : Plain (owner_of guest)
    knows : Knows spots h.name h.cell s.homes both
    elsewhere : other ≢ 0
    first : (p : Publishing T) × (get_elem? (set s.views id both) 0 ≡ some (Publishes p)) × ((board : Board T) → board.words ≡ s.words → board.homes ≡ s.homes → reads board.views ≡ reads s.views → Counts h.cell.buried board p)
    only : (p : Publishing T) → both ≡ Publishes p → id ≡ 0

  merged : (s : Board T) (h : Holds begins follows spots s) (id other : ℕ) (view guest both : View T) → Merge s h id other view guest both → Holds begins follows spots (record { words = s.words; homes = s.homes; views = set (set s.views id both) other Gone })
  merged s h id other view guest both o =
      let st : State T = shown s in
      let middle : List (View T) = set s.views id both in
      let views : List (View T) = set middle other Gone in
      let in_middle : get_elem? middle other ≡ some guest = set_else s.views id other both o.apart ∙ o.there in
      let one = sum_set left_of s.views id view both o.at in
      let two = sum_set left_of middle other guest Gone in_middle in
      let three = sum_set read_of s.views id view both o.at in
      let four = sum_set read_of middle other guest Gone in_middle in
      let same_lefts : lefts views ≡ lefts s.views = omega (arith, one, two, o.left, o.none_left) in
      let same_reads : reads views ≡ reads s.views = omega (arith, three, four, o.read, o.none_read) in
      let spent : slice_get st.owners id ≡ Some Spent = got_map owner_of s.views id view o.at ∙ ap Some o.spent in
      let there : slice_get st.owners other ≡ Some (owner_of guest) = got_map owner_of s.views other guest o.there in
      let owners : map owner_of views ≡ slice_set (slice_set st.owners id (owner_of guest)) other Spent =
      map_set owner_of middle other Gone ∙ ap (λ l. slice_set l other Spent) (map_set owner_of s.views id both) ∙ ap (λ x. slice_set (slice_set st.owners id x) other Spent) o.gets in
      let publisher : publisher_in views ≡ st.publisher = publisher_else middle other Gone o.elsewhere ∙ publisher_kept s.views id view both o.at o.how in
      let noted : noted_in views ≡ st.noted = noted_else middle other Gone o.elsewhere ∙ noted_kept s.views id view both o.at o.noted in
      let after : State T = shown (record { words = s.words; homes = s.homes; views = views }) in
      let same : after ≡ record st { owners = slice_set (slice_set st.owners id (owner_of guest)) other Spent } = state_is _ _ refl refl publisher owners (ap (λ k. grants - k) same_lefts) noted in
      record {
        cell = h.cell;
        shows = subst (λ x. Shows x h.cell) (sym same) (moved st h.cell id other (owner_of guest) spent there o.apart o.plain h.shows);
        history = h.history;
        name = h.name;
        few = omega (arith, same_lefts, h.few);
        homes = λ place home e. home_stays spots h.name st after place home
            (λ q. ap (λ (x : State T). x.publisher) same ∙ q)
            (λ i q. ap (λ (x : State T). slice_get x.owners i) same ∙ fading_stays st id other (owner_of guest) place spent there o.apart o.plain i q)
            (h.homes place home e);
        knows = λ j seen e. ⊎_elim
            (λ (t : (j ≡ other) × (Gone ≡ seen)). subst (Knows spots h.name h.cell s.homes) t.1 tt)
            (λ (t : (j ≢ other) × (get_elem? middle j ≡ some seen)). ⊎_elim
            (λ (u : (j ≡ id) × (both ≡ seen)). subst (Knows spots h.name h.cell s.homes) u.1 o.knows)
            (λ (u : (j ≢ id) × (get_elem? s.views j ≡ some seen)). h.knows j seen u.1)
            (at_set s.views id j both seen t.1))
            (at_set middle other j Gone seen e);
        first = (o.first.0, set_else middle other 0 Gone (λ e. o.elsewhere (sym e)) ∙ o.first.1, o.first.2 (record { words = s.words; homes = s.homes; views = views }) refl refl same_reads);
        only = λ j q e. ⊎_elim
            (λ (t : (j ≡ other) × (Gone ≡ Publishes q)). absurd (let wrong = t.1 in cc))
            (λ (t : (j ≢ other) × (get_elem? middle j ≡ some (Publishes q))). ⊎_elim
            (λ (u : (j ≡ id) × (both ≡ Publishes q)). u.0 ∙ o.only q u.1)
            (λ (u : (j ≢ id) × (get_elem? s.views j ≡ some (Publishes q))). h.only j q u.1)
            (at_set s.views id j both (Publishes q) t.1))
            (at_set middle other j Gone (Publishes q) e);
      }

  -- the publisher's count of readers, when nothing else has changed
  counts_as : (s : Board T) (buried : ℕ → Bool) (p : Publishing T) → Counts buried s p → (board : Board T) → board.words ≡ s.words → board.homes ≡ s.homes → reads board.views ≡ reads s.views → Counts buried board p
  counts_as s buried p counts board words homes same =
      record {
        readers = counts.readers ∙ sym same;
        guests = counts.guests;
        sunk = counts.sunk;
        fixed = λ word e. ((counts.fixed word e).0, ap (λ w. get_or w 0 0) words ∙ (counts.fixed word e).1);
        free = λ word slot e how. subst (λ w. AreFree w board.homes (slot_of word) p.swept) (sym words) (subst (λ l. AreFree s.words l (slot_of word) p.swept) (sym homes) (counts.free word slot e how));
        spare = subst (λ w. AllFree w board.homes p.found) (sym words) (subst (λ l. AllFree s.words l p.found) (sym homes) counts.spare);
      }

  -- a reader takes an owner in, weak or strong
  receives : (id other : ℕ) (r : Reading T) (guest : View T) (hold : Hold T) → r.share ≡ None → ((p : Publishing T) → guest ≡ Publishes p → ⊥) → left_of guest ≡ 0 → read_of guest ≡ 0 → owner_of guest ≡ hold_owner hold → Plain (owner_of guest)
      → ((s : Board T) → (h : Holds begins follows spots s) → Knows spots h.name h.cell s.homes guest → HoldIs s.homes h.name h.cell.published hold)
      → Joins (Holds begins follows spots) id (Reads r) other guest (Hosts r hold) Gone
  receives id other r guest hold whole not_publishes none_left none_read gets plain has s h at apart there =
      let known = h.knows id (Reads r) at in
      let before : get_elem? s.views other ≡ some guest = sym (set_else s.views id other (Hosts r hold) apart) ∙ there in
      let first = not_first s h id (Reads r) at (λ p e. cc) in
      merged s h id other (Reads r) guest (Hosts r hold) (record {
        at = at;
        there = before;
        apart = apart;
        how = refl;
        noted = refl;
        left = refl;
        read = refl;
        none_left = none_left;
        none_read = none_read;
        spent = ap (λ (x : Option (Mark T)). holder x) whole;
        gets = sym gets;
        plain = plain;
        knows = (known.0, known.1, whole, known.3, has s h (h.knows other guest before));
        elsewhere = not_first s h other guest before not_publishes;
        first = (h.first.0, set_else s.views id 0 (Hosts r hold) (λ e. first (sym e)) ∙ h.first.1, counts_as s h.cell.buried h.first.0 h.first.2);
        only = λ p e. absurd (let wrong = e in cc);
      })

  pub receives_once : (id other : ℕ) (r : Reading T) (mark : Mark T) → r.share ≡ None → Joins (Holds begins follows spots) id (Reads r) other (Has mark) (Hosts r (Once mark)) Gone
  receives_once id other r mark whole = receives id other r (Has mark) (Once mark) whole (λ p e. cc) refl refl refl (record { unburying = λ slot e. cc; uncharged = refl }) (λ s h is. is)

  pub receives_loose : (id other : ℕ) (r : Reading T) (tie : Tie T) → r.share ≡ None → Joins (Holds begins follows spots) id (Reads r) other (HasWeakly tie) (Hosts r (Loose tie false)) Gone
  receives_loose id other r tie whole = receives id other r (HasWeakly tie) (Loose tie false) whole (λ p e. cc) refl refl refl (record { unburying = λ slot e. cc; uncharged = refl }) (λ s h is. is)

  -- the publisher takes an owner in
  pub shares : (id other : ℕ) (p : Publishing T) (mark : Mark T) → p.share ≡ None → Joins (Holds begins follows spots) id (Publishes p) other (Has mark) (Publishes (record p { share = Some (Once mark) })) Gone
  shares id other p mark whole s h at apart there =
      let both : View T = Publishes (record p { share = Some (Once mark) }) in
      let known = h.knows id (Publishes p) at in
      let first : id ≡ 0 = h.only id p at in
      let before : get_elem? s.views other ≡ some (Has mark) = sym (set_else s.views id other both apart) ∙ there in
      let here : get_elem? s.views 0 ≡ some (Publishes p) = ap (get_elem? s.views) (sym first) ∙ at in
      let counts = knows_publisher begins follows spots s h p here in
      merged s h id other (Publishes p) (Has mark) both (record {
        at = at;
        there = before;
        apart = apart;
        how = refl;
        noted = refl;
        left = refl;
        read = refl;
        none_left = refl;
        none_read = refl;
        spent = ap (λ (x : Option (Hold T)). held_by x) whole;
        gets = refl;
        plain = record { unburying = λ slot e. cc; uncharged = refl };
        knows = (known.0, known.1, h.knows other (Has mark) before, known.3);
        elsewhere = not_first s h other (Has mark) before (λ q e. cc);
        first = (
          record p { share = Some (Once mark) },
          ap (get_elem? (set s.views id both)) (sym first) ∙ set_here s.views id both (got_within s.views id (Publishes p) at),
          λ board words homes same.
              let c = counts_as s h.cell.buried p counts board words homes same in
              record { readers = c.readers; guests = c.guests; sunk = c.sunk; fixed = c.fixed; free = c.free; spare = c.spare },
        );
        only = λ q e. first;
      })
