-- A seat that is cut in two keeps the rule.
use Rattle.std.proofs.Common.{◌≡◌, ◌≢◌, refl, sym, ap, ◌∙◌, subst, ℕ, zero, suc, ◌+◌, ◌-◌, ◌≤◌, ⊎_elim, Bool, false, List, [], ◌∷◌, ◌++◌, map, set, drop, arith, Option, Some, None, append-nil}
use Rattle.std.specs.List.{slice_get, slice_set}
use Rattle.std.proofs.lemmas.List.Sums.{sum_by_push}
use mathlib.Core.Option.{some, some-injective, some-ne-none}
use lib.ListN.{get_elem?}
use Rattle.atomic_table.specs.Table.{Splits}
use Rattle.atomic_table.proofs.Lists.{at_set, at_snoc, at_longer, set_here, set_else}
use Rattle.cell_core.proofs.SeatLemmas.{get_push_old}
use Rattle.cell_core.proofs.FrameLemmas.{charged, seat_stays}
use Rattle.cell_core.specs.Shows.{Shows}
use Rattle.cell_core.specs.Words.{State, grants}
use Rattle.cell_core.specs.declared.words.Owner.{Owner}
use Rattle.cell_core.specs.declared.words.Owner.TheVariants.{Holding, Weakly, Both, Burying, Fading, Spent}
use Rattle.counted_handles.specs.declared.view.Mark.{Mark}
use Rattle.counted_handles.specs.declared.view.Reading.{Reading}
use Rattle.counted_handles.specs.declared.view.Publishing.{Publishing}
use Rattle.counted_handles.specs.declared.view.Hold.{Hold}
use Rattle.counted_handles.specs.declared.view.Hold.TheVariants.{Once, Double, Loose, Mixed}
use Rattle.counted_handles.specs.declared.view.Tie.{Tie}
use Rattle.counted_handles.specs.declared.view.View.{View}
use Rattle.counted_handles.specs.declared.view.View.TheVariants.{Publishes, Reads, Hosts, Has, HasWeakly}
use Rattle.counted_handles.specs.Shown.{Board, holder, held_by, owner_of, how_of, publisher_in, noted_of, noted_in, left_of, read_of, lefts, reads, shown}
use Rattle.counted_handles.specs.Ruled.{RoomSpot, Begins, ShareIs, HoldIs, HeldIs, AreGone, Knows, AreGuests, AreSunk, Counts, Holds}
use Rattle.counted_handles.specs.Cuts.{reader_of, met_by, gone_of, with_reader, met_guest, without_guest}
use Rattle.counted_handles.proofs.Lists.{got_map, got_within, map_set, map_push, sum_set}
use Rattle.counted_handles.proofs.Owners.{Plain, Parting, passing, parted, parting_twice, parting_both, parting_noted}
use Rattle.counted_handles.proofs.Frames.{home_stays, not_first, knows_publisher, state_is}

publisher_split : {T : Type 0} (views : List (View T)) (id : ℕ) (old left right : View T) → get_elem? views id ≡ some old → how_of left ≡ how_of old → publisher_in (set views id left ++ right ∷ []) ≡ publisher_in views
publisher_split [] id old left right at how = absurd (some-ne-none old (sym at))
publisher_split {T} (v ∷ views) zero old left right at how = how ∙ ap (λ (x : View T). how_of x) (sym (some-injective v old at))
publisher_split (v ∷ views) (suc id) old left right at how = refl

noted_split : {T : Type 0} (views : List (View T)) (id : ℕ) (old left right : View T) → get_elem? views id ≡ some old → noted_of left ≡ noted_of old → noted_in (set views id left ++ right ∷ []) ≡ noted_in views
noted_split [] id old left right at noted = absurd (some-ne-none old (sym at))
noted_split {T} (v ∷ views) zero old left right at noted = noted ∙ ap (λ (x : View T). noted_of x) (sym (some-injective v old at))
noted_split (v ∷ views) (suc id) old left right at noted = refl

-- who holds a version, or has nothing, is to do nothing in a slot
plain_holding : (how : Owner) (number place : ℕ) → how ≡ Holding number place → Plain how
plain_holding how number place is = record { unburying = λ slot e. (let wrong : Holding number place ≡ Burying slot = sym is ∙ e in cc); uncharged = ap charged is }

plain_spent : (how : Owner) → how ≡ Spent → Plain how
plain_spent how is = record { unburying = λ slot e. (let wrong : Spent ≡ Burying slot = sym is ∙ e in cc); uncharged = ap charged is }

module _ {T : Type 0} (begins : T → Type 0) (follows : T → T → Type 0) (spots : List (RoomSpot T)) where
  -- what a cut owes
  pub record Cut (s : Board T) (h : Holds begins follows spots s) (id : ℕ) (old left right : View T) : Type 0 where
    pub at : get_elem? s.views id ≡ some old
    pub how : how_of left ≡ how_of old
    pub noted : noted_of left ≡ noted_of old
    pub grants_are : left_of left + left_of right ≡ left_of old
    pub parting : Parting T (owner_of old) (owner_of left) (owner_of right)
    pub left_knows : Knows spots h.name h.cell s.homes left
    pub right_knows : Knows spots h.name h.cell s.homes right
    pub first : (p : Publishing T) × (get_elem? (set s.views id left ++ right ∷ []) 0 ≡ some (Publishes p)) × Counts h.cell.buried (record { words = s.words; homes = s.homes; views = set s.views id left ++ right ∷ [] }) p
    pub only_left : (p : Publishing T) → left ≡ Publishes p → id ≡ 0
    pub only_right : (p : Publishing T) → right ≡ Publishes p → ⊥

  pub cut : (s : Board T) (h : Holds begins follows spots s) (id : ℕ) (old left right : View T) → Cut s h id old left right → Holds begins follows spots (record { words = s.words; homes = s.homes; views = set s.views id left ++ right ∷ [] })
  cut s h id old left right o =
      let st : State T = shown s in
      let sums = sum_set left_of s.views id old left o.at in
      let pushed = sum_by_push left_of (set s.views id left) right in
      let seat : slice_get st.owners id ≡ Some (owner_of old) = got_map owner_of s.views id old o.at in
      let owners : map owner_of (set s.views id left ++ right ∷ []) ≡ slice_set st.owners id (owner_of left) ++ owner_of right ∷ [] =
      map_push owner_of (set s.views id left) right ∙ ap (λ l. l ++ owner_of right ∷ []) (map_set owner_of s.views id left) in
      let after : State T = shown (record { words = s.words; homes = s.homes; views = set s.views id left ++ right ∷ [] }) in
      let same_lefts : lefts (set s.views id left ++ right ∷ []) ≡ lefts s.views = omega (arith, sums, pushed, o.grants_are) in
      let same : after ≡ record st { owners = slice_set st.owners id (owner_of left) ++ owner_of right ∷ [] } = state_is _ _ refl refl (publisher_split s.views id old left right o.at o.how) owners (ap (λ k. grants - k) same_lefts) (noted_split s.views id old left right o.at o.noted) in
      record {
        cell = h.cell;
        shows = subst (λ x. Shows x h.cell) (sym same) (parted st h.cell id (owner_of old) (owner_of left) (owner_of right) seat o.parting.plain o.parting.joint (λ plan is. o.parting.one_is h.cell plan id is) (λ plan k is. o.parting.two_is h.cell plan id k is) h.shows);
        history = h.history;
        name = h.name;
        few = omega (arith, same_lefts, h.few);
        homes = λ place home e. home_stays spots h.name st after place home
            (λ q. ap (λ (x : State T). x.publisher) same ∙ q)
            (λ i q. ap (λ (x : State T). slice_get x.owners i) same ∙ get_push_old (slice_set st.owners id (owner_of left)) (owner_of right) (Fading place) i (seat_stays st.owners id (owner_of old) (owner_of left) (Fading place) seat (λ w. (let wrong : None ≡ Some place = sym o.parting.plain.uncharged ∙ ap charged w in cc)) i q))
            (h.homes place home e);
        knows = λ j view e. ⊎_elim
            (λ (t : get_elem? (set s.views id left) j ≡ some view). ⊎_elim
            (λ (u : (j ≡ id) × (left ≡ view)). subst (Knows spots h.name h.cell s.homes) u.1 o.left_knows)
            (λ (u : (j ≢ id) × (get_elem? s.views j ≡ some view)). h.knows j view u.1)
            (at_set s.views id j left view t))
            (λ (t : right ≡ view). subst (Knows spots h.name h.cell s.homes) t o.right_knows)
            (at_snoc (set s.views id left) right view j e);
        first = o.first;
        only = λ j p e. ⊎_elim
            (λ (t : get_elem? (set s.views id left) j ≡ some (Publishes p)). ⊎_elim
            (λ (u : (j ≡ id) × (left ≡ Publishes p)). u.0 ∙ o.only_left p u.1)
            (λ (u : (j ≢ id) × (get_elem? s.views j ≡ some (Publishes p))). h.only j p u.1)
            (at_set s.views id j left (Publishes p) t))
            (λ (t : right ≡ Publishes p). absurd (o.only_right p t))
            (at_snoc (set s.views id left) right (Publishes p) j e);
      }

  -- how many readers there are behind a cut
  readers_cut : (s : Board T) (id : ℕ) (old left right : View T) → get_elem? s.views id ≡ some old → reads (set s.views id left ++ right ∷ []) + read_of old ≡ reads s.views + read_of left + read_of right
  readers_cut s id old left right at =
      let sums = sum_set read_of s.views id old left at in
      let pushed = sum_by_push read_of (set s.views id left) right in
      omega (arith, sums, pushed)

  -- a share goes off a reader
  pub splits_reader : (id : ℕ) (r : Reading T) (mark : Mark T) → r.share ≡ Some mark → Splits (Holds begins follows spots) id (Reads r) (Reads (record r { share = None })) (Has mark)
  splits_reader id r mark is s h at =
      let known = h.knows id (Reads r) at in
      let first = not_first s h id (Reads r) at (λ p e. cc) in
      let readers = readers_cut s id (Reads r) (Reads (record r { share = None })) (Has mark) at in
      let counts = h.first.2 in
      let owner : owner_of (Reads r) ≡ Holding mark.number mark.slot = ap (λ (x : Option (Mark T)). holder x) is in
      cut s h id (Reads r) (Reads (record r { share = None })) (Has mark) (record {
        at = at;
        how = refl;
        noted = refl;
        grants_are = omega arith;
        parting = passing _ _ _ refl (sym owner) (plain_holding _ mark.number mark.slot owner);
        left_knows = (known.0, known.1, tt, known.3);
        right_knows = subst (ShareIs s.homes h.name) is known.2;
        first = (
          h.first.0,
          at_longer (set s.views id (Reads (record r { share = None }))) (Has mark ∷ []) 0 (Publishes h.first.0) (set_else s.views id 0 (Reads (record r { share = None })) (λ e. first (sym e)) ∙ h.first.1),
          record { readers = omega (arith, readers, counts.readers); guests = counts.guests; sunk = counts.sunk; fixed = counts.fixed; free = counts.free; spare = counts.spare },
        );
        only_left = λ p e. absurd (let wrong = e in cc);
        only_right = λ p e. cc;
      })

  -- a share goes off the publisher
  pub splits_publisher : (id : ℕ) (p : Publishing T) (mark : Mark T) → p.share ≡ Some (Once mark) → Splits (Holds begins follows spots) id (Publishes p) (Publishes (record p { share = None })) (Has mark)
  splits_publisher id p mark is s h at =
      let known = h.knows id (Publishes p) at in
      let first : id ≡ 0 = h.only id p at in
      let here : get_elem? s.views 0 ≡ some (Publishes p) = ap (get_elem? s.views) (sym first) ∙ at in
      let counts = knows_publisher begins follows spots s h p here in
      let left : View T = Publishes (record p { share = None }) in
      let readers = readers_cut s id (Publishes p) left (Has mark) at in
      let owner : owner_of (Publishes p) ≡ Holding mark.number mark.slot = ap (λ (x : Option (Hold T)). held_by x) is in
      cut s h id (Publishes p) left (Has mark) (record {
        at = at;
        how = refl;
        noted = refl;
        grants_are = omega arith;
        parting = passing _ _ _ refl (sym owner) (plain_holding _ mark.number mark.slot owner);
        left_knows = (known.0, known.1, tt, known.3);
        right_knows = subst (HeldIs s.homes h.name h.cell.published) is known.2;
        first = (
          record p { share = None },
          at_longer (set s.views id left) (Has mark ∷ []) 0 left (ap (get_elem? (set s.views id left)) (sym first) ∙ set_here s.views id left (got_within s.views id (Publishes p) at)),
          record { readers = omega (arith, readers, counts.readers); guests = counts.guests; sunk = counts.sunk; fixed = counts.fixed; free = counts.free; spare = counts.spare },
        );
        only_left = λ q e. first;
        only_right = λ q e. cc;
      })

  -- a reader with some of the publisher's grants goes off it, which then has these to give back
  splits_off : (id : ℕ) (p : Publishing T) (r : Reading T) (guests : List (Reading T)) → p.share ≡ None → r.share ≡ None → r.left ≤ p.left → (AreGuests p.name p.published p.guests → (r.name ≡ p.name) × Begins r.seen p.published × AreGuests p.name p.published guests)
      → ((buried : ℕ → Bool) → AreSunk buried p.guests → AreGone buried r.gone × AreSunk buried guests)
      → Splits (Holds begins follows spots) id (Publishes p) (Publishes (without_guest p r guests)) (Reads r)
  splits_off id p r guests whole its_whole few are sunk s h at =
      let known = h.knows id (Publishes p) at in
      let first : id ≡ 0 = h.only id p at in
      let here : get_elem? s.views 0 ≡ some (Publishes p) = ap (get_elem? s.views) (sym first) ∙ at in
      let counts = knows_publisher begins follows spots s h p here in
      let its = are counts.guests in
      let gone = sunk h.cell.buried counts.sunk in
      let left : View T = Publishes (without_guest p r guests) in
      let readers = readers_cut s id (Publishes p) left (Reads r) at in
      let owner : owner_of (Publishes p) ≡ Spent = ap (λ (x : Option (Hold T)). held_by x) whole in
      cut s h id (Publishes p) left (Reads r) (record {
        at = at;
        how = refl;
        noted = refl;
        grants_are = omega (arith, few);
        parting = passing _ _ _ owner (ap (λ (x : Option (Mark T)). holder x) its_whole ∙ sym owner) (plain_spent _ owner);
        left_knows = (known.0, known.1, known.2, known.3);
        right_knows = (its.0 ∙ known.0, subst (Begins r.seen) known.1 its.1, subst (ShareIs s.homes h.name) (sym its_whole) tt, gone.0);
        first = (
          without_guest p r guests,
          at_longer (set s.views id left) (Reads r ∷ []) 0 left (ap (get_elem? (set s.views id left)) (sym first) ∙ set_here s.views id left (got_within s.views id (Publishes p) at)),
          record { readers = omega (arith, readers, counts.readers); guests = its.2; sunk = gone.1; fixed = λ w e. absurd (let wrong = e in cc); free = λ w k e. absurd (let wrong = e in cc); spare = counts.spare },
        );
        only_left = λ q e. first;
        only_right = λ q e. cc;
      })

  -- a new reader
  pub splits_reading : (id n : ℕ) (p : Publishing T) → p.share ≡ None → n ≤ p.left → Splits (Holds begins follows spots) id (Publishes p) (Publishes (with_reader p n)) (reader_of p n)
  splits_reading id n p whole few =
      splits_off id p (record { seen = p.published; share = None; left = n; gone = []; name = p.name }) p.guests whole refl few (λ are. (refl, ([], append-nil p.published), are)) (λ buried sunk. (tt, sunk))

  -- the reader taken in last
  pub splits_guest : (id : ℕ) (p : Publishing T) (r : Reading T) (rest : List (Reading T)) → p.share ≡ None → p.guests ≡ r ∷ rest → r.share ≡ None → r.left ≤ p.left → Splits (Holds begins follows spots) id (Publishes p) (Publishes (without_guest p r rest)) (Reads r)
  splits_guest id p r rest whole is its_whole few =
      splits_off id p r rest whole its_whole few (λ are. let its = subst (AreGuests p.name p.published) is are in (its.0.0, its.0.2, its.1)) (λ buried sunk. let its = subst (AreSunk buried) is sunk in (its.0, its.1))

  guests_drop : (name : ℕ) (published : List T) (guests : List (Reading T)) → AreGuests name published guests → AreGuests name published (drop 1 guests)
  guests_drop name published [] are = tt
  guests_drop name published (r ∷ rest) are = are.1

  sunk_first : (buried : ℕ → Bool) (guests : List (Reading T)) → AreSunk buried guests → AreGone buried (gone_of guests) × AreSunk buried (drop 1 guests)
  sunk_first buried [] sunk = (tt, tt)
  sunk_first buried (r ∷ rest) sunk = (sunk.0, sunk.1)

  -- the reader taken in last, with all grants and all that is published
  pub splits_met : (id : ℕ) (p : Publishing T) → p.share ≡ None → Splits (Holds begins follows spots) id (Publishes p) (Publishes (met_guest p)) (met_by p (gone_of p.guests) p.left)
  splits_met id p whole =
      splits_off id p (record { seen = p.published; share = None; left = p.left; gone = gone_of p.guests; name = p.name }) (drop 1 p.guests) whole refl (omega arith) (λ are. (refl, ([], append-nil p.published), guests_drop p.name p.published p.guests are)) (λ buried sunk. sunk_first buried p.guests sunk)

  -- a weak owner goes off the publisher
  pub splits_untied : (id : ℕ) (p : Publishing T) (mark : Mark T) (tie : Tie T) → p.share ≡ Some (Mixed mark tie) → Splits (Holds begins follows spots) id (Publishes p) (Publishes (record p { share = Some (Once mark) })) (HasWeakly tie)
  splits_untied id p mark tie is s h at =
      let known = h.knows id (Publishes p) at in
      let first : id ≡ 0 = h.only id p at in
      let here : get_elem? s.views 0 ≡ some (Publishes p) = ap (get_elem? s.views) (sym first) ∙ at in
      let counts = knows_publisher begins follows spots s h p here in
      let left : View T = Publishes (record p { share = Some (Once mark) }) in
      let readers = readers_cut s id (Publishes p) left (HasWeakly tie) at in
      let owner : owner_of (Publishes p) ≡ Both mark.number mark.slot = ap (λ (x : Option (Hold T)). held_by x) is in
      let has : HoldIs s.homes h.name h.cell.published (Mixed mark tie) = subst (HeldIs s.homes h.name h.cell.published) is known.2 in
      cut s h id (Publishes p) left (HasWeakly tie) (record {
        at = at;
        how = refl;
        noted = refl;
        grants_are = omega arith;
        parting = subst (λ x. Parting T x (Holding mark.number mark.slot) (Weakly tie.number tie.slot)) (sym owner) (parting_noted mark.number mark.slot tie.number tie.slot has.2.0 has.2.1);
        left_knows = (known.0, known.1, has.0, known.3);
        right_knows = has.1;
        first = (
          record p { share = Some (Once mark) },
          at_longer (set s.views id left) (HasWeakly tie ∷ []) 0 left (ap (get_elem? (set s.views id left)) (sym first) ∙ set_here s.views id left (got_within s.views id (Publishes p) at)),
          record { readers = omega (arith, readers, counts.readers); guests = counts.guests; sunk = counts.sunk; fixed = counts.fixed; free = counts.free; spare = counts.spare },
        );
        only_left = λ q e. first;
        only_right = λ q e. cc;
      })

  -- the publisher beside a seat that is cut in two
  first_beside : (s : Board T) (h : Holds begins follows spots s) (id : ℕ) (old left right : View T) → get_elem? s.views id ≡ some old → id ≢ 0 → read_of left + read_of right ≡ read_of old
      → (p : Publishing T) × (get_elem? (set s.views id left ++ right ∷ []) 0 ≡ some (Publishes p)) × Counts h.cell.buried (record { words = s.words; homes = s.homes; views = set s.views id left ++ right ∷ [] }) p
  first_beside s h id old left right at first same =
      let counts = h.first.2 in
      let readers = readers_cut s id old left right at in (
        h.first.0,
        at_longer (set s.views id left) (right ∷ []) 0 (Publishes h.first.0) (set_else s.views id 0 left (λ e. first (sym e)) ∙ h.first.1),
        record { readers = omega (arith, readers, counts.readers, same); guests = counts.guests; sunk = counts.sunk; fixed = counts.fixed; free = counts.free; spare = counts.spare },
      )

  -- what a reader has gained of an owner that it has taken in goes off it
  pub splits_double : (id : ℕ) (r : Reading T) (mark : Mark T) → Splits (Holds begins follows spots) id (Hosts r (Double mark)) (Hosts r (Once mark)) (Has mark)
  splits_double id r mark s h at =
      let known = h.knows id (Hosts r (Double mark)) at in
      let first = not_first s h id (Hosts r (Double mark)) at (λ p e. cc) in
      cut s h id (Hosts r (Double mark)) (Hosts r (Once mark)) (Has mark) (record {
        at = at;
        how = refl;
        noted = refl;
        grants_are = omega arith;
        parting = parting_twice mark.number mark.slot;
        left_knows = (known.0, known.1, known.2, known.3, known.4);
        right_knows = known.4;
        first = first_beside s h id (Hosts r (Double mark)) (Hosts r (Once mark)) (Has mark) at first refl;
        only_left = λ p e. absurd (let wrong = e in cc);
        only_right = λ p e. cc;
      })

  pub splits_mixed : (id : ℕ) (r : Reading T) (mark : Mark T) (tie : Tie T) → Splits (Holds begins follows spots) id (Hosts r (Mixed mark tie)) (Hosts r (Loose tie false)) (Has mark)
  splits_mixed id r mark tie s h at =
      let known = h.knows id (Hosts r (Mixed mark tie)) at in
      let first = not_first s h id (Hosts r (Mixed mark tie)) at (λ p e. cc) in
      let has : HoldIs s.homes h.name h.cell.published (Mixed mark tie) = known.4 in
      cut s h id (Hosts r (Mixed mark tie)) (Hosts r (Loose tie false)) (Has mark) (record {
        at = at;
        how = refl;
        noted = refl;
        grants_are = omega arith;
        parting = parting_both mark.number mark.slot tie.number tie.slot has.2.0 has.2.1;
        left_knows = (known.0, known.1, known.2, known.3, has.1);
        right_knows = has.0;
        first = first_beside s h id (Hosts r (Mixed mark tie)) (Hosts r (Loose tie false)) (Has mark) at first refl;
        only_left = λ p e. absurd (let wrong = e in cc);
        only_right = λ p e. cc;
      })

  -- and the owner itself
  splits_owner : (id : ℕ) (r : Reading T) (hold : Hold T) (right : View T) → ((s : Board T) → (h : Holds begins follows spots s) → HoldIs s.homes h.name h.cell.published hold → Knows spots h.name h.cell s.homes right) → left_of right ≡ 0 → read_of right ≡ 0 → Parting T (owner_of (Hosts r hold)) Spent (owner_of right) → ((p : Publishing T) → right ≡ Publishes p → ⊥)
      → Splits (Holds begins follows spots) id (Hosts r hold) (Reads r) right
  splits_owner id r hold right knows no_left no_read parting not_publishes s h at =
      let known = h.knows id (Hosts r hold) at in
      let first = not_first s h id (Hosts r hold) at (λ p e. cc) in
      let alone : owner_of (Reads r) ≡ Spent = ap (λ (x : Option (Mark T)). holder x) known.2 in
      cut s h id (Hosts r hold) (Reads r) right (record {
        at = at;
        how = refl;
        noted = refl;
        grants_are = omega (arith, no_left);
        parting = subst (λ x. Parting T (owner_of (Hosts r hold)) x (owner_of right)) (sym alone) parting;
        left_knows = (known.0, known.1, subst (ShareIs s.homes h.name) (sym known.2) tt, known.3);
        right_knows = knows s h known.4;
        first = first_beside s h id (Hosts r hold) (Reads r) right at first (omega (arith, no_read));
        only_left = λ p e. absurd (let wrong = e in cc);
        only_right = not_publishes;
      })

  pub splits_once : (id : ℕ) (r : Reading T) (mark : Mark T) → Splits (Holds begins follows spots) id (Hosts r (Once mark)) (Reads r) (Has mark)
  splits_once id r mark = splits_owner id r (Once mark) (Has mark) (λ s h is. is) refl refl (passing _ _ _ refl refl (record { unburying = λ slot e. cc; uncharged = refl })) (λ p e. cc)

  pub splits_loose : (id : ℕ) (r : Reading T) (tie : Tie T) (seen : Bool) → Splits (Holds begins follows spots) id (Hosts r (Loose tie seen)) (Reads r) (HasWeakly tie)
  splits_loose id r tie seen = splits_owner id r (Loose tie seen) (HasWeakly tie) (λ s h is. is) refl refl (passing _ _ _ refl refl (record { unburying = λ slot e. cc; uncharged = refl })) (λ p e. cc)
