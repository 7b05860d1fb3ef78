-- A reader's seat that the publisher's takes in keeps the rule.
use Rattle.std.proofs.Common.{◌≡◌, ◌≢◌, refl, sym, ap, ◌∙◌, subst, ℕ, ◌+◌, ◌-◌, ⊎_elim, List, ◌∷◌, map, set, arith, Option, Some, None}
use Rattle.std.specs.List.{slice_get}
use mathlib.Core.Option.{some}
use lib.ListN.{get_elem?}
use Rattle.atomic_table.specs.Table.{Joins}
use Rattle.atomic_table.proofs.Lists.{at_set, set_here, set_else}
use Rattle.cell_core.proofs.SeatLemmas.{set_there}
use Rattle.cell_core.specs.Shows.{Shows}
use Rattle.cell_core.specs.Words.{State, grants}
use Rattle.cell_core.specs.declared.words.Owner.TheVariants.{Spent}
use Rattle.counted_handles.specs.declared.view.Mark.{Mark}
use Rattle.counted_handles.specs.declared.view.Reading.{Reading}
use Rattle.counted_handles.specs.declared.view.Publishing.{Publishing}
use Rattle.counted_handles.specs.declared.view.View.{View}
use Rattle.counted_handles.specs.declared.view.View.TheVariants.{Publishes, Reads, Gone}
use Rattle.counted_handles.specs.Shown.{Board, holder, held_by, owner_of, publisher_in, noted_in, left_of, read_of, lefts, shown}
use Rattle.counted_handles.specs.Ruled.{RoomSpot, HomeIs, Begins, Knows, AreGuests, AreSunk, Holds}
use Rattle.counted_handles.specs.Cuts.{lodged}
use Rattle.counted_handles.proofs.Lists.{got_map, got_within, map_set, sum_set, sum_has}
use Rattle.counted_handles.proofs.Frames.{publisher_here, publisher_else, publisher_is, noted_here, noted_else, noted_is, knows_publisher, state_is}

module _ {T : Type 0} (begins : T → Type 0) (follows : T → T → Type 0) (spots : List (RoomSpot T)) where
  -- the publisher with a reader taken in, and those that it is to give back
  abbrev joint : Publishing T → Reading T → List (Reading T) → Publishing T
  joint p r guests = record p { left = p.left + r.left; readers = p.readers - 1; guests = guests }

  joined : (s : Board T) (h : Holds begins follows spots s) (p : Publishing T) (other : ℕ) (r : Reading T) (guests : List (Reading T)) → AreGuests p.name p.published guests → AreSunk h.cell.buried guests → r.share ≡ None → get_elem? s.views 0 ≡ some (Publishes p) → other ≢ 0 → get_elem? s.views other ≡ some (Reads r)
      → Holds begins follows spots (record { words = s.words; homes = s.homes; views = set (set s.views 0 (Publishes (joint p r guests))) other Gone })
  joined s h p other r guests are sunk whole at apart there =
      let st : State T = shown s in
      let both : View T = Publishes (joint p r guests) in
      let middle : List (View T) = set s.views 0 both in
      let views : List (View T) = set middle other Gone in
      let in_middle : get_elem? middle other ≡ some (Reads r) = set_else s.views 0 other both apart ∙ there in
      let known = h.knows 0 (Publishes p) at in
      let counts = knows_publisher begins follows spots s h p at in
      let one = sum_set left_of s.views 0 (Publishes p) both at in
      let two = sum_set left_of middle other (Reads r) Gone in_middle in
      let three = sum_set read_of s.views 0 (Publishes p) both at in
      let four = sum_set read_of middle other (Reads r) Gone in_middle in
      let some_reader = sum_has read_of s.views other (Reads r) there in
      let same_lefts : lefts views ≡ lefts s.views = omega (arith, one, two) in
      let middle_owners : map owner_of middle ≡ st.owners = map_set owner_of s.views 0 both ∙ sym (set_there st.owners 0 (held_by p.share) (got_map owner_of s.views 0 (Publishes p) at)) in
      let spent : slice_get (map owner_of middle) other ≡ Some Spent = got_map owner_of middle other (Reads r) in_middle ∙ ap (λ (x : Option (Mark T)). Some (holder x)) whole in
      let owners : map owner_of views ≡ st.owners = map_set owner_of middle other Gone ∙ sym (set_there (map owner_of middle) other Spent spent) ∙ middle_owners in
      let publisher : publisher_in views ≡ st.publisher = publisher_else middle other Gone apart ∙ publisher_here s.views (Publishes p) both at ∙ sym (publisher_is s.views (Publishes p) at) in
      let noted : noted_in views ≡ st.noted = noted_else middle other Gone apart ∙ noted_here s.views (Publishes p) both at ∙ sym (noted_is s.views (Publishes p) at) in
      let same : shown (record { words = s.words; homes = s.homes; views = views }) ≡ st = state_is _ _ refl refl publisher owners (ap (λ k. grants - k) same_lefts) noted in
      record {
        cell = h.cell;
        shows = subst (λ x. Shows x h.cell) (sym same) h.shows;
        history = h.history;
        name = h.name;
        few = omega (arith, same_lefts, h.few);
        homes = λ place home e. subst (λ x. HomeIs spots h.name x place home) (sym same) (h.homes place home e);
        knows = λ j view e. ⊎_elim
            (λ (t : (j ≡ other) × (Gone ≡ view)). subst (Knows spots h.name h.cell s.homes) t.1 tt)
            (λ (t : (j ≢ other) × (get_elem? middle j ≡ some view)). ⊎_elim
            (λ (u : (j ≡ 0) × (both ≡ view)). subst (Knows spots h.name h.cell s.homes) u.1 (known.0, known.1, known.2, known.3))
            (λ (u : (j ≢ 0) × (get_elem? s.views j ≡ some view)). h.knows j view u.1)
            (at_set s.views 0 j both view t.1))
            (at_set middle other j Gone view e);
        first = (
          joint p r guests,
          set_else middle other 0 Gone (λ e. apart (sym e)) ∙ set_here s.views 0 both (got_within s.views 0 (Publishes p) at),
          record {
            readers = omega (arith, three, four, counts.readers, some_reader.1);
            guests = are;
            sunk = sunk;
            fixed = λ w e. absurd (omega (arith, (counts.fixed w e).0, counts.readers, some_reader.1));
            free = λ w k e q. absurd (omega (arith, (counts.fixed w e).0, counts.readers, some_reader.1));
            spare = counts.spare;
          },
        );
        only = λ j q e. ⊎_elim
            (λ (t : (j ≡ other) × (Gone ≡ Publishes q)). absurd (let wrong = t.1 in cc))
            (λ (t : (j ≢ other) × (get_elem? middle j ≡ some (Publishes q))). ⊎_elim
            (λ (u : (j ≡ 0) × (both ≡ Publishes q)). u.0)
            (λ (u : (j ≢ 0) × (get_elem? s.views j ≡ some (Publishes q))). h.only j q u.1)
            (at_set s.views 0 j both (Publishes q) t.1))
            (at_set middle other j Gone (Publishes q) e);
      }

  -- the same, for a seat known to be the publisher's
  taken_in : (id other : ℕ) (p : Publishing T) (r : Reading T) (guests : List (Reading T)) → ((s : Board T) → (h : Holds begins follows spots s) → get_elem? s.views 0 ≡ some (Publishes p) → get_elem? s.views other ≡ some (Reads r) → AreGuests p.name p.published guests × AreSunk h.cell.buried guests) → r.share ≡ None
      → Joins (Holds begins follows spots) id (Publishes p) other (Reads r) (Publishes (joint p r guests)) Gone
  taken_in id other p r guests all whole s h at apart there =
      let first : id ≡ 0 = h.only id p at in
      let both : View T = Publishes (joint p r guests) in
      let here : get_elem? s.views 0 ≡ some (Publishes p) = ap (get_elem? s.views) (sym first) ∙ at in
      let other_apart : other ≢ 0 = λ e. apart (e ∙ sym first) in
      let before : get_elem? s.views other ≡ some (Reads r) = sym (set_else s.views id other both apart) ∙ there in
      let are = all s h here before in
      subst (λ k. Holds begins follows spots (record { words = s.words; homes = s.homes; views = set (set s.views k both) other Gone })) (sym first) (joined s h p other r guests are.0 are.1 whole here other_apart before)

  pub lodges : (id other : ℕ) (p : Publishing T) (r : Reading T) → r.share ≡ None → Joins (Holds begins follows spots) id (Publishes p) other (Reads r) (Publishes (lodged p r)) Gone
  lodges id other p r whole =
      taken_in id other p r (r ∷ p.guests)
      (λ s h at there.
      let known = h.knows 0 (Publishes p) at in
      let its = h.knows other (Reads r) there in
      let counts = knows_publisher begins follows spots s h p at in
      (((its.0 ∙ sym known.0, whole, subst (Begins r.seen) (sym known.1) its.1), counts.guests), (its.3, counts.sunk)))
      whole
