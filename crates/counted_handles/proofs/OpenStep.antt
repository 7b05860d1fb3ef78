-- The two looks at W that open a cell keep the rule.
use Rattle.std.proofs.Common.{◌≡◌, ◌≢◌, refl, sym, ap, ◌∙◌, subst, ℕ, zero, suc, inl, inr, ⊎_elim, List, [], ◌∷◌, length, get_or, set, arith, Some, None, replicate, length-set}
use Rattle.std.specs.List.{slice_get}
use Rattle.std.proofs.lemmas.List.Sums.{sum_by-cons}
use mathlib.Core.Option as maybe
use mathlib.Core.Option.{none, some, some-injective, some-ne-none}
use lib.ListN.{get_elem?}
use Rattle.atomic_table.specs.Table.{Allows, takes, gives}
use Rattle.atomic_table.proofs.Lists.{at_set, set_else}
use Rattle.cell_core.proofs.BeginShows.{begun_shows}
use Rattle.cell_core.specs.Cell.{start}
use Rattle.cell_core.specs.Shows.{Rest, Plan, Shows, InCharge, OwnerIs}
use Rattle.cell_core.specs.Shows.Rest.{fading, outlived, closing, closed}
use Rattle.cell_core.specs.Words.{State, slots, grants, begun, bulk, first_slot, free_slot, free_word}
use Rattle.cell_core.specs.declared.words.Owner.{Owner}
use Rattle.cell_core.specs.declared.words.Owner.TheVariants.{Spent}
use Rattle.counted_handles.specs.declared.view.Publishing.{Publishing}
use Rattle.counted_handles.specs.declared.view.View.{View}
use Rattle.counted_handles.specs.declared.view.View.TheVariants.{Begin, Began, Publishes}
use Rattle.counted_handles.specs.Shown.{Room, Board, version_at, slots_in, lefts, left_of, shown}
use Rattle.counted_handles.specs.Ruled.{RoomSpot, HomeIs, IsShared, RestIsFree, Knows, Holds, Ruled, stake_of, mark_of, first_version, first_words, free_words}
use Rattle.counted_handles.specs.Tells.{IsOpened, Offered, opener}
use Rattle.counted_handles.proofs.Lists.{one_there}
use Rattle.counted_handles.proofs.Owners.{owners_as}
use Rattle.counted_handles.proofs.Frames.{state_is}

-- slots that nobody has used
frees_in : {T : Type 0} (count : ℕ) (homes : List (maybe.Option (Room T))) → length homes ≡ count → ((slot : ℕ) (home : maybe.Option (Room T)) → get_elem? homes slot ≡ some home → version_at home ≡ None) → slots_in (free_words count) homes ≡ replicate count free_slot
frees_in zero homes size empty = refl
frees_in (suc count) [] size empty = absurd (omega (arith, size))
frees_in {T} (suc count) (home ∷ homes) size empty =
    let rest = frees_in count homes (omega (arith, size)) (λ slot. empty (suc slot)) in
    λ i. record { shares = free_word; weak = 1; version = empty 0 home refl i } ∷ rest i

-- the places of a table that begins, by its first one
first_home : {T : Type 0} (homes : List (maybe.Option (Room T))) (room : Room T) → length homes ≡ slots → (rest : List (maybe.Option (Room T))) × (set homes 0 (some room) ≡ some room ∷ rest) × (length rest ≡ 63) × ((slot : ℕ) → get_elem? rest slot ≡ get_elem? homes (suc slot))
first_home [] room size = absurd (omega (arith, size))
first_home (home ∷ homes) room size = (homes, refl, omega (arith, size), λ slot. refl)

-- the one seat of a cell that begins
only_spent : {T : Type 0} (plan : Plan) (value : T) (i : ℕ) (how : Owner) → slice_get (Spent ∷ []) i ≡ Some how → OwnerIs (start value) plan i how
only_spent plan value zero how e = subst (λ x. OwnerIs (start value) plan 0 x) (let same : Spent ≡ how = (let q = e in cc) in same) tt
only_spent plan value (suc i) how e = absurd (let wrong = e in cc)

-- nobody is in charge of a slot where there is no owner
none_charged : (slot : ℕ) (rest : Rest) → InCharge [] slot rest → InCharge (Spent ∷ []) slot rest
none_charged slot (fading k) c = absurd (let wrong = c in cc)
none_charged slot outlived c = c
none_charged slot (closing k) c = absurd (let wrong = c in cc)
none_charged slot (closed k) c = absurd (let wrong = c in cc)

module _ {T : Type 0} (spots : List (RoomSpot T)) (value : T) (name : ℕ) (spot : RoomSpot T) where
  only_knows : (homes : List (maybe.Option (Room T))) (j : ℕ) (view : View T) → get_elem? (Publishes (opener value name spot) ∷ []) j ≡ some view → Knows spots name (start value) homes view
  only_knows homes zero view e = subst (Knows spots name (start value) homes) (some-injective (Publishes (opener value name spot)) view e) (refl, refl, tt, tt)
  only_knows homes (suc j) view e = absurd (some-ne-none view (sym e))

  only_first : (j : ℕ) (p : Publishing T) → get_elem? (Publishes (opener value name spot) ∷ []) j ≡ some (Publishes p) → j ≡ 0
  only_first zero p e = refl
  only_first (suc j) p e = absurd (some-ne-none (Publishes p) (sym e))

module _ {T : Type 0} (begins : T → Type 0) (follows : T → T → Type 0) (spots : List (RoomSpot T)) where
  pub opens : (value : T) → Allows (Ruled begins follows spots) slots 0 (Begin value, []) 0 (λ n. n) (λ found me. IsOpened value me)
  opens value s (inl o) size at bound =
      let firsts : Begin o.value ≡ Begin value = one_there s.views 0 (Begin o.value) (Begin value) (ap (λ l. get_elem? l 0) o.views) at in
      let values : o.value ≡ value = (let e = firsts in cc) in
      let spot : RoomSpot T = o.lies.0 in (
        Began spot,
        takes 0 o.room,
        o.home,
        inr (inl (record {
          words = ap (λ w. set w 0 (get_or w 0 0)) o.words;
          size = length-set s.homes 0 none ∙ o.size;
          spot = spot;
          views = ap (λ l. set l 0 (Began spot)) o.views;
          lies = o.lies.1;
          others = λ slot home l e. o.others slot home l (sym (set_else s.homes 0 slot none (λ q. omega (arith, q, l))) ∙ e);
        })),
        record { spot = spot; room = o.room; me_is = refl; lies = o.lies.2; version = o.version ∙ ap (λ v. Some (first_version v)) values; whole = o.whole },
      )
  opens value s (inr (inl o)) size at bound = absurd (let wrong : Began o.spot ≡ Begin value = one_there s.views 0 (Began o.spot) (Begin value) (ap (λ l. get_elem? l 0) o.views) at in cc)
  opens value s (inr (inr (inl h))) size at bound = absurd (h.knows 0 (Begin value) at)
  opens value s (inr (inr (inr ended))) size at bound = absurd (ended.quiet 0 (Begin value) at)

  -- a cell with one value published
  offered : (value : T) (name life tally : ℕ) (spot : RoomSpot T) (room : Room T) (homes : List (maybe.Option (Room T))) → length homes ≡ slots → begins value → slice_get spots 0 ≡ Some spot → RestIsFree spots homes → room.at ≡ spot.at → room.value ≡ Some (first_version value)
      → room.stake ≡ stake_of (mark_of name 0 (first_version value) life tally) ∷ []
      → Holds begins follows spots (record { words = first_words; homes = set homes 0 (some room); views = Publishes (opener value name spot) ∷ [] })
  offered value name life tally spot room homes size begun_is lies_at others lies full stake =
      let made = first_home homes room size in
      let rest : List (maybe.Option (Room T)) = made.0 in
      let owners : List Owner = Spent ∷ [] in
      let state : State T = record (begun value) { owners = owners } in
      let shows : Shows state (start value) = owners_as (begun value) (start value) owners (begun_shows value) (record {
        held_as = λ j. refl;
        weak_as = λ j. refl;
        burying = λ i slot q. absurd (let wrong = q in cc);
        charge = none_charged;
        owner_is = only_spent (begun_shows value).plan value;
      }) in
      let lefts_are : lefts (Publishes (opener value name spot) ∷ []) ≡ grants = (let e = sum_by-cons left_of (Publishes (opener value name spot)) [] in omega (arith, e)) in
      let table : slots_in (bulk ∷ 1 ∷ free_words 63) (set homes 0 (some room)) ≡ first_slot value ∷ replicate 63 free_slot =
      ap (slots_in (bulk ∷ 1 ∷ free_words 63)) made.1
      ∙ (λ i. record { shares = bulk; weak = 1; version = full i } ∷ frees_in 63 rest made.2 (λ slot home e. let free = others (suc slot) home (omega arith) (sym (made.3 slot) ∙ e) in ap version_at free.1 ∙ free.3) i) in
      let after : State T = shown (record { words = first_words; homes = set homes 0 (some room); views = Publishes (opener value name spot) ∷ [] }) in
      let same : after ≡ state = state_is _ _ refl table refl refl (omega (arith, lefts_are)) refl in
      record {
        cell = start value;
        shows = subst (λ x. Shows x (start value)) (sym same) shows;
        history = (begun_is, tt);
        name = name;
        few = omega (arith, lefts_are);
        homes = λ place home e. ⊎_elim
            (λ (t : (place ≡ 0) × (some room ≡ home)).
            subst (λ x. HomeIs spots name after place x) t.1 (subst (λ k. HomeIs spots name after k (some room)) (sym t.0)
            ((spot, lies_at, lies), subst (λ v. IsShared name 0 v room.stake) (sym full) (life, tally, stake))))
            (λ (t : (place ≢ 0) × (get_elem? homes place ≡ some home)).
            let free = others place home (omega (arith, t.0)) t.1 in
            subst (λ x. HomeIs spots name after place x) (sym free.1) (free.2, subst (λ v. IsShared name place v free.0.stake) (sym free.3) free.4))
            (at_set homes 0 place (some room) home e);
        knows = λ j view e. only_knows spots value name spot (set homes 0 (some room)) j view e;
        first = (opener value name spot, refl, record { readers = refl; guests = tt; sunk = tt; fixed = λ w e. absurd (let wrong = e in cc); free = λ w k e. absurd (let wrong = e in cc); spare = tt });
        only = λ j p e. only_first spots value name spot j p e;
      }

  pub offers : (value : T) (name life tally : ℕ) (spot : RoomSpot T) (room : Room T) → begins value → room.at ≡ spot.at → room.value ≡ Some (first_version value) → room.stake ≡ stake_of (mark_of name 0 (first_version value) life tally) ∷ []
      → Allows (Ruled begins follows spots) slots 0 (Began spot, (0, room) ∷ []) 0 (λ n. n) (λ found me. Offered value name spot me)
  offers value name life tally spot room begun_is lies full stake s (inl o) size at bound = absurd (let wrong : Begin o.value ≡ Began spot = one_there s.views 0 (Begin o.value) (Began spot) (ap (λ l. get_elem? l 0) o.views) at in cc)
  offers value name life tally spot room begun_is lies full stake s (inr (inl o)) size at bound =
      let firsts : Began o.spot ≡ Began spot = one_there s.views 0 (Began o.spot) (Began spot) (ap (λ l. get_elem? l 0) o.views) at in
      let same_spot : o.spot ≡ spot = (let e = firsts in cc) in
      let lies_at : slice_get spots 0 ≡ Some spot = o.lies ∙ ap Some same_spot in
      let holds = offered value name life tally spot room s.homes o.size begun_is lies_at o.others lies full stake in
      let words : set s.words 0 (get_or s.words 0 0) ≡ first_words = ap (λ w. set w 0 (get_or w 0 0)) o.words in
      let views : set s.views 0 (Publishes (opener value name spot)) ≡ Publishes (opener value name spot) ∷ [] = ap (λ l. set l 0 (Publishes (opener value name spot))) o.views in (
        Publishes (opener value name spot),
        gives,
        tt,
        inr (inr (inl (subst (λ (b : Board T). Holds begins follows spots b) (λ i. record { words = sym words i; homes = set s.homes 0 (some room); views = sym views i }) holds))),
        refl,
      )
  offers value name life tally spot room begun_is lies full stake s (inr (inr (inl h))) size at bound = absurd (h.knows 0 (Began spot) at)
  offers value name life tally spot room begun_is lies full stake s (inr (inr (inr ended))) size at bound = absurd (ended.quiet 0 (Began spot) at)
