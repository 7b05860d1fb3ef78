-- A table that is closed when its cell has ended has all places, whole, each where it is told.
use Rattle.std.proofs.Common.{◌≡◌, refl, sym, ap, ◌∙◌, subst, ℕ, zero, suc, ◌<◌, ⊎_elim, List, [], ◌∷◌, length, arith, Some}
use Rattle.std.specs.List.{slice_get}
use Rattle.std.proofs.lemmas.Option.{slice_get_within}
use mathlib.Core.Option as maybe
use mathlib.Core.Option.{none, some, some-injective, some-ne-none}
use lib.ListN.{get_elem?}
use Rattle.atomic_table.specs.Table.{Final, Seen}
use Rattle.counted_handles.specs.declared.view.View.{View}
use Rattle.counted_handles.specs.declared.view.View.TheVariants.{Publishes, Ends, Gone}
use Rattle.counted_handles.specs.Shown.{Room, Board}
use Rattle.counted_handles.specs.Ruled.{RoomSpot, LiesAt, EndedHome, Holds, Ended, Ruled}
use Rattle.raw_slots.specs.Chains.{AreAt}
use Rattle.counted_handles.proofs.Lists.{one_there, within_got}
use Rattle.counted_handles.proofs.Later.{opened}

-- both readings of a list tell one thing
got : {X : Type 0} (xs : List X) (i : ℕ) (x : X) → get_elem? xs i ≡ some x → slice_get xs i ≡ Some x
got [] i x e = absurd (some-ne-none x (sym e))
got {X} (y ∷ xs) zero x e = ap (λ (z : X). Some z) (some-injective y x e)
got (y ∷ xs) (suc i) x e = got xs i x e

-- a place at home, when the first seat has given the last one back
whole_home : {T : Type 0} (spots : List (RoomSpot T)) (views : List (View T)) (slot : ℕ) (home : maybe.Option (Room T)) → get_elem? views 0 ≡ some Gone → EndedHome spots views slot home → (room : Room T) × (home ≡ some room) × LiesAt spots slot room × (room.stake ≡ [])
whole_home spots views slot none at is = absurd (let wrong : Ends slot is.0 ≡ Gone = one_there views 0 (Ends slot is.0) Gone is.1 at in cc)
whole_home spots views slot (some room) at is = (room, refl, is.0, is.1)

pub closed_rooms : {T : Type 0} (begins : T → Type 0) (follows : T → T → Type 0) (spots : List (RoomSpot T)) (id : ℕ) (view : View T) (words : List ℕ) (rooms : List (Room T)) → id ≡ 0 → view ≡ Gone → length spots ≡ length rooms → Final (Seen (Ruled begins follows spots) id view) words rooms → AreAt spots rooms
closed_rooms {T} begins follows spots id view words rooms first is size final =
    let s : Board T = final.0 in
    let at : get_elem? s.views 0 ≡ some Gone = ap (get_elem? s.views) (sym first) ∙ final.1.1 ∙ ap some is in
    let ended : Ended spots s = ⊎_elim
    (λ (h : Holds begins follows spots s). absurd (let wrong : Publishes h.first.0 ≡ Gone = one_there s.views 0 (Publishes h.first.0) Gone h.first.1 at in cc))
    (λ (e : Ended spots s). e)
    (opened begins follows spots s 0 Gone (λ value e. cc) (λ spot e. cc) at final.1.0) in
    record {
      size = size;
      each = λ k x e.
          let l : k < length rooms = slice_get_within rooms k x e in
          let there = within_got s.homes k (omega (arith, l, final.3)) in
          let home = whole_home spots s.views k there.0 at (ended.homes k there.0 there.1) in
          let found : get_elem? rooms k ≡ some home.0 = final.4 k home.0 (there.1 ∙ ap some home.1) in
          let same : home.0 ≡ x = (let q : Some home.0 ≡ Some x = sym (got rooms k home.0 found) ∙ e in cc) in
          subst (λ (y : Room T). (y.stake ≡ []) × ((spot : RoomSpot T) × (slice_get spots k ≡ Some spot) × (y.at ≡ spot.at))) same (home.3, home.2);
    }
