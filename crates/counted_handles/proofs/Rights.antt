-- The rights to places that the rule gives: who has a share may claim the place and give the claim back, and who has won a bury
-- is alone with it.
use Rattle.std.proofs.Common.{◌≡◌, refl, sym, ap, ◌∙◌, subst, ℕ, ◌<◌, List, length, get_or, Some, None}
use Rattle.std.specs.List.{slice_get}
use Rattle.std.proofs.lemmas.Option.{get_or_from_slice_get}
use Rattle.cell_core.proofs.SeatLemmas.{get_within}
use mathlib.Core.Option.{some}
use Rattle.raw_slots.specs.Places.{Stake, Claimable, Returnable, Alone}
use Rattle.cell_core.specs.Shows.{SlotIs}
use Rattle.cell_core.specs.declared.words.Owner.TheVariants.{Fading}
use Rattle.counted_handles.specs.declared.view.Mark.{Mark}
use Rattle.counted_handles.specs.declared.view.View.{View}
use Rattle.counted_handles.specs.declared.view.View.TheVariants.{Has, Fades}
use Rattle.counted_handles.specs.Shown.{Room, version_at, owner_of, shown}
use Rattle.counted_handles.specs.Ruled.{RoomSpot, Ruled, stake_of, version_of}
use Rattle.counted_handles.specs.Tells.{IsClaimed}
use Rattle.counted_handles.proofs.Lists.{got_map, one_there}
use Rattle.counted_handles.proofs.Live.{slotted}
use Rattle.counted_handles.proofs.WordSteps.{home_version}
use Rattle.counted_handles.proofs.Later.{later}

module _ {T : Type 0} (begins : T → Type 0) (follows : T → T → Type 0) (spots : List (RoomSpot T)) where
  pub claimable : (id : ℕ) (mark : Mark T) (spot : RoomSpot T) → slice_get spots mark.slot ≡ Some spot
      → Claimable (λ (y : Room T). y.at) (λ y. y.value) (λ y. y.stake) (Ruled begins follows spots) (IsClaimed (Has mark)) mark.name id (Has mark) mark.slot spot.at
  claimable id mark spot here s r at =
      let h = later begins follows spots s id (Has mark) tt at r in
      let is = h.knows id (Has mark) at in
      let lies = (h.homes mark.slot (some is.room) is.home).0 in
      let one : lies.0 ≡ spot = (let e : Some lies.0 ≡ Some spot = sym lies.1 ∙ here in cc) in
      (is.room, stake_of mark, is.home, lies.2 ∙ ap (λ (x : RoomSpot T). x.at) one, is.stake, refl, refl, (refl, is.version))

  -- the same, for a slot and a place that are known by equations
  pub hold_right : (id slot name : ℕ) (mark : Mark T) (items : List (RoomSpot T)) (spot : RoomSpot T) → mark.slot ≡ slot → mark.name ≡ name → items ≡ spots → slot < length items → spot ≡ get_or items slot spot
      → Claimable (λ (y : Room T). y.at) (λ y. y.value) (λ y. y.stake) (Ruled begins follows spots) (IsClaimed (Has mark)) name id (Has mark) slot spot.at
  hold_right id slot name mark items spot is_slot is_name same l read =
      let found = get_within items slot l in
      let one : spot ≡ found.0 = read ∙ get_or_from_slice_get items slot found.0 spot found.1 in
      let here : slice_get spots mark.slot ≡ Some spot = ap (slice_get spots) is_slot ∙ ap (λ xs. slice_get xs slot) (sym same) ∙ found.1 ∙ ap Some (sym one) in
      subst (λ n. Claimable (λ (y : Room T). y.at) (λ y. y.value) (λ y. y.stake) (Ruled begins follows spots) (IsClaimed (Has mark)) n id (Has mark) slot spot.at) is_name
      (subst (λ k. Claimable (λ (y : Room T). y.at) (λ y. y.value) (λ y. y.stake) (Ruled begins follows spots) (IsClaimed (Has mark)) mark.name id (Has mark) k spot.at) is_slot (claimable id mark spot here))

  pub returnable : (id : ℕ) (mark : Mark T) → Returnable (λ (y : Room T). y.stake) (Ruled begins follows spots) id (stake_of mark) mark.slot
  returnable id mark s r at =
      let h = later begins follows spots s id (Has mark) tt at r in
      let is = h.knows id (Has mark) at in
      (is.room, is.home, is.stake)

  pub alone : (id : ℕ) (spot : RoomSpot T) (mark : Mark T) → Alone (Ruled begins follows spots) id (Fades mark.slot spot) (Has mark)
  alone id spot mark s r at i there =
      let h = later begins follows spots s id (Fades mark.slot spot) tt at r in
      let slot : ℕ = mark.slot in
      let charge = h.shows.owner_is id (Fading slot) (got_map owner_of s.views id (Fades slot spot) at) in
      let slot_there = slotted s h slot charge.2 in
      let was = subst (λ p. SlotIs (shown s) h.cell h.shows.plan slot p slot_there.there) charge.3 (h.shows.table.slot_is slot slot_there.there slot_there.at) in
      let is = h.knows i (Has mark) there in
      let homes : slot_there.home ≡ some is.room = one_there s.homes slot slot_there.home (some is.room) slot_there.home_at is.home in
      let wrong : None ≡ Some (version_of mark) = sym was.version ∙ sym (home_version s slot slot_there) ∙ ap version_at homes ∙ is.version in
      absurd (cc)

  -- the same, for a share and a view that are known by equations
  pub return_right : (id slot : ℕ) (mark : Mark T) (stake : Stake (View T)) → stake ≡ stake_of mark → mark.slot ≡ slot → Returnable (λ (y : Room T). y.stake) (Ruled begins follows spots) id stake slot
  return_right id slot mark stake is is_slot =
      subst (λ x. Returnable (λ (y : Room T). y.stake) (Ruled begins follows spots) id x slot) (sym is)
      (subst (λ k. Returnable (λ (y : Room T). y.stake) (Ruled begins follows spots) id (stake_of mark) k) is_slot (returnable id mark))

  pub alone_right : (id slot : ℕ) (spot : RoomSpot T) (mark : Mark T) (view : View T) → view ≡ Fades slot spot → mark.slot ≡ slot → Alone (Ruled begins follows spots) id view (Has mark)
  alone_right id slot spot mark view is is_slot =
      subst (λ v. Alone (Ruled begins follows spots) id v (Has mark)) (sym is)
      (subst (λ k. Alone (Ruled begins follows spots) id (Fades k spot) (Has mark)) is_slot (alone id spot mark))
