use Rattle.std.proofs.Common.{◌≡◌, sym, ap, ◌∙◌, subst, List, length, arith}
use Rattle.core.specs.Mem.Slots.{slots_items}
use Rattle.counted_handles.specs.declared.view.View.TheVariants.{Gone}
use Rattle.counted_handles.specs.Shown.{Room}
use Rattle.counted_handles.specs.Ruled.{RoomSpot}
use Rattle.raw_slots.specs.Chains.{AreAt}
use Rattle.counted_handles.proofs.CallLemmas.{only_one}
use Rattle.counted_handles.proofs.UnmadeLemmas.{closed_rooms}
use Rattle.counted_handles.proofs.unmade.unmake.Goals as goal

pub gather_closed-requires : goal.gather_closed-requires
gather_closed-requires g c =
    let fits = c.requires.spots.0 in
    let closed = c.close_with-closed in
    let seat = c.into_seat in
    let view = only_one seat.result.me.0 Gone (sym seat.ensures.2 ∙ c.requires.ended.2) in
    let rooms : List (Room g.row.T.Denot) = slots_items closed.result.slots in
    let spots : List (RoomSpot g.row.T.Denot) = c.args.table.shared.key.places.items in
    let same : c.args.bare.spots ≡ spots = c.requires.spots.1 ∙ ap (λ k. k.places.items) fits.same in
    let size : length spots ≡ length rooms = omega (arith, ap (λ k. length k.places.items) fits.same, fits.size, fits.fits.1, closed.ensures.counts.1, closed.result.slots.ok) in
    (closed.ensures.values.1, subst (λ (l : List (RoomSpot g.row.T.Denot)). AreAt l rooms) (sym same) (closed_rooms g.C.Names.begins g.C.Follows.follows spots seat.result.id seat.result.me.0 _ rooms (seat.ensures.1 ∙ c.requires.ended.1) view size closed.ensures.values.2))
