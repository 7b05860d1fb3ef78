-- One entry more, behind those that have stayed.
use Rattle.std.proofs.Common.{rules, arith, ◌≡◌, ◌<◌, ◌≤◌, ◌+◌, ◌++◌, ◌∷◌, [], length, ap, sym, ◌∙◌, subst}
use Rattle.weak_history.specs.History.{Entered, HistoryState, longest_run}
use Rattle.weak_history.specs.Places.{placed, IsFull}
use Rattle.weak_history.proofs.PlaceLemmas.{length-placed, placed-append, full_push}
use Rattle.weak_history.proofs.history.History.push.Goals as goal

pub push-requires : goal.push-requires
push-requires g c =
    let items = c.self-2.inside.places.items in
    let full : length (placed items) ≡ length items = length-placed items c.self-2.invariant.0 in
    let held : length (placed items) ≡ length c.make_room.new.self.entries = ap (λ (h : HistoryState _). length h.entries) c.self-2.view_is in
    let size : c.self-2.inside.size ≡ c.make_room.new.self.size = ap (λ (h : HistoryState _). h.size) c.self-2.view_is in
    let room : length items < 16 = omega (arith, full, held, size, c.make_room.ensures.room, c.self-2.invariant.2) in
    (search rules, room)

pub invariant_of-self : goal.invariant_of-self
invariant_of-self g c =
    let items = c.self-2.inside.places.items in
    let full : length (placed items) ≡ length items = length-placed items c.self-2.invariant.0 in
    let held : length (placed items) ≡ length c.make_room.new.self.entries = ap (λ (h : HistoryState _). length h.entries) c.self-2.view_is in
    let size : c.self-2.inside.size ≡ c.make_room.new.self.size = ap (λ (h : HistoryState _). h.size) c.self-2.view_is in
    let longer : length c.push.new.self.items ≡ length items + 1 = c.push.ensures.len in (
      subst IsFull (sym c.push.ensures.items) (full_push items _ c.self-2.invariant.0),
      omega (arith, full, held, size, longer, c.make_room.ensures.room),
      c.self-2.invariant.2,
    )

pub returns : goal.returns
returns g c =
    let items = c.self-2.inside.places.items in
    let entry = c.new.result in
    let is = c.new.ensures in
    let size : c.self-2.inside.size ≡ c.args.self.now.size = ap (λ (h : HistoryState _). h.size) c.self-2.view_is ∙ c.make_room.ensures.size in
    let entries : placed c.push.new.self.items ≡ longest_run c.args.self.now.size (c.args.self.now.entries ++ record { version = c.args.weak; serial = c.args.serial.0 } ∷ []) =
    ap placed c.push.ensures.items
    ∙ placed-append items _
    ∙ ap (λ (h : HistoryState _). h.entries ++ entry ∷ []) c.self-2.view_is
    ∙ c.make_room.ensures.run entry (ap (λ (e : Entered _). e.serial) is)
    ∙ ap (λ (e : Entered _). longest_run c.args.self.now.size (c.args.self.now.entries ++ e ∷ [])) is in
    λ i. record { size = size i; entries = entries i }
