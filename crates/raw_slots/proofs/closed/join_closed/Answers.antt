use Rattle.std.proofs.Common.{◌≡◌, ◌<◌, suc, List, length, ap, sym, ◌∙◌, subst, false, get_or, arith}
use Rattle.core.specs.Mem.Slots.{slots_items}
use Rattle.raw_slots.specs.Chains.{IsChain}
use Rattle.raw_slots.specs.declared.place.Place.{Place}
use Rattle.raw_slots.proofs.Closing.{still_there, gone_from, lies_before}
use Rattle.raw_slots.proofs.closed.join_closed.Goals as goal

pub join-requires : goal.join-requires
join-requires g c =
    let inv = c.loop-left.invariant in
    let left = c.loop-left.left in
    let some_left : 0 < left = omega arith in
    let P : Type 0 = Place g.row.T.Denot g.row.V.Denot in
    let items : List P = slots_items c.loop-left.closed.slots in
    let x : P = c.take.result in
    let its = lies_before g.row.T {V = g.row.V.Denot} c.args.first.at c.loop-left.row.at items left x inv.1 some_left inv.5 c.take.ensures.value in
    (its.0, its.1, omega (arith, inv.6, inv.7, some_left))

pub loop-left-preserved : goal.loop-left-preserved
loop-left-preserved g c =
    let inv = c.loop-left.invariant in
    let left = c.loop-left.left in
    let some_left : 0 < left = omega arith in
    let P : Type 0 = Place g.row.T.Denot g.row.V.Denot in
    let items : List P = slots_items c.loop-left.closed.slots in
    let x : P = c.take.result in
    let its = lies_before g.row.T {V = g.row.V.Denot} c.args.first.at c.loop-left.row.at items left x inv.1 some_left inv.5 c.take.ensures.value in
    let filled = c.take.ensures.others in
    let longer : length c.join.new.self.values ≡ suc (length c.loop-left.row.values) = ap (λ (l : List g.row.T.Denot). length l) c.join.ensures.0 in (
      omega (arith, inv.0),
      subst (λ (l : List P). IsChain g.row.T c.args.first.at l) (sym filled.0) inv.1,
      filled.2 ∙ inv.2,
      λ k from l. ap (λ f. get_or f k false) filled.1 ∙ still_there _ left k some_left inv.3 l,
      λ k from l. ap (λ f. get_or f k false) filled.1 ∙ gone_from _ left c.args.count k some_left inv.4 from l,
      c.join.ensures.1 ∙ its.2,
      omega (arith, longer, inv.6, some_left),
      c.join.ensures.2 ∙ inv.7,
    )
