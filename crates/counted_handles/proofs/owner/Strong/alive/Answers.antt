use Rattle.std.proofs.Common.{sym, ap, ◌∙◌, subst, ℕ, [], ◌∷◌}
use Rattle.std.specs.Prelude.{Contains}
use Rattle.counted_handles.specs.Owned.{IsHeld}
use Rattle.counted_handles.proofs.WeakLemmas.{whole_seat}
use Rattle.counted_handles.proofs.owner.Strong.alive.Goals as goal

pub stand-owner-requires-clause-has : goal.stand-owner-requires-clause-has
stand-owner-requires-clause-has g c =
    let inv = c.self.invariant in
    (inv.mark, subst (IsHeld inv.mark) (sym c.replace.ensures.value) inv.held_is, inv.slot_is, inv.name_is)

pub find-owner-requires-clause-has : goal.find-owner-requires-clause-has
find-owner-requires-clause-has g c =
    let inv = c.self.invariant in
    let can = c.requires.can in
    let held = subst (IsHeld inv.mark) (sym c.replace.ensures.value) inv.held_is in
    let owner = c.stand-owner.ensures.has inv.mark held in
    let whole = whole_seat can.0 c.args.reader.now.views c.into_seat-seat.result.me (sym (ap (λ b. b.views) c.replace-2.ensures.value) ∙ c.into_seat-seat.ensures.2) c.into_seat-seat.ensures.3 can.1 in
    (can.0, inv.mark, whole, owner, inv.slot_is)

pub into_badge-requires : goal.into_badge-requires
into_badge-requires g c =
    let inv = c.self.invariant in
    let can = c.requires.can in
    let held = subst (IsHeld inv.mark) (sym c.replace.ensures.value) inv.held_is in
    let owner = c.stand-owner.ensures.has inv.mark held in
    let whole = whole_seat can.0 c.args.reader.now.views c.into_seat-seat.result.me (sym (ap (λ b. b.views) c.replace-2.ensures.value) ∙ c.into_seat-seat.ensures.2) c.into_seat-seat.ensures.3 can.1 in
    let found = c.find-owner.ensures.found can.0 inv.mark whole owner in
    λ i. (found.0 i).1

pub sit-requires-clause-has : goal.sit-requires-clause-has
sit-requires-clause-has g c =
    let inv = c.self.invariant in
    let can = c.requires.can in
    let held = subst (IsHeld inv.mark) (sym c.replace.ensures.value) inv.held_is in
    let owner = c.stand-owner.ensures.has inv.mark held in
    let whole = whole_seat can.0 c.args.reader.now.views c.into_seat-seat.result.me (sym (ap (λ b. b.views) c.replace-2.ensures.value) ∙ c.into_seat-seat.ensures.2) c.into_seat-seat.ensures.3 can.1 in
    let found = c.find-owner.ensures.found can.0 inv.mark whole owner in
    (inv.mark, found.1, inv.slot_is, inv.name_is, inv.within)

pub invariant_of-self : goal.invariant_of-self
invariant_of-self g c =
    let inv = c.self.invariant in
    let can = c.requires.can in
    let held = subst (IsHeld inv.mark) (sym c.replace.ensures.value) inv.held_is in
    let owner = c.stand-owner.ensures.has inv.mark held in
    let whole = whole_seat can.0 c.args.reader.now.views c.into_seat-seat.result.me (sym (ap (λ b. b.views) c.replace-2.ensures.value) ∙ c.into_seat-seat.ensures.2) c.into_seat-seat.ensures.3 can.1 in
    let found = c.find-owner.ensures.found can.0 inv.mark whole owner in
    record {
      mark = inv.mark;
      held_is = c.sit.ensures inv.mark found.1;
      version_is = inv.version_is;
      slot_is = inv.slot_is;
      name_is = inv.name_is;
      within = inv.within;
      spots_are = inv.spots_are;
    }

pub returns-clause-reader : goal.returns-clause-reader
returns-clause-reader g c =
    let inv = c.self.invariant in
    let can = c.requires.can in
    let held = subst (IsHeld inv.mark) (sym c.replace.ensures.value) inv.held_is in
    let owner = c.stand-owner.ensures.has inv.mark held in
    let whole = whole_seat can.0 c.args.reader.now.views c.into_seat-seat.result.me (sym (ap (λ b. b.views) c.replace-2.ensures.value) ∙ c.into_seat-seat.ensures.2) c.into_seat-seat.ensures.3 can.1 in
    let found = c.find-owner.ensures.found can.0 inv.mark whole owner in (
      c.into_badge.ensures.0 ∙ c.find-owner.ensures.seats.0 ∙ c.into_seat-seat.ensures.0 ∙ ap (λ b. b.table_id) c.replace-2.ensures.value,
      c.into_badge.ensures.1 ∙ c.find-owner.ensures.seats.1 ∙ c.into_seat-seat.ensures.1 ∙ ap (λ b. b.id) c.replace-2.ensures.value,
      c.into_badge.ensures.2 ∙ ap (λ m. m.0 ∷ []) found.0 ∙ sym can.1.0,
    )

pub returns-clause-alive : goal.returns-clause-alive
returns-clause-alive g c r can has =
    let inv = c.self.invariant in
    let held = subst (IsHeld inv.mark) (sym c.replace.ensures.value) inv.held_is in
    let owner = c.stand-owner.ensures.has inv.mark held in
    let whole = whole_seat r c.args.reader.now.views c.into_seat-seat.result.me (sym (ap (λ b. b.views) c.replace-2.ensures.value) ∙ c.into_seat-seat.ensures.2) c.into_seat-seat.ensures.3 can in
    let found = c.find-owner.ensures.found r inv.mark whole owner in
    found.2 (subst (λ (n : ℕ). Contains r.gone n) (sym (ap (λ v. v.number) inv.version_is ∙ ap (λ s. s.version.number) c.self.view_is)) has)
