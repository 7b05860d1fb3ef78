use Rattle.std.proofs.Common.{sym, ap, ◌∙◌, subst, [], ◌∷◌}
use Rattle.counted_handles.specs.Owned.{IsHeld}
use Rattle.counted_handles.specs.Tells.{tie_of}
use Rattle.counted_handles.proofs.WeakLemmas.{publisher_seat}
use Rattle.counted_handles.proofs.owner.Strong.downgrade.Goals as goal

pub stand-owner-requires-clause-has : goal.stand-owner-requires-clause-has
stand-owner-requires-clause-has g c =
    let inv = c.self.invariant in
    (inv.mark, subst (IsHeld inv.mark) (sym c.replace.ensures.value) inv.held_is, inv.slot_is, inv.name_is)

pub note-owner-requires-clause-has : goal.note-owner-requires-clause-has
note-owner-requires-clause-has g c =
    let inv = c.self.invariant in
    let can = c.requires.can in
    let held = subst (IsHeld inv.mark) (sym c.replace.ensures.value) inv.held_is in
    let owner = c.stand-owner.ensures.has inv.mark held in
    let me = publisher_seat can.0 c.args.publisher.now.views c.into_seat-seat.result.me (sym (ap (λ b. b.views) c.replace-2.ensures.value) ∙ c.into_seat-seat.ensures.2) c.into_seat-seat.ensures.3 can.1 in
    (can.0, inv.mark, me, can.1.1, can.1.2, owner, inv.slot_is)

pub into_badge-requires : goal.into_badge-requires
into_badge-requires g c =
    let inv = c.self.invariant in
    let can = c.requires.can in
    let held = subst (IsHeld inv.mark) (sym c.replace.ensures.value) inv.held_is in
    let owner = c.stand-owner.ensures.has inv.mark held in
    let me = publisher_seat can.0 c.args.publisher.now.views c.into_seat-seat.result.me (sym (ap (λ b. b.views) c.replace-2.ensures.value) ∙ c.into_seat-seat.ensures.2) c.into_seat-seat.ensures.3 can.1 in
    let noted = c.note-owner.ensures.noted can.0 inv.mark me can.1.1 owner in
    λ i. (noted.0 i).1

pub sit-requires-clause-has : goal.sit-requires-clause-has
sit-requires-clause-has g c =
    let inv = c.self.invariant in
    let can = c.requires.can in
    let held = subst (IsHeld inv.mark) (sym c.replace.ensures.value) inv.held_is in
    let owner = c.stand-owner.ensures.has inv.mark held in
    let me = publisher_seat can.0 c.args.publisher.now.views c.into_seat-seat.result.me (sym (ap (λ b. b.views) c.replace-2.ensures.value) ∙ c.into_seat-seat.ensures.2) c.into_seat-seat.ensures.3 can.1 in
    let noted = c.note-owner.ensures.noted can.0 inv.mark me can.1.1 owner in
    (inv.mark, noted.1, inv.slot_is, inv.name_is, inv.within)

pub invariant_of-self : goal.invariant_of-self
invariant_of-self g c =
    let inv = c.self.invariant in
    let can = c.requires.can in
    let held = subst (IsHeld inv.mark) (sym c.replace.ensures.value) inv.held_is in
    let owner = c.stand-owner.ensures.has inv.mark held in
    let me = publisher_seat can.0 c.args.publisher.now.views c.into_seat-seat.result.me (sym (ap (λ b. b.views) c.replace-2.ensures.value) ∙ c.into_seat-seat.ensures.2) c.into_seat-seat.ensures.3 can.1 in
    let noted = c.note-owner.ensures.noted can.0 inv.mark me can.1.1 owner in
    record {
      mark = inv.mark;
      held_is = c.sit.ensures inv.mark noted.1;
      version_is = inv.version_is;
      slot_is = inv.slot_is;
      name_is = inv.name_is;
      within = inv.within;
      spots_are = inv.spots_are;
    }

pub keep_weak-requires-clause-has : goal.keep_weak-requires-clause-has
keep_weak-requires-clause-has g c =
    let inv = c.self.invariant in
    let can = c.requires.can in
    let held = subst (IsHeld inv.mark) (sym c.replace.ensures.value) inv.held_is in
    let owner = c.stand-owner.ensures.has inv.mark held in
    let me = publisher_seat can.0 c.args.publisher.now.views c.into_seat-seat.result.me (sym (ap (λ b. b.views) c.replace-2.ensures.value) ∙ c.into_seat-seat.ensures.2) c.into_seat-seat.ensures.3 can.1 in
    let noted = c.note-owner.ensures.noted can.0 inv.mark me can.1.1 owner in
    (tie_of inv.mark, noted.2, inv.slot_is, inv.name_is, inv.version_is ∙ sym c.version.ensures)

pub returns-clause-noted : goal.returns-clause-noted
returns-clause-noted g c p can =
    let inv = c.self.invariant in
    let held = subst (IsHeld inv.mark) (sym c.replace.ensures.value) inv.held_is in
    let owner = c.stand-owner.ensures.has inv.mark held in
    let me = publisher_seat p c.args.publisher.now.views c.into_seat-seat.result.me (sym (ap (λ b. b.views) c.replace-2.ensures.value) ∙ c.into_seat-seat.ensures.2) c.into_seat-seat.ensures.3 can in
    c.into_badge.ensures.2 ∙ ap (λ m. m.0 ∷ []) (c.note-owner.ensures.noted p inv.mark me can.1 owner).0
