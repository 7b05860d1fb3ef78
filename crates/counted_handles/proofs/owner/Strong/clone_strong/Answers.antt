use Rattle.std.proofs.Common.{sym, ap, ◌∙◌, subst, [], ◌∷◌}
use Rattle.counted_handles.specs.Owned.{IsHeld}
use Rattle.counted_handles.proofs.WeakLemmas.{guest_seat}
use Rattle.counted_handles.proofs.owner.Strong.clone_strong.Goals as goal

pub stand-owner-requires-clause-has : goal.stand-owner-requires-clause-has
stand-owner-requires-clause-has g c =
    let inv = c.self.invariant in
    (inv.mark, subst (IsHeld inv.mark) (sym c.replace.ensures.value) inv.held_is, inv.slot_is, inv.name_is)

pub clone_share-share-requires-clause-has : goal.clone_share-share-requires-clause-has
clone_share-share-requires-clause-has g c =
    let inv = c.self.invariant in
    let can = c.requires.can in
    let held = subst (IsHeld inv.mark) (sym c.replace.ensures.value) inv.held_is in
    let owner = c.stand-owner.ensures.has inv.mark held in
    let guest = guest_seat can.0 c.args.reader.now.views c.into_seat-seat.result.me (sym (ap (λ b. b.views) c.replace-2.ensures.value) ∙ c.into_seat-seat.ensures.2) c.into_seat-seat.ensures.3 can.1 in
    (can.0, inv.mark, guest, owner, inv.slot_is)

pub into_badge-requires : goal.into_badge-requires
into_badge-requires g c =
    let inv = c.self.invariant in
    let can = c.requires.can in
    let held = subst (IsHeld inv.mark) (sym c.replace.ensures.value) inv.held_is in
    let owner = c.stand-owner.ensures.has inv.mark held in
    let guest = guest_seat can.0 c.args.reader.now.views c.into_seat-seat.result.me (sym (ap (λ b. b.views) c.replace-2.ensures.value) ∙ c.into_seat-seat.ensures.2) c.into_seat-seat.ensures.3 can.1 in
    let cloned = c.clone_share-share.ensures.cloned can.0 inv.mark guest owner in
    λ i. (cloned.0 i).1

pub sit-requires-clause-has : goal.sit-requires-clause-has
sit-requires-clause-has g c =
    let inv = c.self.invariant in
    let can = c.requires.can in
    let held = subst (IsHeld inv.mark) (sym c.replace.ensures.value) inv.held_is in
    let owner = c.stand-owner.ensures.has inv.mark held in
    let guest = guest_seat can.0 c.args.reader.now.views c.into_seat-seat.result.me (sym (ap (λ b. b.views) c.replace-2.ensures.value) ∙ c.into_seat-seat.ensures.2) c.into_seat-seat.ensures.3 can.1 in
    let cloned = c.clone_share-share.ensures.cloned can.0 inv.mark guest owner in
    (inv.mark, cloned.2, inv.slot_is, inv.name_is, inv.within)

pub own-requires-clause-has : goal.own-requires-clause-has
own-requires-clause-has g c =
    let inv = c.self.invariant in
    let can = c.requires.can in
    let held = subst (IsHeld inv.mark) (sym c.replace.ensures.value) inv.held_is in
    let owner = c.stand-owner.ensures.has inv.mark held in
    let guest = guest_seat can.0 c.args.reader.now.views c.into_seat-seat.result.me (sym (ap (λ b. b.views) c.replace-2.ensures.value) ∙ c.into_seat-seat.ensures.2) c.into_seat-seat.ensures.3 can.1 in
    let cloned = c.clone_share-share.ensures.cloned can.0 inv.mark guest owner in
    (inv.mark, cloned.1, inv.slot_is, inv.name_is, inv.within)

pub invariant_of-self : goal.invariant_of-self
invariant_of-self g c =
    let inv = c.self.invariant in
    let can = c.requires.can in
    let held = subst (IsHeld inv.mark) (sym c.replace.ensures.value) inv.held_is in
    let owner = c.stand-owner.ensures.has inv.mark held in
    let guest = guest_seat can.0 c.args.reader.now.views c.into_seat-seat.result.me (sym (ap (λ b. b.views) c.replace-2.ensures.value) ∙ c.into_seat-seat.ensures.2) c.into_seat-seat.ensures.3 can.1 in
    let cloned = c.clone_share-share.ensures.cloned can.0 inv.mark guest owner in
    record {
      mark = inv.mark;
      held_is = c.sit.ensures inv.mark cloned.2;
      version_is = inv.version_is;
      slot_is = inv.slot_is;
      name_is = inv.name_is;
      within = inv.within;
      spots_are = inv.spots_are;
    }

pub returns-clause-owner : goal.returns-clause-owner
returns-clause-owner g c =
    let inv = c.self.invariant in
    let can = c.requires.can in
    let held = subst (IsHeld inv.mark) (sym c.replace.ensures.value) inv.held_is in
    let owner = c.stand-owner.ensures.has inv.mark held in
    let guest = guest_seat can.0 c.args.reader.now.views c.into_seat-seat.result.me (sym (ap (λ b. b.views) c.replace-2.ensures.value) ∙ c.into_seat-seat.ensures.2) c.into_seat-seat.ensures.3 can.1 in
    let cloned = c.clone_share-share.ensures.cloned can.0 inv.mark guest owner in
    c.own.ensures inv.mark cloned.1 ∙ (λ i. record { version = inv.version_is i; table = c.self.inside.words.now.table_id }) ∙ c.self.view_is

pub returns-clause-grant : goal.returns-clause-grant
returns-clause-grant g c r can =
    let inv = c.self.invariant in
    let held = subst (IsHeld inv.mark) (sym c.replace.ensures.value) inv.held_is in
    let owner = c.stand-owner.ensures.has inv.mark held in
    let guest = guest_seat r c.args.reader.now.views c.into_seat-seat.result.me (sym (ap (λ b. b.views) c.replace-2.ensures.value) ∙ c.into_seat-seat.ensures.2) c.into_seat-seat.ensures.3 can in
    c.into_badge.ensures.2 ∙ ap (λ m. m.0 ∷ []) (c.clone_share-share.ensures.cloned r inv.mark guest owner).0
