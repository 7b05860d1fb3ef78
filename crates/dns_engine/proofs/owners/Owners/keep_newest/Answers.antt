-- One owner more, and the newest stay.
use Rattle.std.proofs.Common.{rules, arith, ◌≡◌, ◌-◌, ◌<◌, ◌++◌, ◌∷◌, [], min, length, ap, sym, ◌∙◌, subst}
use Rattle.weak_history.specs.Places.{IsFull}
use Rattle.weak_history.proofs.PlaceLemmas.{full_push}
use Rattle.dns_engine.proofs.OwnedLemmas.{owned, length-owned, owned-append, newest_push, length-newest}
use Rattle.dns_engine.proofs.owners.Owners.keep_newest.Goals as goal

pub push-requires : goal.push-requires
push-requires g c =
    let size : length (owned c.self.inside.places.items) ≡ min (c.args.keep - 1) (length c.args.self.now) = ap length (c.self.view_is ∙ c.make_room.ensures) ∙ length-newest (c.args.keep - 1) c.args.self.now in
    let full : length (owned c.self.inside.places.items) ≡ length c.self.inside.places.items = length-owned c.self.inside.places.items c.self.invariant in
    let room : length c.self.inside.places.items < 8 = omega (arith, size, full, c.requires.most) in
    (search rules, room)

pub invariant_of-self : goal.invariant_of-self
invariant_of-self g c = subst IsFull (sym c.push.ensures.items) (full_push c.self.inside.places.items _ c.self.invariant)

pub returns : goal.returns
returns g c =
    ap owned c.push.ensures.items ∙ owned-append c.self.inside.places.items _ ∙ ap (λ l. l ++ c.args.owner.value ∷ []) (c.self.view_is ∙ c.make_room.ensures)
    ∙ sym (newest_push c.args.keep c.args.self.now c.args.owner.value (search rules))
