-- One version more, behind the others.
use Rattle.std.proofs.Common.{rules, arith, ◌≡◌, ◌<◌, ◌++◌, ◌∷◌, [], length, ap, sym, ◌∙◌, subst}
use Rattle.weak_history.specs.Places.{placed, IsFull}
use Rattle.weak_history.proofs.PlaceLemmas.{length-placed, placed-append, full_push}
use Rattle.dns_engine.proofs.copies.Copies.push.Goals as goal

pub push-requires : goal.push-requires
push-requires c =
    let size : length (placed c.self.inside.places.items) ≡ length c.args.self.now = ap length c.self.view_is in
    let full : length (placed c.self.inside.places.items) ≡ length c.self.inside.places.items = length-placed c.self.inside.places.items c.self.invariant in
    let room : length c.self.inside.places.items < 16 = omega (arith, size, full, c.requires) in
    (search rules, room)

pub invariant_of-self : goal.invariant_of-self
invariant_of-self c = subst IsFull (sym c.push.ensures.items) (full_push c.self.inside.places.items _ c.self.invariant)

pub returns : goal.returns
returns c =
    ap placed c.push.ensures.items ∙ placed-append c.self.inside.places.items _ ∙ ap (λ l. l ++ c.args.version ∷ []) c.self.view_is
