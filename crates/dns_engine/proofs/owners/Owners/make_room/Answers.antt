-- The oldest goes where there are so many.
use Rattle.std.proofs.Common.{rules, arith, ◌≡◌, ◌-◌, ◌≤◌, length, ap, sym, ◌∙◌}
use Rattle.dns_engine.specs.Held.{newest}
use Rattle.dns_engine.proofs.OwnedLemmas.{owned, length-owned, oldest_out, all_stay}
use Rattle.dns_engine.proofs.owners.Owners.make_room.Goals as goal
use Rattle.dns_engine.proofs.owners.Owners.make_room.Goals.{in-Some-1, in-None-1}

pub returns-then-len-keep : goal.returns-then-len-keep
returns-then-len-keep g c =
    let out : owned c.remove.new.self.items ≡ newest (c.args.keep - 1) c.args.self.now =
    ap owned c.remove.ensures.items ∙ oldest_out c.args.keep c.self.inside.places.items c.self.invariant c.requires.some (search rules) ∙ ap (newest (c.args.keep - 1)) c.self.view_is in
    elim c.match-remove.branch [ in-Some-1 w ↦ w.self-is ∙ out | in-None-1 w ↦ w.self-is ∙ out ]

pub returns-else-len-keep : goal.returns-else-len-keep
returns-else-len-keep g c =
    let size : length (owned c.self.inside.places.items) ≡ length c.self.inside.places.items = length-owned c.self.inside.places.items c.self.invariant in
    let held : length (owned c.self.inside.places.items) ≡ length c.args.self.now = ap length c.self.view_is in
    let few : length c.self.inside.places.items ≤ c.args.keep = omega (arith, size, held, c.requires.kept) in
    sym c.self.view_is ∙ all_stay c.args.keep c.self.inside.places.items c.self.invariant c.requires.some few (λ same. c.if-len-keep.false (c.len.ensures.value ∙ same)) ∙ ap (newest (c.args.keep - 1)) c.self.view_is
