use Rattle.std.proofs.Common.{◌∙◌, [], refl, sym, ap, subst, arith}
use Rattle.dns_name.specs.Name.{IsName, fold_name}
use Rattle.dns_name.proofs.StoredLemmas.{front_room, wire_at}
use Rattle.dns_name.proofs.name.Name.set_stored.Goals as goal

pub push-requires : goal.push-requires
push-requires c = (omega arith, front_room _ [] _ c.octets.ensures.stored.name refl c.put_name_front.ensures)

pub invariant_of-self : goal.invariant_of-self
invariant_of-self c =
    let wire = wire_at _ _ [] _ c.octets.ensures.stored.name refl c.put_name_front.ensures c.push.ensures.items in
    (wire.whole, wire.short)

pub returns-clause-name : goal.returns-clause-name
returns-clause-name c = (wire_at _ _ [] _ c.octets.ensures.stored.name refl c.put_name_front.ensures c.push.ensures.items).named ∙ c.octets.ensures.name

pub returns-clause-folded : goal.returns-clause-folded
returns-clause-folded c =
    let is = (wire_at _ _ [] _ c.octets.ensures.stored.name refl c.put_name_front.ensures c.push.ensures.items).named in
    is ∙ c.octets.ensures.stored.folded ∙ ap fold_name (sym is)

pub returns-clause-lawful : goal.returns-clause-lawful
returns-clause-lawful c =
    let is = (wire_at _ _ [] _ c.octets.ensures.stored.name refl c.put_name_front.ensures c.push.ensures.items).named in
    subst IsName (sym is) c.octets.ensures.stored.name
