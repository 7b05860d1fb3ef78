use Rattle.std.proofs.Common.{◌∙◌, [], refl, sym, ap, arith}
use Rattle.dns_name.specs.Name.{fold_name}
use Rattle.dns_name.proofs.StoredLemmas.{front_room, wire_at}
use Rattle.dns_name.proofs.stored.StoredName.to_name.Goals as goal

pub push-requires : goal.push-requires
push-requires c = (omega arith, front_room _ [] _ c.octets.ensures.stored.name refl c.put_name_front.ensures)

pub from_octets-requires-clause-whole : goal.from_octets-requires-clause-whole
from_octets-requires-clause-whole c = (wire_at _ _ [] _ c.octets.ensures.stored.name refl c.put_name_front.ensures c.push.ensures.items).whole

pub from_octets-requires-clause-short : goal.from_octets-requires-clause-short
from_octets-requires-clause-short c = (wire_at _ _ [] _ c.octets.ensures.stored.name refl c.put_name_front.ensures c.push.ensures.items).short

pub returns-clause-name : goal.returns-clause-name
returns-clause-name c =
    c.from_octets.ensures
    ∙ (wire_at _ _ [] _ c.octets.ensures.stored.name refl c.put_name_front.ensures c.push.ensures.items).named
    ∙ c.octets.ensures.name

pub returns-clause-folded : goal.returns-clause-folded
returns-clause-folded c =
    let is = c.from_octets.ensures ∙ (wire_at _ _ [] _ c.octets.ensures.stored.name refl c.put_name_front.ensures c.push.ensures.items).named in
    is ∙ c.octets.ensures.stored.folded ∙ ap fold_name (sym is)
