use Rattle.std.proofs.Common.{◌≡◌, ℕ, List, sym, ap, subst, ◌∙◌}
use Rattle.dns_name.specs.Labels.{IsWire}
use Rattle.dns_name.specs.Name.{Name, IsName, wire_of}
use Rattle.dns_name.proofs.FirstLemmas.{IsWire-of}
use Rattle.dns_rdata.specs.Lent.{name_lent}
use Rattle.dns_rdata.proofs.lent.LentName.octets.Goals as goal

-- octets of a name that is known
named_wire : (octets : List ℕ) (name own : Name) → octets ≡ wire_of name → IsName name → name ≡ own → IsWire octets own
named_wire octets name own e lawful is = subst (IsWire octets) is (IsWire-of octets name e lawful)

pub returns-in-Name : goal.returns-in-Name
returns-in-Name c = named_wire _ _ _ c.wire.ensures.octets c.wire.ensures.lawful (ap name_lent (sym c.in-Name.is) ∙ c.self.view_is)
