use Rattle.std.proofs.Common.{not, ◌&&◌, ◌==◌, sym, ap, ◌∙◌}
use Rattle.std.proofs.lemmas.Bool.{eqb-true}
use Rattle.dns_name.specs.Name.{is_same}
use Rattle.dns_rdata.specs.Numbers.{type_SOA}
use Rattle.dns_rdata.specs.Data.{serial_of}
use Rattle.dns_rdata.specs.Raw.{RawRecord}
use Rattle.dns_rdata.specs.SerialOrder.{serial_less}
use Rattle.zone_tree.specs.Zone.{apex_of}
use Rattle.zone_tree.specs.Version.{zone_serial}
use Rattle.update_core.specs.Act.{has_lesser_soa}
use Rattle.update_core.proofs.RowEffects.{lesser_by}
use Rattle.update_core.proofs.additions.is_lesser_soa.Goals as goal

pub returns-then-eq : goal.returns-then-eq
returns-then-eq c =
    let zone = c.args.zone.now.made in
    let raw = c.args.raw.now in
    let octets = c.args.rdata.now.octets in
    let soa = ap (λ (r : RawRecord). r.rtype == type_SOA) (sym c.raw.view_is) ∙ sym c.eq.ensures ∙ c.if-eq.true in
    let greater = c.is_greater_soa.ensures (c.requires.rtype ∙ eqb-true raw.rtype type_SOA soa) ∙ ap (λ (r : RawRecord). is_same r.owner (apex_of zone) && serial_less (zone_serial zone) (serial_of octets)) c.raw.view_is in
    ap not (lesser_by zone raw octets c.requires.lawful c.requires.data c.is_greater_soa.result greater) ∙ ap (λ b. b && not (has_lesser_soa zone raw)) (sym soa)
