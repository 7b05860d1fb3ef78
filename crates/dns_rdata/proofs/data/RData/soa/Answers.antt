use Rattle.std.proofs.Common.{◌≡◌, Some, sym, ap, ◌∙◌, rules}
use Rattle.dns_rdata.specs.Data.{Data, data_of}
use Rattle.dns_rdata.proofs.data.RData.soa.Goals as goal

pub soa_numbers-requires : goal.soa_numbers-requires
soa_numbers-requires c =
    let soa : c.self.inside.rtype.0 ≡ 6 = search rules in
    let form = c.self.invariant.form in
    let is : c.octets.result.now ≡ c.self.inside.octets = c.octets.ensures.octets ∙ ap (λ (d : Data). d.octets) (sym c.self.view_is) in
    let own : data_of 6 c.self.inside.octets ≡ Some c.self.inside.octets = rw soa at form in
    rw is own
