use Rattle.std.proofs.Common.{◌≡◌, Some, sym, ap, ◌∙◌, arith}
use Rattle.dns_rdata.specs.Data.{Data, data_of, with_serial}
use Rattle.dns_rdata.proofs.SoaLemmas.{soa_is}
use Rattle.dns_rdata.proofs.SoaSerial.{form-with_serial, length-with_serial, octets-with_serial}
use Rattle.dns_rdata.proofs.data.RData.with_serial.Goals as goal

pub octets_with_serial-requires : goal.octets_with_serial-requires
octets_with_serial-requires c =
    let own = c.args.self.now in
    let form : data_of 6 own.octets ≡ Some own.octets = rw c.requires at c.octets.ensures.lawful.form in
    rw c.octets.ensures.octets (soa_is own.octets form).long

pub invariant_of-result : goal.invariant_of-result
invariant_of-result c =
    let own = c.self.inside.octets in
    let view : c.args.self.now.octets ≡ own = ap (λ (d : Data). d.octets) (sym c.self.view_is) in
    let typed : c.self.inside.rtype.0 ≡ 6 = ap (λ (d : Data). d.rtype) c.self.view_is ∙ c.requires in
    let form : data_of 6 own ≡ Some own = rw typed at c.self.invariant.form in
    let is : c.in_ok-octets.octets ≡ with_serial c.args.serial.0 own = c.in_ok-octets.ensures ∙ ap (with_serial c.args.serial.0) (c.octets.ensures.octets ∙ view) in
    rw (is, typed) (record {
      form = form-with_serial own c.args.serial.0 form;
      short = omega (arith, length-with_serial own c.args.serial.0 form, c.self.invariant.short);
      bytes = octets-with_serial own c.args.serial.0 c.self.invariant.bytes;
    })

pub returns-clause-octets : goal.returns-clause-octets
returns-clause-octets c = c.in_ok-octets.ensures ∙ ap (with_serial c.args.serial.0) c.octets.ensures.octets
