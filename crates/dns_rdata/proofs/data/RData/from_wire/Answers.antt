use Rattle.std.proofs.Common.{◌≡◌, ◌<◌, ◌≤◌, length, All, Some, refl, rules, arith}
use Rattle.std.proofs.lemmas.Grind.{get_or_default_zero}
use Rattle.dns_rdata.specs.Data.{data_of}
use Rattle.dns_rdata.proofs.DataLemmas.{IsRead-data, data_octets}
use Rattle.dns_rdata.proofs.data.RData.from_wire.Goals as goal

pub invariant_of-result : goal.invariant_of-result
invariant_of-result c =
    let own = c.in_ok-own.own in
    let octets = c.args.octets.now in
    let is : data_of c.args.rtype.0 octets ≡ Some own = search rules in
    let read = IsRead-data c.args.rtype.0 octets own is in
    let few : length octets ≤ 4096 = search rules in
    let each : All (λ octet. octet < 256) octets = λ k d within. omega (arith, c.type_inv.octets k, get_or_default_zero octets k d within) in
    record { form = read.again; short = omega (arith, read.len); bytes = data_octets c.args.rtype.0 octets own is each }

pub returns-clause-data : goal.returns-clause-data
returns-clause-data c =
    let own = c.in_ok-own.own in
    let octets = c.args.octets.now in
    let is : data_of c.args.rtype.0 octets ≡ Some own = search rules in
    let read = IsRead-data c.args.rtype.0 octets own is in
    let few : length octets ≤ 4096 = search rules in
    (refl, is, omega (arith, read.len))
