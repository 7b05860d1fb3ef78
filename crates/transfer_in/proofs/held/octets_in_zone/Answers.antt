use Rattle.std.proofs.Common.{◌≡◌, ◌<◌, All, Some, rules, arith}
use Rattle.std.proofs.lemmas.Grind.{get_or_default_zero}
use Rattle.dns_rdata.specs.Data.{data_of}
use Rattle.dns_rdata.proofs.DataLemmas.{IsRead-data, data_octets}
use Rattle.transfer_in.proofs.held.octets_in_zone.Goals as goal

pub returns-in-Some-clause-form : goal.returns-in-Some-clause-form
returns-in-Some-clause-form c =
    let is : data_of c.args.rtype.0 c.args.octets.now ≡ Some c.in-Some.own.items = search rules in
    (IsRead-data c.args.rtype.0 c.args.octets.now c.in-Some.own.items is).again

pub returns-in-Some-clause-bytes : goal.returns-in-Some-clause-bytes
returns-in-Some-clause-bytes c =
    let is : data_of c.args.rtype.0 c.args.octets.now ≡ Some c.in-Some.own.items = search rules in
    let each : All (λ octet. octet < 256) c.args.octets.now = λ k d within. omega (arith, c.type_inv.octets k, get_or_default_zero c.args.octets.now k d within) in
    data_octets c.args.rtype.0 c.args.octets.now c.in-Some.own.items is each
