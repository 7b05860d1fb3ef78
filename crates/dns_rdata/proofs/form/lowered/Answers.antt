use Rattle.std.proofs.Common.{◌≡◌, Some, ap, sym, ◌∙◌, arith}
use Rattle.std.proofs.lemmas.Result.{IfOk-weaker}
use Rattle.dns_rdata.specs.Data.{data_of}
use Rattle.dns_rdata.proofs.FormLemmas.{fields_of}
use Rattle.dns_rdata.proofs.form.lowered.Goals as goal

pub overflow_sub-octets : goal.overflow_sub-octets
overflow_sub-octets c =
    let lies = rw c.in-Some-Fields.field-0-is at c.in-Some-Fields.ensures in
    let own = fields_of c.args.rtype.0 c.in-Some-Fields.front c.in-Some-Fields.field-0-1 c.in-Some-Fields.back c.in-Some-Fields.field-0-3 c.args.octets.now lies c.requires in
    let long = own.1.between.long in
    omega arith

pub lowered-requires-clause-order : goal.lowered-requires-clause-order
lowered-requires-clause-order c =
    let lies = rw c.in-Some-Fields.field-0-is at c.in-Some-Fields.ensures in
    let own = fields_of c.args.rtype.0 c.in-Some-Fields.front c.in-Some-Fields.field-0-1 c.in-Some-Fields.back c.in-Some-Fields.field-0-3 c.args.octets.now lies c.requires in
    let long = own.1.between.long in
    omega arith

pub returns-in-Some-Fields : goal.returns-in-Some-Fields
returns-in-Some-Fields c =
    let lies = rw c.in-Some-Fields.field-0-is at c.in-Some-Fields.ensures in
    let own = fields_of c.args.rtype.0 c.in-Some-Fields.front c.in-Some-Fields.field-0-1 c.in-Some-Fields.back c.in-Some-Fields.field-0-3 c.args.octets.now lies c.requires in
    let is = own.1.is in
    let same = own.1.between.is in
    IfOk-weaker c.lowered.result (λ v. v ≡ _) (λ v. data_of c.args.rtype.0 c.args.octets.now ≡ Some v) (λ v e. is ∙ ap Some (same ∙ sym e)) c.lowered.ensures.octets
