use Rattle.std.proofs.Common.{Option, Some, sym, ap, subst, ◌∙◌}
use Rattle.dns_rdata.specs.declared.layout.Layout.{Layout}
use Rattle.dns_message.specs.Encoded.{WritesEncoding}
use Rattle.dns_message.specs.Encoding.{Encoding}
use Rattle.dns_message.specs.Octets.{data_octets, data_laid}
use Rattle.dns_message.proofs.EncodedLemmas.{WritesParts-octets, WritesEncoding-these}
use Rattle.dns_message.proofs.data.put_data.Goals as goal

pub returns-in-Some-Fields : goal.returns-in-Some-Fields
unfolding data_octets
returns-in-Some-Fields c =
    let own = sym c.layout.ensures ∙ c.in-Some-Fields.is ∙ ap Some c.in-Some-Fields.field-0-is in
    subst (λ (p : Encoding). WritesEncoding p c.args.out.now c.put_fields.new.out c.args.at c.args.names.now c.put_fields.new.names c.put_fields.result) (sym (ap (λ (o : Option Layout). data_laid o c.args.octets.now) own)) c.put_fields.ensures

pub returns-in-Some-Strings : goal.returns-in-Some-Strings
unfolding data_octets
returns-in-Some-Strings c =
    let octets = c.args.octets.now in
    let own = sym c.layout.ensures ∙ c.in-Some-Strings.is ∙ ap Some c.in-Some-Strings.field-0-is in
    let written = WritesEncoding-these octets c.args.out.now c.put.new.out c.args.at c.args.names.now c.put.result c.requires.table (WritesParts-octets c.args.out.now c.put.new.out c.args.at octets c.put.result c.put.ensures) in
    subst (λ (p : Encoding). WritesEncoding p c.args.out.now c.put.new.out c.args.at c.args.names.now c.args.names.now c.put.result) (sym (ap (λ (o : Option Layout). data_laid o octets) own)) written

pub returns-in-Some-Opaque : goal.returns-in-Some-Opaque
unfolding data_octets
returns-in-Some-Opaque c =
    let octets = c.args.octets.now in
    let own = sym c.layout.ensures ∙ c.in-Some-Opaque.is ∙ ap Some c.in-Some-Opaque.field-0-is in
    let written = WritesEncoding-these octets c.args.out.now c.put-in-Some-Opaque.new.out c.args.at c.args.names.now c.put-in-Some-Opaque.result c.requires.table (WritesParts-octets c.args.out.now c.put-in-Some-Opaque.new.out c.args.at octets c.put-in-Some-Opaque.result c.put-in-Some-Opaque.ensures) in
    subst (λ (p : Encoding). WritesEncoding p c.args.out.now c.put-in-Some-Opaque.new.out c.args.at c.args.names.now c.args.names.now c.put-in-Some-Opaque.result) (sym (ap (λ (o : Option Layout). data_laid o octets) own)) written

pub returns-in-None : goal.returns-in-None
unfolding data_octets
returns-in-None c =
    let octets = c.args.octets.now in
    let own = sym c.layout.ensures ∙ c.in-None.is in
    let written = WritesEncoding-these octets c.args.out.now c.put-in-None.new.out c.args.at c.args.names.now c.put-in-None.result c.requires.table (WritesParts-octets c.args.out.now c.put-in-None.new.out c.args.at octets c.put-in-None.result c.put-in-None.ensures) in
    subst (λ (p : Encoding). WritesEncoding p c.args.out.now c.put-in-None.new.out c.args.at c.args.names.now c.args.names.now c.put-in-None.result) (sym (ap (λ (o : Option Layout). data_laid o octets) own)) written
