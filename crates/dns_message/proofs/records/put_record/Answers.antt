use Rattle.std.proofs.Common.{List, ℕ, sym, subst}
use Rattle.dns_name.specs.Labels.{labels_in}
use Rattle.dns_name.specs.Name.{Name, IsName}
use Rattle.dns_name.proofs.FirstLemmas.{IsWire-of}
use Rattle.dns_message.specs.Encoded.{WritesEncoding}
use Rattle.dns_message.specs.Octets.{record_octets}
use Rattle.dns_message.proofs.records.put_record.Goals as goal

pub put_record_under-requires-clause-whole : goal.put_record_under-requires-clause-whole
put_record_under-requires-clause-whole c = (IsWire-of _ _ c.wire.ensures.octets c.wire.ensures.lawful).whole

pub put_record_under-requires-clause-lawful : goal.put_record_under-requires-clause-lawful
put_record_under-requires-clause-lawful c = subst IsName (sym (IsWire-of _ _ c.wire.ensures.octets c.wire.ensures.lawful).labels) c.wire.ensures.lawful

pub returns : goal.returns
returns c =
    subst (λ (n : Name). WritesEncoding (record_octets (record { owner = n; rtype = c.args.rtype.0; ttl = c.args.ttl.0; rdata = c.args.rdata.now })) c.args.out.now c.put_record_under.new.out c.args.at c.args.names.now c.put_record_under.new.names c.put_record_under.result)
    (IsWire-of _ _ c.wire.ensures.octets c.wire.ensures.lawful).labels c.put_record_under.ensures
