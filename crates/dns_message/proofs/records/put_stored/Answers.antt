use Rattle.std.proofs.Common.{map, option_map, sym, subst, ◌∙◌}
use Rattle.std.specs.List.{flat_map}
use Rattle.dns_name.specs.Labels.{labels_in}
use Rattle.dns_name.specs.Name.{Name, IsName}
use Rattle.dns_name.proofs.FirstLemmas.{IsWire-of}
use Rattle.dns_rdata.specs.Record.{shown_as}
use Rattle.dns_message.specs.Encoded.{WritesEncoding}
use Rattle.dns_message.specs.Encoding.{each}
use Rattle.dns_message.specs.Octets.{record_octets}
use Rattle.dns_message.proofs.records.put_stored.Goals as goal

pub put_sets-requires-clause-whole : goal.put_sets-requires-clause-whole
put_sets-requires-clause-whole c = (IsWire-of _ _ c.wire.ensures.octets c.wire.ensures.lawful).whole

pub put_sets-requires-clause-lawful : goal.put_sets-requires-clause-lawful
put_sets-requires-clause-lawful c = subst IsName (sym (IsWire-of _ _ c.wire.ensures.octets c.wire.ensures.lawful).labels) c.wire.ensures.lawful

pub returns : goal.returns
returns c =
    subst (λ (n : Name). WritesEncoding (each record_octets (map (shown_as n (option_map (λ ttl. ttl.0) c.args.shown.now.ttl)) (flat_map (λ set. set) c.args.shown.now.sets.now))) c.args.out.now c.put_sets.new.out c.args.at c.args.names.now c.put_sets.new.names c.put_sets.result)
    ((IsWire-of _ _ c.wire.ensures.octets c.wire.ensures.lawful).labels ∙ c.to_name-owner.ensures) c.put_sets.ensures
