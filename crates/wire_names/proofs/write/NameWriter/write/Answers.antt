use Rattle.std.proofs.Common.{◌≡◌, List, ℕ, take, sym, subst, ap, ◌∙◌}
use Rattle.std.specs.Option.{IfSome}
use Rattle.dns_name.specs.Labels.{labels_in, IsWhole}
use Rattle.dns_name.specs.Name.{Name, wire_of, IsName}
use Rattle.dns_name.proofs.LabelLemmas.{IsWhole-wire_of, labels_in-wire_of}
use Rattle.wire_names.specs.Table.{table_of}
use Rattle.wire_names.specs.Written.{written, table_after, WritesOctets}
use Rattle.wire_names.proofs.write.NameWriter.write.Goals as goal

same : (name : Name) (octets : List ℕ) → octets ≡ wire_of name → IsName name → labels_in octets ≡ name
same name octets e lawful = ap labels_in e ∙ labels_in-wire_of name lawful.labels

pub write_octets-requires-clause-whole : goal.write_octets-requires-clause-whole
write_octets-requires-clause-whole c = subst IsWhole (sym c.wire.ensures.octets) (IsWhole-wire_of c.args.name.now c.wire.ensures.lawful.labels)

pub write_octets-requires-clause-lawful : goal.write_octets-requires-clause-lawful
write_octets-requires-clause-lawful c = subst IsName (sym (same c.args.name.now _ c.wire.ensures.octets c.wire.ensures.lawful)) c.wire.ensures.lawful

pub returns-clause-octets : goal.returns-clause-octets
returns-clause-octets c =
    subst (λ (n : Name). WritesOctets c.args.out.now c.write_octets.new.out c.args.at (written c.args.compress (table_of (take c.args.at c.args.out.now) c.args.self.now) n) c.write_octets.result)
    (same c.args.name.now _ c.wire.ensures.octets c.wire.ensures.lawful) c.write_octets.ensures.octets

pub returns-clause-entered : goal.returns-clause-entered
returns-clause-entered c =
    subst (λ (n : Name). IfSome c.write_octets.result (λ next. table_of (take next c.write_octets.new.out) c.write_octets.new.self ≡ table_after c.args.compress (table_of (take c.args.at c.args.out.now) c.args.self.now) c.args.at n))
    (same c.args.name.now _ c.wire.ensures.octets c.wire.ensures.lawful) c.write_octets.ensures.entered
