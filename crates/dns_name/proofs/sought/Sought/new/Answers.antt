use Rattle.std.proofs.Common.{sym, ap, subst, ◌∙◌}
use Rattle.dns_name.specs.Labels.{IsWhole}
use Rattle.dns_name.specs.Name.{IsName, fold_name}
use Rattle.dns_name.proofs.BelowLemmas.{wire_named}
use Rattle.dns_name.proofs.LabelLemmas.{IsWhole-wire_of}
use Rattle.dns_name.proofs.sought.Sought.new.Goals as goal

pub of_wire-requires-clause-whole : goal.of_wire-requires-clause-whole
of_wire-requires-clause-whole c = subst IsWhole (sym c.wire.ensures.octets) (IsWhole-wire_of c.args.name.now c.wire.ensures.lawful.labels)

pub of_wire-requires-clause-lawful : goal.of_wire-requires-clause-lawful
of_wire-requires-clause-lawful c = subst IsName (sym (wire_named _ _ c.wire.ensures.octets c.wire.ensures.lawful)) c.wire.ensures.lawful

pub returns : goal.returns
returns c = c.of_wire.ensures ∙ ap fold_name (wire_named _ _ c.wire.ensures.octets c.wire.ensures.lawful)
