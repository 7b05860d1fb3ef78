use Rattle.std.proofs.Common.{◌≡◌, ◌∙◌, true, List, ℕ, sym, ap, subst}
use Rattle.dns_name.specs.Labels.{IsWhole}
use Rattle.dns_name.specs.Name.{IsName, fold_name, is_under}
use Rattle.dns_name.proofs.BelowLemmas.{wire_named}
use Rattle.dns_name.proofs.LabelLemmas.{IsWhole-wire_of}
use Rattle.dns_name.proofs.sought.Sought.below.Goals as goal

pub below_of_wire-requires-clause-whole : goal.below_of_wire-requires-clause-whole
below_of_wire-requires-clause-whole c = subst IsWhole (sym c.wire.ensures.octets) (IsWhole-wire_of c.args.name.now c.wire.ensures.lawful.labels)

pub below_of_wire-requires-clause-lawful : goal.below_of_wire-requires-clause-lawful
below_of_wire-requires-clause-lawful c = subst IsName (sym (wire_named _ _ c.wire.ensures.octets c.wire.ensures.lawful)) c.wire.ensures.lawful

under_at : (name apex own : List (List ℕ)) → own ≡ name → is_under name apex ≡ true → is_under own apex ≡ true
under_at name apex own e under = rw e under

pub below_of_wire-requires-clause-under : goal.below_of_wire-requires-clause-under
below_of_wire-requires-clause-under c = under_at _ _ _ (wire_named _ _ c.wire.ensures.octets c.wire.ensures.lawful) c.requires.under

pub returns : goal.returns
returns c = c.below_of_wire.ensures ∙ ap fold_name (wire_named _ _ c.wire.ensures.octets c.wire.ensures.lawful)
