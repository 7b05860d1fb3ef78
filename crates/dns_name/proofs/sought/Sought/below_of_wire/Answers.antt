use Rattle.std.proofs.Common.{◌≡◌, ◌∙◌, ◌<◌, true, List, ℕ, All, get_or, sym, ap, subst, length, arith, rules}
use mir.Val.{Fits}
use mir.Syntax.{w8}
use Rattle.std.proofs.lemmas.Grind.{get_or_default_zero}
use Rattle.dns_name.specs.Labels.{IsWhole}
use Rattle.dns_name.specs.Name.{is_under}
use Rattle.dns_name.specs.Stored.{stored_of}
use Rattle.dns_name.proofs.BelowLemmas.{wire_named, sought_of, stored_fits}
use Rattle.dns_name.proofs.LabelLemmas.{IsWhole-wire_of, wire_of-labels_in}
use Rattle.dns_name.proofs.StoredLemmas.{stored_folded}
use Rattle.dns_name.proofs.sought.Sought.below_of_wire.Goals as goal

pub put_octets-requires : goal.put_octets-requires
put_octets-requires c = stored_fits _ c.octets.ensures.stored

pub put_below-requires-clause-short : goal.put_below-requires-clause-short
put_below-requires-clause-short c = let size = ap length (wire_of-labels_in c.args.octets.now c.requires.whole) in omega (arith, c.requires.lawful.short)

pub put_below-requires-clause-others : goal.put_below-requires-clause-others
put_below-requires-clause-others c = subst IsWhole (sym c.wire-base.ensures.octets) (IsWhole-wire_of c.args.apex.now c.wire-base.ensures.lawful.labels)

under_at : (name apex others : List (List ℕ)) → others ≡ apex → is_under name apex ≡ true → is_under name others ≡ true
under_at name apex others e under = rw e under

pub put_below-requires-clause-under : goal.put_below-requires-clause-under
put_below-requires-clause-under c = under_at _ _ _ (wire_named _ _ c.wire-base.ensures.octets c.wire-base.ensures.lawful) c.requires.under

pub put_below-requires-clause-stored : goal.put_below-requires-clause-stored
put_below-requires-clause-stored c =
    let base = wire_named _ _ c.wire-base.ensures.octets c.wire-base.ensures.lawful in
    c.put_octets.ensures ∙ stored_folded _ c.args.top.now c.args.apex.now c.octets.ensures.stored c.octets.ensures.name c.requires.top ∙ ap stored_of (sym base)

pub invariant_of-result : goal.invariant_of-result
invariant_of-result c =
    let octets = c.args.octets.now in
    let each : All (λ octet. octet < 256) octets = λ k d within. let fit : Fits w8 (get_or octets k 0) = search rules in omega (arith, fit, get_or_default_zero octets k d within) in
    (sought_of _ octets c.requires.whole c.requires.lawful each (c.as_slice.ensures.value ∙ c.put_below.ensures)).stored

pub returns : goal.returns
returns c =
    let octets = c.args.octets.now in
    let each : All (λ octet. octet < 256) octets = λ k d within. let fit : Fits w8 (get_or octets k 0) = search rules in omega (arith, fit, get_or_default_zero octets k d within) in
    (sought_of _ octets c.requires.whole c.requires.lawful each (c.as_slice.ensures.value ∙ c.put_below.ensures)).named
