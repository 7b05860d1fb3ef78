use Rattle.std.proofs.Common.{◌∙◌, ◌<◌, All, get_or, ap, arith, rules}
use mir.Val.{Fits}
use mir.Syntax.{w8}
use Rattle.std.proofs.lemmas.Grind.{get_or_default_zero}
use Rattle.dns_name.proofs.BelowLemmas.{sought_of}
use Rattle.dns_name.proofs.LabelLemmas.{wire_of-labels_in}
use Rattle.dns_name.proofs.sought.Sought.of_wire.Goals as goal
use Rattle.std.proofs.Common.{length}

pub put_name-requires-clause-short : goal.put_name-requires-clause-short
put_name-requires-clause-short c =
    let size = ap length (wire_of-labels_in c.args.octets.now c.requires.whole) in
    omega (arith, c.requires.lawful.short)

pub invariant_of-result : goal.invariant_of-result
invariant_of-result c =
    let octets = c.args.octets.now in
    let each : All (λ octet. octet < 256) octets = λ k d within. let fit : Fits w8 (get_or octets k 0) = search rules in omega (arith, fit, get_or_default_zero octets k d within) in
    (sought_of _ octets c.requires.whole c.requires.lawful each (c.as_slice.ensures.value ∙ c.put_name.ensures)).stored

pub returns : goal.returns
returns c =
    let octets = c.args.octets.now in
    let each : All (λ octet. octet < 256) octets = λ k d within. let fit : Fits w8 (get_or octets k 0) = search rules in omega (arith, fit, get_or_default_zero octets k d within) in
    (sought_of _ octets c.requires.whole c.requires.lawful each (c.as_slice.ensures.value ∙ c.put_name.ensures)).named
