use Rattle.std.proofs.Common.{◌∙◌, ap, length, arith, rules}
use Rattle.dns_name.proofs.BelowLemmas.{level_stored, below_step}
use Rattle.dns_name.proofs.sought.+put_below.Goals as goal

pub returns-then-octets-base : goal.returns-then-octets-base
returns-then-octets-base t c = c.requires.stored ∙ level_stored _ _ c.requires.whole c.requires.others c.if-octets-base.true c.requires.under

pub put_below-requires : goal.put_below-requires
put_below-requires t c =
    let first = c.in-Some.ensures in
    let step = below_step _ _ _ _ c.requires.whole c.requires.others c.if-octets-base.false c.requires.under first in
    let shorter = step.shorter in
    (search rules, (first.whole, (omega (arith, c.requires.short), (c.requires.others, (step.under, c.requires.stored)))))

pub put_folded-requires : goal.put_folded-requires
put_folded-requires t c =
    let step = below_step _ _ _ _ c.requires.whole c.requires.others c.if-octets-base.false c.requires.under c.in-Some.ensures in
    let put = ap length c.put_below.ensures in
    omega (arith, c.requires.short, step.room)
