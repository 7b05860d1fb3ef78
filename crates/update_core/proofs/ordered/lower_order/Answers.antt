use Rattle.std.proofs.Common.{◌≡◌, ◌∙◌, rules, arith, sym}
use Rattle.std.specs.List.{list_any}
use Rattle.update_core.proofs.WireLemmas.{lower_behind}
use Rattle.update_core.proofs.ordered.lower_order.Goals as goal

-- the octets in front are the same
pub loop-some-preserved : goal.loop-some-preserved
loop-some-preserved c =
    let alike : c.in-Some-Some.some.now ≡ c.in-Some-Some.same.now = search rules in
    c.loop-some.invariant
    ∙ lower_behind 8 c.loop-some.rest.now c.loop-some.others.now c.in-Some-Some.some.now c.in-Some-Some.same.now c.in-Some-Some.behind.now c.in-Some-Some.after.now
    c.in-Some-Some.ensures.cases.0 c.in-Some-Some.ensures.cases.1 c.in-Some-Some.ensures'.cases.0 c.in-Some-Some.ensures'.cases.1 alike
