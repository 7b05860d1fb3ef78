-- Each set is passed, or is where so many records lead.
use Rattle.std.proofs.Common.{◌<◌, ◌≤◌, ◌∷◌, length, refl, arith, rules}
use Rattle.transfer_core.proofs.PlaceLemmas.{sets_passed, sets_over}
use Rattle.transfer_core.proofs.step.pass_sets.Goals as goal

pub loop-at-init : goal.loop-at-init
loop-at-init c = λ rest. refl

pub returns-then-left-count-clause-inside : goal.returns-then-left-count-clause-inside
returns-then-left-count-clause-inside c = c.loop-at.invariant

pub loop-at-preserved : goal.loop-at-preserved
loop-at-preserved c = λ rest.
    let here : c.loop-at.at < length (c.args.soa.now ∷ c.args.sets.now) = search rules in
    let within : c.count_of-count.result ≤ c.loop-at.left = omega (arith, c.if-left-count.false) in
    sets_passed c.loop-at.left c.loop-at.at c.count_of-count.result (c.args.soa.now ∷ c.args.sets.now) c.set_at.result.now rest _ here c.set_at.ensures c.count_of-count.ensures.count within (c.loop-at.invariant rest)

pub returns-clause-behind : goal.returns-clause-behind
returns-clause-behind c = λ rest.
    let past : length (c.args.soa.now ∷ c.args.sets.now) ≤ c.loop-at.at = search rules in
    sets_over c.loop-at.left c.loop-at.at (c.args.soa.now ∷ c.args.sets.now) rest _ past (c.loop-at.invariant rest)
