use Rattle.std.proofs.Common.{arith}
use Rattle.store_files.proofs.StillLemmas.{is_in_front, last_is_no_zero}
use Rattle.store_files.proofs.read.in_front_of_zeros.Goals as goal

pub returns-then-last-ne0 : goal.returns-then-last-ne0
returns-then-last-ne0 c =
    let front = c.loop-last.front.now in
    is_in_front c.args.octets.now front c.loop-last.invariant (last_is_no_zero front c.in-Some.before.now c.in-Some.last.now c.in-Some.ensures.cases c.if-last-ne0.true)

pub returns-in_default : goal.returns-in_default
returns-in_default c = is_in_front c.args.octets.now c.loop-last.front.now c.loop-last.invariant (λ some. absurd (omega (arith, c.in_default.ensures.cases, some)))
