use Rattle.std.proofs.Common.{rules}
use Rattle.wide_text.proofs.KeyedLemmas.{found, less_on, passed, twice}
use Rattle.wide_text.proofs.keyed.place_of.Goals as goal

pub returns-then-key-other-clause-place : goal.returns-then-key-other-clause-place
returns-then-key-other-clause-place c =
    found c.args.others.now c.args.key c.loop-place.place c.index-others-place.result (search rules) c.loop-place.invariant (search rules)

pub returns-then-key-other-2-clause-fault : goal.returns-then-key-other-2-clause-fault
returns-then-key-other-2-clause-fault c =
    twice c.args.others.now c.args.key c.loop-place.place c.index-others-place.result (search rules) c.loop-place.invariant (search rules)

pub loop-place-preserved : goal.loop-place-preserved
loop-place-preserved c =
    less_on c.args.others.now c.args.key c.loop-place.place c.index-others-place.result (search rules) c.loop-place.invariant (search rules)

pub returns-clause-place : goal.returns-clause-place
returns-clause-place c = passed c.args.others.now c.args.key c.loop-place.place (search rules) c.loop-place.invariant
