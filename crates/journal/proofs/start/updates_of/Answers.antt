use Rattle.std.proofs.Common.{◌<◌, length, refl}
use Rattle.std.proofs.lemmas.Slice.{pushed}
use Rattle.journal.proofs.StartLemmas.{one_batch_more, no_batch_at, told_some, told_none}
use Rattle.journal.proofs.start.updates_of.Goals as goal

pub returns-in-None-clause-refused : goal.returns-in-None-clause-refused
returns-in-None-clause-refused c =
    let none = told_none _ _ _ c.in-None.is c.in_ok-batch.ensures in
    let within : c.loop-number.number < length c.args.bodies.now = c.loop-number-test.true in
    no_batch_at c.args.bodies.now c.loop-number.number _ _ c.loop-number.invariant within none

pub loop-number-preserved : goal.loop-number-preserved
loop-number-preserved c =
    let some = told_some _ _ _ _ c.in-Some.is c.in_ok-batch.ensures in
    one_batch_more c.args.bodies.now c.loop-number.number _ c.loop-number.updates.items c.append.new.self.items c.in-Some.batch.items
    c.loop-number.invariant c.loop-number-test.true some (pushed c.in-Some.batch.items refl c.in_ok-append-in-Some.was c.append.ensures.items)
