use Rattle.counted_handles.proofs.HeldLemmas.{its_stake}
use Rattle.counted_handles.proofs.owner.stand.Goals as goal

pub give_up-requires-clause-has : goal.give_up-requires-clause-has
give_up-requires-clause-has g c =
    let has = c.requires.has in
    (has.0, its_stake has.0 c.args.held has.1 c.in-Some.held c.in-Some.is, has.2, has.3)

pub returns-clause-has : goal.returns-clause-has
returns-clause-has g c mark is = c.give_up.ensures.has mark (its_stake mark c.args.held is c.in-Some.held c.in-Some.is)
