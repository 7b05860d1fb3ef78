use Rattle.std.proofs.Common.{ap, ◌∙◌}
use Rattle.counters.specs.Sums.{more_at}
use Rattle.counters.specs.Counters.{number_of}
use Rattle.counters.proofs.CounterLemmas.{others_stay}
use Rattle.counters.proofs.counters.Counters.add_many.Goals as goal

pub returns-clause-others : goal.returns-clause-others
returns-clause-others c =
    let before = c.args.self.now.numbers in
    λ other differs.
    ap (number_of other) (c.add_at.ensures ∙ ap (λ at. more_at at c.args.more before) c.index.ensures.place)
    ∙ others_stay c.args.counter other c.args.more before differs
