-- What is buried was told.
use Rattle.std.proofs.Common.{ap, ◌∙◌, length}
use Rattle.cell_core.proofs.RestLemmas.{rest_buried, rest_free, rest_weak}
use Rattle.cell_core.proofs.RunLawLemmas.{from_first, shown_cell}
use Rattle.cell_core.proofs.run_laws.rest_was_buried.Goals as goal

pub returns-clause-buried : goal.returns-clause-buried
returns-clause-buried g c first after run from last r is at number =
    let reported = from_first first after run r in
    let rest = rest_buried after reported.next from last reported.shows (ap length reported.published ∙ is) at number in
    (λ b. rest.0 (reported.buries number b), λ l. shown_cell first after run r number (rest.1 l))

pub returns-clause-free : goal.returns-clause-free
returns-clause-free g c first after run from last r is at =
    let reported = from_first first after run r in
    rest_free after reported.next from last reported.shows (ap length reported.published ∙ is) at

pub returns-clause-weak_word : goal.returns-clause-weak_word
returns-clause-weak_word g c first after run from last r is at =
    let reported = from_first first after run r in
    rest_weak after reported.next from last reported.shows (ap length reported.published ∙ is) at
