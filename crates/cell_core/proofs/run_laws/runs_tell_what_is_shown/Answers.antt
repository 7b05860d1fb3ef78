-- Step by step.
use Rattle.cell_core.proofs.RunLawLemmas.{from_first, shown_cell}
use Rattle.cell_core.proofs.run_laws.runs_tell_what_is_shown.Goals as goal

pub returns : goal.returns
returns g c first after run r =
    let reported = from_first first after run r in
    (reported.next, reported.shows, reported.published, λ number. (shown_cell first after run r number, reported.buries number))
